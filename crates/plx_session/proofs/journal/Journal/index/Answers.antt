use Rattle.std.proofs.Common.{◌≡◌, ◌<◌, ◌≤◌, length, ◌∙◌, arith}
use Rattle.plx_session.specs.Shown.{writes_of}
use Rattle.plx_session.specs.PlacedWrites.{write_in}
use Rattle.plx_session.proofs.Numbers.{from-next, from-here, from-end}
use Rattle.plx_session.proofs.PlacedBlocks.{write-is, writes-past}
use Rattle.plx_session.proofs.journal.Journal.index.Goals as goal

pub loop-index-preserved : goal.loop-index-preserved
loop-index-preserved c = λ w is.
    let j = c.args.self.now in
    let within : c.loop-index.index < length j.writes.items = omega (arith, c.loop-index-test.true, c.len-index-end.ensures, j.writes.ok.0) in
    let read = write-is j.bytes.items j.writes.items c.loop-index.index c.index.result.now within c.index.ensures in
    c.loop-index.invariant w is
    ∙ from-next w (writes_of j) c.loop-index.index (write_in j.bytes.items c.index.result.now) read.0 read.1 (omega (arith, is, c.if-number-index.false))

pub returns-then-number-index-clause-place : goal.returns-then-number-index-clause-place
returns-then-number-index-clause-place c = λ w is.
    let j = c.args.self.now in
    let within : c.loop-index.index < length j.writes.items = omega (arith, c.loop-index-test.true, c.len-index-end.ensures, j.writes.ok.0) in
    let read = write-is j.bytes.items j.writes.items c.loop-index.index c.index.result.now within c.index.ensures in
    c.loop-index.invariant w is
    ∙ from-here w (writes_of j) c.loop-index.index (write_in j.bytes.items c.index.result.now) read.0 read.1 (omega (arith, is, c.if-number-index.true))

pub returns-clause-place : goal.returns-clause-place
returns-clause-place c = λ w is.
    let j = c.args.self.now in
    let past : length j.writes.items ≤ c.loop-index.index = omega (arith, c.loop-index-test.false, c.len-index-end.ensures, j.writes.ok.0) in
    let at : c.len.result ≡ c.loop-index.index = omega (arith, c.len.ensures, c.len-index-end.ensures, c.loop-index-test.false, c.loop-index.auto.index-end) in
    c.loop-index.invariant w is ∙ rw at (from-end w (writes_of j) c.loop-index.index (writes-past j.bytes.items j.writes.items c.loop-index.index past))
