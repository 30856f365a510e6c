use Rattle.std.proofs.Common.{◌<◌, ◌≤◌, length, get_or, sym, ◌∙◌, arith}
use Rattle.plx_session.specs.Shown.{writes_of}
use Rattle.plx_session.specs.PlacedWrites.{write_in}
use Rattle.plx_session.proofs.Numbers.{gap-end, gap-here, gap-next}
use Rattle.plx_session.proofs.PlacedBlocks.{write-at, writes-past}
use Rattle.plx_session.specs.declared.journal.PlacedWrite.{PlacedWrite}
use Rattle.plx_session.proofs.journal.Journal.gap.Goals as goal

pub returns-then-write-before : goal.returns-then-write-before
returns-then-write-before c =
    let j = c.args.self.now in
    let i = c.loop-write.write-index in
    let e = c.deref-write-items.ensures.value in
    let within : i < length j.writes.items = rw e at c.loop-write-test.true in
    let none : PlacedWrite = record { number = 0; vblock = 0; place = 0 } in
    let read = write-at j.bytes.items j.writes.items i none within in
    rw e (sym (c.loop-write.invariant.1 ∙ gap-here c.loop-write.before (writes_of j) i (write_in j.bytes.items (get_or j.writes.items i none)) read.0 read.1 (rw e at c.if-write-before.true)))

pub loop-write-preserved : goal.loop-write-preserved
loop-write-preserved c =
    let j = c.args.self.now in
    let i = c.loop-write.write-index in
    let e = c.deref-write-items.ensures.value in
    let within : i < length j.writes.items = rw e at c.loop-write-test.true in
    let none : PlacedWrite = record { number = 0; vblock = 0; place = 0 } in
    let read = write-at j.bytes.items j.writes.items i none within in (
      omega (arith, c.loop-write.invariant.0),
      c.loop-write.invariant.1 ∙ gap-next c.loop-write.before (writes_of j) i (write_in j.bytes.items (get_or j.writes.items i none)) read.0 read.1 (rw e at c.if-write-before.false),
    )

pub returns : goal.returns
returns c =
    let j = c.args.self.now in
    let e = c.deref-write-items.ensures.value in
    let past : length j.writes.items ≤ c.loop-write.write-index = rw e at c.loop-write-test.false in
    sym (c.loop-write.invariant.1 ∙ gap-end c.loop-write.before (writes_of j) c.loop-write.write-index (writes-past j.bytes.items j.writes.items c.loop-write.write-index past))
