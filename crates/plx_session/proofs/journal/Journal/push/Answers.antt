use Rattle.std.proofs.Common.{◌≡◌, length, ◌∙◌, arith}
use Rattle.plx_session.proofs.PlacedBlocks.{writes-pushed}
use Rattle.plx_session.proofs.journal.Journal.push.Goals as goal

pub returns-clause-writes : goal.returns-clause-writes
returns-clause-writes c =
    let j = c.args.self.now in
    let at : c.len-count.result ≡ length j.writes.items = omega (arith, c.len-count.ensures, j.writes.ok.0) in
    c.put.ensures.writes ∙ rw at (writes-pushed j.bytes.items j.writes.items _)
