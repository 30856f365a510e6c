use Rattle.std.proofs.Common.{arith}
use Rattle.plx_session.proofs.PlacedBlocks.{length-writes}
use Rattle.plx_session.proofs.journal.Journal.len.Goals as goal

pub returns-clause-count : goal.returns-clause-count
returns-clause-count c =
    let j = c.args.self.now in
    omega (arith, c.len.ensures, length-writes j.bytes.items j.writes.items, j.writes.ok.0)
