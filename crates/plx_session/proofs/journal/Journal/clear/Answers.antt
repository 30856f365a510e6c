use Rattle.std.proofs.Common.{ap}
use Rattle.plx_session.specs.PlacedWrites.{writes_in}
use Rattle.plx_session.proofs.journal.Journal.clear.Goals as goal

pub returns-clause-writes : goal.returns-clause-writes
unfolding writes_in
returns-clause-writes c = ap (writes_in c.clear-2.new.self.items) c.clear.ensures.items
