use Rattle.law_lease.proofs.Homes.{writes-have-homes}
use Rattle.law_lease.proofs.writes_have_homes.Goals as goal

pub returns : goal.returns
returns c = writes-have-homes
