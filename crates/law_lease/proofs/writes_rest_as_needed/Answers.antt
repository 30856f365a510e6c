use Rattle.law_lease.proofs.Homes.{rests-as-needed}
use Rattle.law_lease.proofs.writes_rest_as_needed.Goals as goal

pub returns : goal.returns
returns c = rests-as-needed
