use Rattle.law_lease.proofs.Waits.{waits-rest-as-asked}
use Rattle.law_lease.proofs.waits_rest_as_asked.Goals as goal

pub returns : goal.returns
returns c = waits-rest-as-asked
