use Rattle.law_lease.proofs.Owners.{exclusion}
use Rattle.law_lease.proofs.exclusion.Goals as goal

pub returns : goal.returns
returns c = exclusion
