use Rattle.law_lease.proofs.Owners.{guarding}
use Rattle.law_lease.proofs.guarding.Goals as goal

pub returns : goal.returns
returns c = guarding
