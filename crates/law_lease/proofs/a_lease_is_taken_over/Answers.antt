use Rattle.law_lease.proofs.Witness.{taken-over}
use Rattle.law_lease.proofs.a_lease_is_taken_over.Goals as goal

pub returns : goal.returns
returns c = taken-over
