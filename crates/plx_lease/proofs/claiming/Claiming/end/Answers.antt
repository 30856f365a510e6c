use Rattle.std.proofs.Common.{refl}
use Rattle.law_run.proofs.ClaimRules.{claim-end}
use Rattle.plx_lease.proofs.claiming.Claiming.end.Goals as goal

pub returns-clause-rules : goal.returns-clause-rules
returns-clause-rules g c = rw c.in-Some.is (claim-end _ _ refl)
