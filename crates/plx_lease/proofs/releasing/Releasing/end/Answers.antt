use Rattle.std.proofs.Common.{refl}
use Rattle.law_run.proofs.ReleaseRules.{release-end}
use Rattle.plx_lease.proofs.releasing.Releasing.end.Goals as goal

pub returns-clause-rules : goal.returns-clause-rules
returns-clause-rules g c = rw c.in-Some.is (release-end _ _ refl)
