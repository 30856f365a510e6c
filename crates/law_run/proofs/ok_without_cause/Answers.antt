use Rattle.law_run.proofs.Completeness.{ok-without-cause}
use Rattle.law_run.proofs.ok_without_cause.Goals as goal

pub returns : goal.returns
returns c = ok-without-cause
