use Rattle.law_run.proofs.Begun.{runs-keep-rules}
use Rattle.law_run.proofs.runs_keep_rules.Goals as goal

pub returns : goal.returns
returns c = runs-keep-rules
