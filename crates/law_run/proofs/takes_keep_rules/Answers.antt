use Rattle.law_run.proofs.TakeRules.{takes-keep-rules}
use Rattle.law_run.proofs.takes_keep_rules.Goals as goal

pub returns : goal.returns
returns c = takes-keep-rules
