use Rattle.law_run.proofs.RetireRules.{retires-keep-rules}
use Rattle.law_run.proofs.retires_keep_rules.Goals as goal

pub returns : goal.returns
returns c = retires-keep-rules
