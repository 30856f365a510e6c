use Rattle.law_run.proofs.ReleaseRules.{releases-keep-rules}
use Rattle.law_run.proofs.releases_keep_rules.Goals as goal

pub returns : goal.returns
returns c = releases-keep-rules
