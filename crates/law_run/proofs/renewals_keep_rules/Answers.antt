use Rattle.law_run.proofs.RenewalRules.{renewals-keep-rules}
use Rattle.law_run.proofs.renewals_keep_rules.Goals as goal

pub returns : goal.returns
returns c = renewals-keep-rules
