use Rattle.law_run.proofs.ClaimRules.{claims-keep-rules}
use Rattle.law_run.proofs.claims_keep_rules.Goals as goal

pub returns : goal.returns
returns c = claims-keep-rules
