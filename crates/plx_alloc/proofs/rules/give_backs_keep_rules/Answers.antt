use Rattle.plx_alloc.proofs.GiveBackRules.{give-backs-keep-rules}
use Rattle.plx_alloc.proofs.rules.give_backs_keep_rules.Goals as goal

pub returns : goal.returns
returns c = give-backs-keep-rules
