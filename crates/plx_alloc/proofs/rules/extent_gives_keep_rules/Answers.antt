use Rattle.plx_alloc.proofs.GiveRules.{extent-gives-keep-rules}
use Rattle.plx_alloc.proofs.rules.extent_gives_keep_rules.Goals as goal

pub returns : goal.returns
returns c = extent-gives-keep-rules
