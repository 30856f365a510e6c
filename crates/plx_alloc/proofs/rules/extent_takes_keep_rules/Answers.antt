use Rattle.plx_alloc.proofs.TakeRules.{extent-takes-keep-rules}
use Rattle.plx_alloc.proofs.rules.extent_takes_keep_rules.Goals as goal

pub returns : goal.returns
returns c = extent-takes-keep-rules
