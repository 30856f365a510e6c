use Rattle.law_headline.proofs.TreeRules.{one-level, one-path, reachable-allocated}
use Rattle.law_headline.proofs.reachable_blocks_are_allocated.Goals as goal

pub returns : goal.returns
returns c = record { allocated = reachable-allocated; level = one-level; single = one-path }
