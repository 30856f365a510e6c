use Rattle.std.proofs.Common.{length, rules}
use Rattle.plx_base.proofs.Spelling.{zeros-is}
use Rattle.plx_base.proofs.block.Block.clear.Goals as goal

pub returns : goal.returns
returns c = zeros-is c.fill.new.self (length c.deref_mut.result.now) (search rules) (c.fill.ensures.after (λ y e. e))
