use Rattle.plx_base.specs.Blocks.{filled, zeros}
use Rattle.plx_base.proofs.block.Block.zeros.Goals as goal

pub returns : goal.returns
unfolding filled zeros
returns c = c.filled.ensures
