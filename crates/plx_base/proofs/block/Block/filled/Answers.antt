use Rattle.plx_base.specs.Blocks.{filled}
use Rattle.plx_base.proofs.block.Block.filled.Goals as goal

pub returns : goal.returns
unfolding filled
returns c = c.in_ok-bytes.ensures.ok
