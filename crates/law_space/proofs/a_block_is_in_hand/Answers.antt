use Rattle.law_space.proofs.Witness.{block-in-hand}
use Rattle.law_space.proofs.a_block_is_in_hand.Goals as goal

pub returns : goal.returns
returns c = block-in-hand
