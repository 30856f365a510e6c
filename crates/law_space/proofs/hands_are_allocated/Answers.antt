use Rattle.law_space.proofs.Hands.{hands-allocated}
use Rattle.law_space.proofs.hands_are_allocated.Goals as goal

pub returns : goal.returns
returns c = hands-allocated
