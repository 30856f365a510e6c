use Rattle.law_space.proofs.Hands.{hands-apart}
use Rattle.law_space.proofs.hands_are_apart.Goals as goal

pub returns : goal.returns
returns c = hands-apart
