use Rattle.law_space.proofs.Landings.{takes-set}
use Rattle.law_space.proofs.takes_set.Goals as goal

pub returns : goal.returns
returns c = takes-set
