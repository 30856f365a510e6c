use Rattle.law_space.proofs.Landings.{gives-clear}
use Rattle.law_space.proofs.gives_clear.Goals as goal

pub returns : goal.returns
returns c = gives-clear
