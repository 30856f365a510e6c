use Rattle.plx_radix.proofs.Paths.{paths_agree}
use Rattle.plx_radix.proofs.paths_agree.Goals as goal

pub returns : goal.returns
returns c = paths_agree
