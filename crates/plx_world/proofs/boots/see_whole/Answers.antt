use Rattle.plx_world.proofs.Booting.{whole-all}
use Rattle.plx_world.proofs.boots.see_whole.Goals as goal

pub returns-in-All : goal.returns-in-All
returns-in-All c = whole-all _ _ c.in-All.is
