use Rattle.std.proofs.Common.{refl}
use Rattle.plx_rules.specs.Formatted.{empty_map}
use Rattle.plx_format.proofs.contents.empty_map.Goals as goal

pub returns : goal.returns
unfolding empty_map
returns c = refl
