use Rattle.std.proofs.Common.{◌∙◌, ap, sym}
use Rattle.plx_geom.specs.Geometry.{map_at}
use Rattle.plx_format.proofs.Counted.{zeros-none}
use Rattle.plx_format.proofs.count.allocated_of.Goals as goal

pub returns-in_default : goal.returns-in_default
returns-in_default c =
    let g = c.args.geometry.now in
    λ s stands holds. absurd (zeros-none g.extent_blocks (s.device (map_at g c.args.extent.0)) (ap s.device (sym c.number.ensures) ∙ c.in_default.ensures s stands) holds)
