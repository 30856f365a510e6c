use Rattle.std.proofs.Common.{◌≡◌, subst, sym}
use Rattle.plx_geom.specs.Geometry.{Geometry}
use Rattle.plx_rules.specs.Pools.{HasMaps, allocated_from}
use Rattle.plx_world.proofs.world.World.allocated.Goals as goal

pub returns : goal.returns
returns c w reached stands =
    let maps = subst (λ (g : Geometry). HasMaps g w.surface.device) (sym stands.geometry) (c.maps_stay.ensures w reached) in
    subst (λ (g : Geometry). c.allocated.result ≡ allocated_from g w.surface.device g.extents 0) stands.geometry (c.allocated.ensures w.surface stands.surface maps)
