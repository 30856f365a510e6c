-- Maps that are counted, one extent after another.
use Rattle.std.proofs.Common.{◌≡◌, ℕ, suc, ◌+◌, ◌<◌, List, refl, subst, arith}
use Rattle.std.specs.Prelude.{◌-◌}
use Rattle.plx_base.specs.Blocks.{zeros}
use Rattle.plx_base.specs.Sectors.{Device}
use Rattle.plx_extent.specs.Maps.{HoldsMap, allocated_count, bits_of}
use Rattle.plx_extent.proofs.Reading.{even-none}
use Rattle.plx_geom.specs.Geometry.{Geometry, map_at}
use Rattle.plx_rules.specs.Pools.{allocated_from}

-- zeros are no map
pub zeros-none : (blocks : ℕ) (bytes : List ℕ) → bytes ≡ zeros → HoldsMap blocks bytes → ⊥
unfolding zeros
zeros-none blocks bytes same holds = even-none blocks (bits_of blocks bytes) bytes holds.most holds.is holds.spelled (rw same refl)

-- one extent more is counted
pub one-more-extent : (g : Geometry) (device : Device) (total count extent whole : ℕ) → extent < g.extents → count ≡ allocated_count (bits_of g.extent_blocks (device (map_at g extent))) →
    total + allocated_from g device (g.extents - extent) extent ≡ whole → total + count + allocated_from g device (g.extents - (extent + 1)) (extent + 1) ≡ whole
one-more-extent g device total count extent whole below is before =
    let one : g.extents - extent ≡ suc (g.extents - (extent + 1)) = omega (arith, below) in
    let at : total + allocated_from g device (suc (g.extents - (extent + 1))) extent ≡ whole = subst (λ n. total + allocated_from g device n extent ≡ whole) one before in
    omega (arith, at, is)
