-- What is asked is on the device, and concerns a lease only where the machine says so.
use Rattle.std.proofs.Common.{◌≡◌, ◌<◌, ℕ, sym, subst, arith}
use Rattle.plx_disk.specs.declared.ask.Ask.{Ask}
use Rattle.plx_disk.specs.declared.ask.Ask.TheVariants as ask
use Rattle.plx_geom.specs.Geometry.{Geometry, IsGeometry, block_count, extent_lease, lease_at, lease_count, map_at}
use Rattle.plx_geom.proofs.Places.{extent-below, lease-within, map-within}
use Rattle.plx_rules.specs.Machines.{AsksOnly}
use Rattle.plx_alloc.specs.Asking.{IsOnDevice}

-- what asks of a block of the device alone is on the device
pub asks-within : (g : Geometry) (block : ℕ) (q : Ask) → block < block_count g → AsksOnly block q → IsOnDevice g q
asks-within g block (ask.Read read) within own = subst (λ (b : ℕ). b < block_count g) (sym own) within
asks-within g block (ask.Write k to guard) within own = (subst (λ (b : ℕ). b < block_count g) (sym own.0) within, own.1)
asks-within g block ask.Clock within own = tt
asks-within g block (ask.Until from) within own = tt

-- so is what asks of the lease of an extent alone
pub lease-asks-within : (g : Geometry) (extent lease : ℕ) (q : Ask) → extent < g.extents → lease ≡ extent_lease g extent → AsksOnly (lease_at lease) q → IsOnDevice g q
lease-asks-within g extent lease q inside is own =
    asks-within g (lease_at (extent_lease g extent)) q (lease-within g (extent_lease g extent) (extent-below g extent inside))
    (subst (λ (n : ℕ). AsksOnly (lease_at n) q) is own)

-- the map of an extent is on the device
pub map-on-device : (g : Geometry) (extent map : ℕ) → IsGeometry g → extent < g.extents → map ≡ map_at g extent → map < block_count g
map-on-device g extent map limits inside is =
    let low = limits.blocks_low in
    subst (λ (b : ℕ). b < block_count g) (sym is) (map-within g extent (omega (arith, low)) inside)

-- and no lease's block
pub map-is-no-lease : (g : Geometry) (extent map : ℕ) → map ≡ map_at g extent → lease_count g < map
map-is-no-lease g extent map is = omega (arith, is)
