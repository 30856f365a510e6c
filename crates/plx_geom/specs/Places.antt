-- What stands in each block of a device.
use Rattle.std.specs.Prelude.{◌≤◌, ◌<◌, ℕ}
use Rattle.plx_geom.specs.Geometry.{Geometry, root_lease, image_lease, extent_lease, lease_at}
use Rattle.plx_geom.specs.Geometry.{record_at, log_at, descriptor_at, data_at, map_at, pool_at}
use Rattle.plx_geom.specs.declared.place.Place.{Place}
use Rattle.plx_geom.specs.declared.place.Place.TheVariants.{Super, RootLease, ImageLease}
use Rattle.plx_geom.specs.declared.place.Place.TheVariants.{ExtentLease, Record, Log, JDesc, JData}
use Rattle.plx_geom.specs.declared.place.Place.TheVariants.{Map, Pool}

-- the place is one of the geometry's
abbrev pub IsPlace : Geometry → Place → Type 0
IsPlace g Super = Unit {0}
IsPlace g RootLease = Unit {0}
IsPlace g (ImageLease image) = image.0 < g.images
IsPlace g (ExtentLease extent) = extent.0 < g.extents
IsPlace g (Record image) = image.0 < g.images
IsPlace g (Log image) = image.0 < g.images
IsPlace g (JDesc image slot) = (image.0 < g.images) × (slot < g.slots)
IsPlace g (JData image slot) = (image.0 < g.images) × (slot < g.slots)
IsPlace g (Map extent) = extent.0 < g.extents
IsPlace g (Pool extent bit) = (extent.0 < g.extents) × (1 ≤ bit) × (bit < g.extent_blocks)

-- the block of a place
abbrev pub block_of : Geometry → Place → ℕ
block_of g Super = 0
block_of g RootLease = lease_at root_lease
block_of g (ImageLease image) = lease_at (image_lease image.0)
block_of g (ExtentLease extent) = lease_at (extent_lease g extent.0)
block_of g (Record image) = record_at g image.0
block_of g (Log image) = log_at g image.0
block_of g (JDesc image slot) = descriptor_at g image.0 slot
block_of g (JData image slot) = data_at g image.0 slot
block_of g (Map extent) = map_at g extent.0
block_of g (Pool extent bit) = pool_at g extent.0 bit
