-- Each place is a block of the device.
use Rattle.std.proofs.Common.{◌<◌, arith}
use Rattle.plx_geom.specs.Geometry.{Geometry, IsGeometry, block_count, root_lease, image_lease, extent_lease}
use Rattle.plx_geom.specs.Places.{IsPlace, block_of}
use Rattle.plx_geom.specs.declared.place.Place.{Place}
use Rattle.plx_geom.specs.declared.place.Place.TheVariants.{Super, RootLease, ImageLease, ExtentLease, Record, Log, JDesc, JData, Map, Pool}
use Rattle.plx_geom.proofs.Places.{lease-within, record-within, log-within, descriptor-within, data-within, map-within, pool-within}

pub place-within : (g : Geometry) (p : Place) → IsGeometry g → IsPlace g p → block_of g p < block_count g
place-within g Super limits is = omega arith
place-within g RootLease limits is = lease-within g root_lease (omega arith)
place-within g (ImageLease image) limits is = lease-within g (image_lease image.0) (omega (arith, is))
place-within g (ExtentLease extent) limits is = lease-within g (extent_lease g extent.0) (omega (arith, is))
place-within g (Record image) limits is = record-within g image.0 is
place-within g (Log image) limits is = log-within g image.0 is
place-within g (JDesc image slot) limits is = descriptor-within g image.0 slot is.0 is.1
place-within g (JData image slot) limits is = data-within g image.0 slot is.0 is.1
place-within g (Map extent) limits is = map-within g extent.0 (omega (arith, limits.blocks_low)) is
place-within g (Pool extent bit) limits is = pool-within g extent.0 bit is.0 is.2
