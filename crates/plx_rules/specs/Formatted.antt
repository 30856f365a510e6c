-- The device with which a world begins.
use Rattle.std.specs.Prelude.{◌≡◌, ◌∷◌, ℕ, List, length, replicate}
use Rattle.plx_base.specs.Blocks.{zeros}
use Rattle.plx_base.specs.Sectors.{Device}
use Rattle.plx_base.specs.declared.lease.LeaseRecord.TheVariants as lease_is
use Rattle.plx_gate.specs.Images.{image_bytes}
use Rattle.plx_gate.specs.Leases.{lease_bytes}
use Rattle.plx_gate.specs.declared.image.ImageRecord.TheVariants as image_is
use Rattle.plx_geom.specs.Geometry.{Geometry}
use Rattle.plx_geom.specs.Places.{IsPlace, block_of}
use Rattle.plx_geom.specs.Superblock.{superblock_bytes}
use Rattle.plx_geom.specs.declared.place.Place.{Place}
use Rattle.plx_geom.specs.declared.place.Place.TheVariants.{Super, RootLease, ImageLease}
use Rattle.plx_geom.specs.declared.place.Place.TheVariants.{ExtentLease, Record, Log, JDesc, JData}
use Rattle.plx_geom.specs.declared.place.Place.TheVariants.{Map, Pool}

-- the map of an extent of which no block is taken: bit 0, which is the map's own, is set
unfoldable pub empty_map : List ℕ
empty_map = 1 ∷ replicate 4095 0

-- what stands in each place of a formatted device: the superblock,
-- free leases, free records of generation 0, empty maps, and zeros
abbrev pub formatted_block : Geometry → Place → List ℕ
formatted_block g Super = superblock_bytes g
formatted_block g RootLease = lease_bytes lease_is.Free
formatted_block g (ImageLease image) = lease_bytes lease_is.Free
formatted_block g (ExtentLease extent) = lease_bytes lease_is.Free
formatted_block g (Record image) = image_bytes (image_is.Free 0)
formatted_block g (Log image) = zeros
formatted_block g (JDesc image slot) = zeros
formatted_block g (JData image slot) = zeros
formatted_block g (Map extent) = empty_map
formatted_block g (Pool extent bit) = zeros

-- a device is formatted: each block has 4,096 bytes, and each place holds what it is to
pub record IsFormatted (g : Geometry) (device : Device) : Type 0 where
  pub whole : (block : ℕ) → length (device block) ≡ 4096
  pub places : (place : Place) → IsPlace g place →
      device (block_of g place) ≡ formatted_block g place
