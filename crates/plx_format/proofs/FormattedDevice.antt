-- The device that formatting leaves is formatted.
use Rattle.std.proofs.Common.{◌≡◌, ◌≢◌, ℕ, ◌≤◌, ◌<◌, length, refl, sym, ◌∙◌, arith}
use Rattle.plx_base.proofs.Devices.{put-same, put-other, put-all}
use Rattle.plx_base.proofs.Spelling.{length-zeros}
use Rattle.plx_base.specs.Blocks.{zeros}
use Rattle.plx_base.specs.Sectors.{Device, put}
use Rattle.plx_base.specs.declared.lease.LeaseRecord.TheVariants as lease_is
use Rattle.plx_format.proofs.Filled.{put-blocks-in, put-blocks-out, put-blocks-whole}
use Rattle.plx_format.specs.Formatting.{put_blocks}
use Rattle.plx_gate.proofs.Images.{length-image}
use Rattle.plx_gate.proofs.Leases.{length-lease}
use Rattle.plx_gate.specs.Images.{image_bytes}
use Rattle.plx_gate.specs.Leases.{lease_bytes}
use Rattle.plx_gate.specs.declared.image.ImageRecord.TheVariants as image_is
use Rattle.plx_geom.proofs.Places.{map-descriptor, map-data, map-pool}
use Rattle.plx_geom.proofs.Superblocks.{length-superblock}
use Rattle.plx_geom.specs.Geometry.{Geometry, lease_count, lease_at, root_lease, image_lease, extent_lease, record_at, log_at, descriptor_at, data_at, extents_start, map_at, pool_at}
use Rattle.plx_geom.specs.Places.{IsPlace, block_of}
use Rattle.plx_geom.specs.Superblock.{superblock_bytes}
use Rattle.plx_geom.specs.declared.place.Place.{Place}
use Rattle.plx_geom.specs.declared.place.Place.TheVariants.{Super, RootLease, ImageLease, ExtentLease, Record, Log, JDesc, JData, Map, Pool}
use Rattle.plx_rules.specs.Formatted.{empty_map, formatted_block, IsFormatted}
use Rattle.plx_rules.proofs.Maps.{length-map}

-- a device of zeros with its superblock
abbrev pub with_super : Geometry → Device
with_super g = put (λ block. zeros) 0 (superblock_bytes g)

-- and with its leases
abbrev pub with_leases : Geometry → Device
with_leases g = put_blocks (with_super g) (lease_at root_lease) 1 (lease_count g) (lease_bytes lease_is.Free)

-- and with its records
abbrev pub with_records : Geometry → Device
with_records g = put_blocks (with_leases g) (record_at g 0) 1 g.images (image_bytes (image_is.Free 0))

-- and with its maps
abbrev pub with_maps : Geometry → Device
with_maps g = put_blocks (with_records g) (map_at g 0) g.extent_blocks g.extents empty_map

module _ (g : Geometry) where
  -- each block is whole
  whole : (b : ℕ) → length (with_maps g b) ≡ 4096
  whole =
      put-blocks-whole (with_records g) (map_at g 0) g.extent_blocks g.extents empty_map length-map
      (put-blocks-whole (with_leases g) (record_at g 0) 1 g.images (image_bytes (image_is.Free 0)) (length-image (image_is.Free 0) (omega arith))
      (put-blocks-whole (with_super g) (lease_at root_lease) 1 (lease_count g) (lease_bytes lease_is.Free) (length-lease lease_is.Free)
      (put-all (λ n x. length x ≡ 4096) (λ block. zeros) 0 (superblock_bytes g) (length-superblock g) (λ n other. length-zeros))))

  -- the maps, and what stands where no map does
  at-map : (b extent : ℕ) → extent < g.extents → b ≡ map_at g extent → with_maps g b ≡ empty_map
  at-map b extent is here = put-blocks-in (with_records g) (map_at g 0) g.extent_blocks g.extents empty_map b extent is (omega (arith, here))

  no-map : (b : ℕ) → ((extent : ℕ) → extent < g.extents → b ≢ map_at g extent) → with_maps g b ≡ with_records g b
  no-map b apart = put-blocks-out (with_records g) (map_at g 0) g.extent_blocks g.extents empty_map b (λ extent is here. apart extent is (omega (arith, here)))

  before-maps : (b : ℕ) → b < extents_start g → with_maps g b ≡ with_records g b
  before-maps b under = no-map b (λ extent is here. omega (arith, under, here))

  -- the records, and what stands where no record does
  at-record : (b image : ℕ) → image < g.images → b ≡ record_at g image → with_records g b ≡ image_bytes (image_is.Free 0)
  at-record b image is here = put-blocks-in (with_leases g) (record_at g 0) 1 g.images (image_bytes (image_is.Free 0)) b image is (omega (arith, here))

  before-records : (b : ℕ) → b < record_at g 0 → with_records g b ≡ with_leases g b
  before-records b under = put-blocks-out (with_leases g) (record_at g 0) 1 g.images (image_bytes (image_is.Free 0)) b (λ image is here. omega (arith, under, here))

  -- the leases
  at-lease : (b lease : ℕ) → lease < lease_count g → b ≡ lease_at lease → with_maps g b ≡ lease_bytes lease_is.Free
  at-lease b lease is here =
      before-maps b (omega (arith, is, here))
      ∙ (before-records b (omega (arith, is, here))
      ∙ put-blocks-in (with_super g) (lease_at root_lease) 1 (lease_count g) (lease_bytes lease_is.Free) b lease is (omega (arith, here)))

  -- past the records there are zeros
  past-records : (b : ℕ) → log_at g 0 ≤ b → with_records g b ≡ zeros
  past-records b past =
      put-blocks-out (with_leases g) (record_at g 0) 1 g.images (image_bytes (image_is.Free 0)) b (λ image is here. omega (arith, past, is, here))
      ∙ (put-blocks-out (with_super g) (lease_at root_lease) 1 (lease_count g) (lease_bytes lease_is.Free) b (λ lease is here. omega (arith, past, is, here))
      ∙ put-other (λ block. zeros) 0 (superblock_bytes g) b (λ here. omega (arith, past, here)))

  -- the superblock
  at-super : with_maps g 0 ≡ superblock_bytes g
  at-super =
      before-maps 0 (omega arith)
      ∙ (before-records 0 (omega arith)
      ∙ (put-blocks-out (with_super g) (lease_at root_lease) 1 (lease_count g) (lease_bytes lease_is.Free) 0 (λ lease is here. omega (arith, here))
      ∙ put-same (λ block. zeros) 0 (superblock_bytes g)))

  at-place : (place : Place) → IsPlace g place → with_maps g (block_of g place) ≡ formatted_block g place
  at-place Super is = at-super
  at-place RootLease is = at-lease (lease_at root_lease) root_lease (omega arith) refl
  at-place (ImageLease image) is = at-lease (lease_at (image_lease image.0)) (image_lease image.0) (omega (arith, is)) refl
  at-place (ExtentLease extent) is = at-lease (lease_at (extent_lease g extent.0)) (extent_lease g extent.0) (omega (arith, is)) refl
  at-place (Record image) is = before-maps (record_at g image.0) (omega (arith, is)) ∙ at-record (record_at g image.0) image.0 is refl
  at-place (Log image) is = before-maps (log_at g image.0) (omega (arith, is)) ∙ past-records (log_at g image.0) (omega arith)
  at-place (JDesc image slot) is =
      no-map (descriptor_at g image.0 slot) (λ extent is-extent here. map-descriptor g extent image.0 slot is.0 is.1 (sym here))
      ∙ past-records (descriptor_at g image.0 slot) (omega arith)
  at-place (JData image slot) is =
      no-map (data_at g image.0 slot) (λ extent is-extent here. map-data g extent image.0 slot is.0 is.1 (sym here))
      ∙ past-records (data_at g image.0 slot) (omega arith)
  at-place (Map extent) is = at-map (map_at g extent.0) extent.0 is refl
  at-place (Pool extent bit) is =
      no-map (pool_at g extent.0 bit) (λ other is-other here. map-pool g other extent.0 bit is.1 is.2 (sym here))
      ∙ past-records (pool_at g extent.0 bit) (omega arith)

  -- it is formatted
  pub with-maps-is : IsFormatted g (with_maps g)
  with-maps-is = record { whole = whole; places = at-place }
