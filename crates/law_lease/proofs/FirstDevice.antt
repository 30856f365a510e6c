-- A formatted device, of any geometry.
use Rattle.std.proofs.Common.{◌≡◌, ℕ, suc, ◌+◌, ◌-◌, ◌*◌, ◌%◌, ◌≤◌, ◌<◌, List, length, Bool, true, false, refl, ap, ◌∙◌, arith}
use Rattle.std.specs.Prelude.{◌==◌, ◌&&◌, nat_lt, nat_le}
use Rattle.std.proofs.lemmas.Nat.{mod-mul-add}
use Rattle.plx_base.proofs.Spelling.{length-zeros}
use Rattle.plx_base.proofs.Tests.{eqb-false, nat_le-false, nat_le-true}
use Rattle.plx_base.specs.Blocks.{zeros}
use Rattle.plx_base.specs.Sectors.{Device}
use Rattle.plx_base.specs.declared.lease.LeaseRecord.TheVariants as lease_is
use Rattle.plx_gate.proofs.Images.{length-image}
use Rattle.plx_gate.proofs.Leases.{length-lease}
use Rattle.plx_gate.specs.Images.{image_bytes}
use Rattle.plx_gate.specs.Leases.{lease_bytes}
use Rattle.plx_gate.specs.declared.image.ImageRecord.TheVariants as image_is
use Rattle.plx_geom.proofs.Places.{data-below, descriptor-below}
use Rattle.plx_geom.proofs.Superblocks.{length-superblock}
use Rattle.plx_geom.specs.Geometry.{Geometry, IsGeometry, lease_at, image_lease, extent_lease, record_at, log_at, descriptor_at, data_at, extents_start, map_at, pool_at}
use Rattle.plx_geom.specs.Places.{IsPlace, block_of}
use Rattle.plx_geom.specs.Superblock.{superblock_bytes}
use Rattle.plx_geom.specs.declared.place.Place.{Place}
use Rattle.plx_geom.specs.declared.place.Place.TheVariants.{Super, RootLease, ImageLease, ExtentLease, Record, Log, JDesc, JData, Map, Pool}
use Rattle.plx_rules.specs.Formatted.{empty_map, formatted_block, IsFormatted}
use Rattle.law_lease.specs.FirstDevice.{HasFormatted}
use Rattle.plx_rules.proofs.Maps.{length-map}

-- what stands where, by tests: the superblock, the leases, the records and the maps, in this order
abbrev by_tests : Geometry → (super lease image map : Bool) → List ℕ
by_tests g true lease image map = superblock_bytes g
by_tests g false true image map = lease_bytes lease_is.Free
by_tests g false false true map = image_bytes (image_is.Free 0)
by_tests g false false false true = empty_map
by_tests g false false false false = zeros

-- whether a block is the map of an extent
abbrev begins_extent : Geometry → (block : ℕ) → Bool
begins_extent g block = nat_le (extents_start g) block && ((block - extents_start g) % g.extent_blocks == 0)

-- the formatted device of a geometry
abbrev pub formatted_device : Geometry → Device
formatted_device g = λ block. by_tests g (block == 0) (nat_lt block (record_at g 0)) (nat_lt block (log_at g 0)) (begins_extent g block)

length-tests : (g : Geometry) (super lease image map : Bool) → length (by_tests g super lease image map) ≡ 4096
length-tests g true lease image map = length-superblock g
length-tests g false true image map = length-lease lease_is.Free
length-tests g false false true map = length-image (image_is.Free 0) (omega arith)
length-tests g false false false true = length-map
length-tests g false false false false = length-zeros

module _ (g : Geometry) (geometry : IsGeometry g) where
  at-lease : (b : ℕ) → 1 ≤ b → b < record_at g 0 → formatted_device g b ≡ lease_bytes lease_is.Free
  at-lease b some under = λ i. by_tests g (eqb-false b 0 (λ e. omega (arith, e, some)) i) (nat_le-true (suc b) (record_at g 0) under i) (nat_lt b (log_at g 0)) (begins_extent g b)

  at-record : (b : ℕ) → record_at g 0 ≤ b → b < log_at g 0 → formatted_device g b ≡ image_bytes (image_is.Free 0)
  at-record b past under =
      λ i. by_tests g (eqb-false b 0 (λ e. omega (arith, e, past)) i) (nat_le-false (suc b) (record_at g 0) (omega (arith, past)) i) (nat_le-true (suc b) (log_at g 0) under i) (begins_extent g b)

  -- past the records the map's test decides
  at-rest : (b : ℕ) → log_at g 0 ≤ b → formatted_device g b ≡ by_tests g false false false (begins_extent g b)
  at-rest b past =
      λ i. by_tests g (eqb-false b 0 (λ e. omega (arith, e, past)) i) (nat_le-false (suc b) (record_at g 0) (omega (arith, past)) i) (nat_le-false (suc b) (log_at g 0) (omega (arith, past)) i) (begins_extent g b)

  -- below the extents there are zeros
  at-zeros : (b : ℕ) → log_at g 0 ≤ b → b < extents_start g → formatted_device g b ≡ zeros
  at-zeros b past under =
      at-rest b past ∙ ap (λ (low : Bool). by_tests g false false false (low && ((b - extents_start g) % g.extent_blocks == 0))) (nat_le-false (extents_start g) b under)

  -- a block of an extent
  in-extent : (d bit : ℕ) → bit < g.extent_blocks → begins_extent g (pool_at g d bit) ≡ (bit == 0)
  in-extent d bit below =
      let back : pool_at g d bit - extents_start g ≡ d * g.extent_blocks + bit = omega arith in
      let rest : (pool_at g d bit - extents_start g) % g.extent_blocks ≡ bit = ap (λ n. n % g.extent_blocks) back ∙ mod-mul-add d g.extent_blocks bit below in
      λ i. nat_le-true (extents_start g) (pool_at g d bit) (omega arith) i && (rest i == 0)

  at-extent : (d bit : ℕ) → bit < g.extent_blocks → formatted_device g (pool_at g d bit) ≡ by_tests g false false false (bit == 0)
  at-extent d bit below = at-rest (pool_at g d bit) (omega arith) ∙ ap (by_tests g false false false) (in-extent d bit below)

  at-place : (place : Place) → IsPlace g place → formatted_device g (block_of g place) ≡ formatted_block g place
  at-place Super is = refl
  at-place RootLease is = at-lease 1 (omega arith) (omega arith)
  at-place (ImageLease image) is = at-lease (lease_at (image_lease image.0)) (omega arith) (omega (arith, is))
  at-place (ExtentLease extent) is = at-lease (lease_at (extent_lease g extent.0)) (omega arith) (omega (arith, is))
  at-place (Record image) is = at-record (record_at g image.0) (omega arith) (omega (arith, is))
  at-place (Log image) is = at-zeros (log_at g image.0) (omega arith) (omega (arith, is))
  at-place (JDesc image slot) is = at-zeros (descriptor_at g image.0 slot) (omega arith) (omega (arith, descriptor-below g image.0 slot is.0 is.1))
  at-place (JData image slot) is = at-zeros (data_at g image.0 slot) (omega arith) (data-below g image.0 slot is.0 is.1)
  at-place (Map extent) is =
      let some : 0 < g.extent_blocks = (let low = geometry.blocks_low in omega arith) in
      let e : map_at g extent.0 ≡ pool_at g extent.0 0 = omega arith in
      ap (formatted_device g) e ∙ at-extent extent.0 0 some
  at-place (Pool extent bit) is = at-extent extent.0 bit is.2 ∙ ap (by_tests g false false false) (eqb-false bit 0 (λ e. let some = is.1 in omega (arith, e, some)))

  -- it is formatted
  pub formatted-is : IsFormatted g (formatted_device g)
  formatted-is = record {
    whole = λ block. length-tests g (block == 0) (nat_lt block (record_at g 0)) (nat_lt block (log_at g 0)) (begins_extent g block);
    places = at-place;
  }

pub has-formatted : HasFormatted
has-formatted g geometry = (formatted_device g, formatted-is g geometry)
