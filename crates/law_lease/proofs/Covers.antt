-- A write's block lies under its home alone.
use Rattle.std.proofs.Common.{◌≡◌, ℕ, ◌<◌, ◌⊎◌, inl, inr, List, Some, None, refl, ap, sym, ◌∙◌, arith}
use Rattle.plx_base.specs.declared.write_kind.WriteKind.{WriteKind}
use Rattle.plx_base.specs.declared.write_kind.WriteKind.TheVariants as kind
use Rattle.plx_geom.proofs.Places.{place-place, lease-record, lease-log, lease-descriptor, lease-data, lease-map}
use Rattle.plx_geom.specs.Geometry.{Geometry, IsGeometry, IsPoolBlock, lease_count, lease_at, image_lease, extent_lease}
use Rattle.plx_geom.specs.Places.{IsPlace, block_of}
use Rattle.plx_geom.specs.declared.place.Place.{Place}
use Rattle.plx_geom.specs.declared.place.Place.TheVariants.{Super, RootLease, ImageLease, ExtentLease, Record, Log, JDesc, JData, Map, Pool}
use Rattle.plx_rules.specs.Homes.{Covers, lease_over}
use Rattle.plx_rules.specs.Rests.{home_of}
use Rattle.law_lease.proofs.Leased.{IsPlaced}

-- no block is covered by two leases
pub one-cover : (g : Geometry) → IsGeometry g → (lease other block : ℕ) → Covers g lease block → Covers g other block → lease ≡ other
one-cover g geometry lease other block a b =
    let some = geometry.blocks_low in
    let same : a.place ≡ b.place = place-place g a.place b.place (omega arith) a.is b.is (a.here ∙ sym b.here) in
    let e : Some lease ≡ Some other = sym a.under ∙ (ap (lease_over g) same ∙ b.under) in
    cc

-- and the block of a lease by none
pub lease-uncovered : (g : Geometry) (lease block name : ℕ) → name < lease_count g → block ≡ lease_at name → Covers g lease block → ⊥
lease-uncovered g lease block name within at covers = go covers.place covers.is (sym at ∙ sym covers.here) covers.under
  where
    go : (place : Place) → IsPlace g place → lease_at name ≡ block_of g place → lease_over g place ≡ Some lease → ⊥
    go Super is here under = cc
    go RootLease is here under = cc
    go (ImageLease image) is here under = cc
    go (ExtentLease extent) is here under = cc
    go (Record image) is here under = lease-record g name image.0 within here
    go (Log image) is here under = lease-log g name image.0 within here
    go (JDesc image slot) is here under = lease-descriptor g name image.0 slot within here
    go (JData image slot) is here under = lease-data g name image.0 slot within here
    go (Map extent) is here under = lease-map g name extent.0 within here
    go (Pool extent bit) is here under = cc

-- nor a block of the pool: it lies under a lease by what reaches it, and not by its place
pub pool-uncovered : (g : Geometry) → IsGeometry g → (lease extent bit block : ℕ) → IsPoolBlock g extent bit block → Covers g lease block → ⊥
pool-uncovered g geometry lease extent bit block pool covers =
    let some = geometry.blocks_low in
    let same : covers.place ≡ Pool (record { 0 = extent }) bit =
    place-place g covers.place (Pool (record { 0 = extent }) bit) (omega arith) covers.is (pool.extent_high, pool.bit_low, pool.bit_high) (covers.here ∙ pool.here) in
    let e : Some lease ≡ None = sym covers.under ∙ ap (lease_over g) same in
    let P : ⊥ = cc in P

-- where a write is written: to the block of a lease, to a block of the pool, or to one that its home covers
pub home-covers : (g : Geometry) (k : WriteKind) (block : ℕ) (bytes rests : List ℕ) → IsPlaced g k block bytes rests →
    ((name : ℕ) × (name < lease_count g) × (block ≡ lease_at name)) ⊎ (((home : ℕ) × (home_of rests ≡ Some home) × Covers g home block) ⊎ ((extent : ℕ) × (bit : ℕ) × IsPoolBlock g extent bit block))
home-covers g kind.Claim block bytes rests placed = inl (placed.0, placed.1, placed.2)
home-covers g kind.Renew block bytes rests placed = inl (placed.0, placed.1, placed.2)
home-covers g kind.Release block bytes rests placed = inl (placed.0, placed.1, placed.2)
home-covers g kind.Take block bytes rests placed = inr (inl (extent_lease g placed.0, ap home_of placed.3, record { place = Map (record { 0 = placed.0 }); is = placed.1; here = sym placed.2; under = refl }))
home-covers g kind.Give block bytes rests placed = inr (inl (extent_lease g placed.0, ap home_of placed.3, record { place = Map (record { 0 = placed.0 }); is = placed.1; here = sym placed.2; under = refl }))
home-covers g kind.Sweep block bytes rests placed = inr (inl (extent_lease g placed.0, ap home_of placed.3, record { place = Map (record { 0 = placed.0 }); is = placed.1; here = sym placed.2; under = refl }))
home-covers g kind.Record block bytes rests placed = inr (inl (image_lease placed.0, ap home_of placed.3.2, record { place = Record (record { 0 = placed.0 }); is = placed.1; here = sym placed.2; under = refl }))
home-covers g kind.JData block bytes rests placed = inr (inl (image_lease placed.0, ap home_of placed.5, record { place = JData (record { 0 = placed.0 }) placed.1; is = (placed.2, placed.3); here = sym placed.4; under = refl }))
home-covers g kind.JCommit block bytes rests placed = inr (inl (image_lease placed.0, ap home_of placed.5, record { place = JDesc (record { 0 = placed.0 }) placed.1; is = (placed.2, placed.3); here = sym placed.4; under = refl }))
home-covers g kind.Fresh block bytes rests placed = inr (inr (placed.0, placed.1, placed.2))
home-covers g kind.Link block bytes rests placed = inr (inr placed.2)
home-covers g kind.Overwrite block bytes rests placed = inr (inr placed.2)
home-covers g other block bytes rests placed = absurd placed

-- the block of a write is covered by no lease but its home
pub write-covered : (g : Geometry) → IsGeometry g → (k : WriteKind) (block : ℕ) (bytes rests : List ℕ) → IsPlaced g k block bytes rests → (lease : ℕ) → Covers g lease block → home_of rests ≡ Some lease
write-covered g geometry k block bytes rests placed lease covers = elim (home-covers g k block bytes rests placed) [
  | inl at ↦ absurd (lease-uncovered g lease block at.0 at.1 at.2 covers)
  | inr (inl home) ↦ home.1 ∙ ap Some (one-cover g geometry home.0 lease block home.2 covers)
  | inr (inr pool) ↦ absurd (pool-uncovered g geometry lease pool.0 pool.1 block pool.2 covers)
]
