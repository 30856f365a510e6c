-- Roots by what stands in the records and logs, and blocks of the pool apart from all others.
use Rattle.std.proofs.Common.{◌≡◌, ◌≢◌, ℕ, ◌-◌, ◌/◌, ◌%◌, ◌<◌, ◌≤◌, ◌⊎◌, inl, inr, List, length, Bool, true, false, refl, ap, sym, ◌∙◌, subst, arith}
use Rattle.std.specs.Prelude.{nat_lt}
use Rattle.plx_base.proofs.Devices.{put-other}
use Rattle.plx_base.proofs.Tests.{lt-cases}
use Rattle.plx_base.specs.Sectors.{Device, put}
use Rattle.plx_gate.specs.Images.{read_image}
use Rattle.plx_geom.proofs.Places.{place-place}
use Rattle.plx_geom.specs.Geometry.{Geometry, IsGeometry, record_at, log_at, image_lease}
use Rattle.plx_geom.specs.Places.{IsPlace, block_of}
use Rattle.plx_geom.specs.declared.place.Place.{Place}
use Rattle.plx_geom.specs.declared.place.Place.TheVariants.{Pool}
use Rattle.plx_radix.specs.Nodes.{pointer_at}
use Rattle.plx_radix.specs.Paths.{Hole, To, end}
use Rattle.plx_rules.specs.Rests.{extent_of}
use Rattle.law_paths.specs.Links.{SamePaths}
use Rattle.law_paths.proofs.Kept.{same-but}
use Rattle.law_space.proofs.Lists.{bit-extent}
use Rattle.plx_rules.specs.Trees.{live_root, entry_root, root_on, trees_of, lease_of_root, InPool, IsRooted}

-- a root goes by its image's record and log
pub root-same : (g : Geometry) (d e : Device) (q : ℕ) → ((i : ℕ) → i < g.images → live_root (read_image (e (record_at g i))) ≡ live_root (read_image (d (record_at g i)))) →
    ((i k : ℕ) → i < g.images → entry_root (read_image (e (record_at g i))) (e (log_at g i)) k ≡ entry_root (read_image (d (record_at g i))) (d (log_at g i)) k) →
    root_on g e q ≡ root_on g d q
root-same g d e q records entries = go (lt-cases q g.images) (lt-cases ((q - g.images) / 128) g.images)
  where
    go : ((nat_lt q g.images ≡ true) × (q < g.images)) ⊎ ((nat_lt q g.images ≡ false) × (g.images ≤ q)) →
        ((nat_lt ((q - g.images) / 128) g.images ≡ true) × ((q - g.images) / 128 < g.images)) ⊎ ((nat_lt ((q - g.images) / 128) g.images ≡ false) × (g.images ≤ (q - g.images) / 128)) →
        root_on g e q ≡ root_on g d q
    go (inl h) k = rw h.0 (records q h.1)
    go (inr h) (inl k) = rw (h.0, k.0) (entries ((q - g.images) / 128) ((q - g.images) % 128) k.1)
    go (inr h) (inr k) = rw (h.0, k.0) refl

-- all roots are holes where all images are free
pub root-hole : (g : Geometry) (d : Device) (q : ℕ) → ((i : ℕ) → i < g.images → live_root (read_image (d (record_at g i))) ≡ Hole) →
    ((i k : ℕ) → i < g.images → entry_root (read_image (d (record_at g i))) (d (log_at g i)) k ≡ Hole) → root_on g d q ≡ Hole
root-hole g d q records entries = go (lt-cases q g.images) (lt-cases ((q - g.images) / 128) g.images)
  where
    go : ((nat_lt q g.images ≡ true) × (q < g.images)) ⊎ ((nat_lt q g.images ≡ false) × (g.images ≤ q)) →
        ((nat_lt ((q - g.images) / 128) g.images ≡ true) × ((q - g.images) / 128 < g.images)) ⊎ ((nat_lt ((q - g.images) / 128) g.images ≡ false) × (g.images ≤ (q - g.images) / 128)) →
        root_on g d q ≡ Hole
    go (inl h) k = rw h.0 (records q h.1)
    go (inr h) (inl k) = rw (h.0, k.0) (entries ((q - g.images) / 128) ((q - g.images) % 128) k.1)
    go (inr h) (inr k) = rw (h.0, k.0) refl

-- a live image's root
pub root-live : (g : Geometry) (d : Device) (i : ℕ) → i < g.images → root_on g d i ≡ live_root (read_image (d (record_at g i)))
root-live g d i within = go (lt-cases i g.images)
  where
    go : ((nat_lt i g.images ≡ true) × (i < g.images)) ⊎ ((nat_lt i g.images ≡ false) × (g.images ≤ i)) → root_on g d i ≡ live_root (read_image (d (record_at g i)))
    go (inl h) = rw h.0 refl
    go (inr h) = absurd (omega (arith, h.1, within))

pub lease-live : (g : Geometry) (i : ℕ) → i < g.images → lease_of_root g i ≡ image_lease i
lease-live g i within = go (lt-cases i g.images)
  where
    go : ((nat_lt i g.images ≡ true) × (i < g.images)) ⊎ ((nat_lt i g.images ≡ false) × (g.images ≤ i)) → lease_of_root g i ≡ image_lease i
    go (inl h) = rw h.0 refl
    go (inr h) = absurd (omega (arith, h.1, within))

-- ---- blocks of the pool

abbrev pub IsOfPool : Place → Type 0
IsOfPool (Pool extent bit) = Unit {0}
IsOfPool other = ⊥

-- what stands in a block of the pool is that
pub pool-only : (g : Geometry) → IsGeometry g → (b : ℕ) → InPool g b → (p : Place) → IsPlace g p → block_of g p ≡ b → IsOfPool p
pool-only g geometry b pool p is here =
    let i = pool.is in
    let some = geometry.blocks_low in
    let high = i.extent_high in
    let q : Place = Pool (record { 0 = pool.extent }) pool.bit in
    let same : p ≡ q = place-place g p q (omega arith) is (high, i.bit_low, i.bit_high) (here ∙ i.here) in
    subst IsOfPool (sym same) tt

pub pool-extent : (g : Geometry) (b : ℕ) → (pool : InPool g b) → extent_of g b ≡ pool.extent
pool-extent g b pool = let i = pool.is in bit-extent g pool.extent pool.bit b i.bit_high (i.here ∙ omega arith)

pub pool-extent-within : (g : Geometry) (b : ℕ) → InPool g b → extent_of g b < g.extents
pool-extent-within g b pool = let e = pool-extent g b pool in let h = pool.is.extent_high in omega (arith, e, h)

-- ---- a block changes

-- a block that is none of the pool, of a record or of a log
pub record IsTreeless (g : Geometry) (block : ℕ) : Type 0 where
  pub pool : (b : ℕ) → InPool g b → b ≢ block
  pub records : (i : ℕ) → i < g.images → record_at g i ≢ block
  pub logs : (i : ℕ) → i < g.images → log_at g i ≢ block

pub roots-put : (g : Geometry) (d : Device) (block : ℕ) (bytes : List ℕ) → ((i : ℕ) → i < g.images → record_at g i ≢ block) → ((i : ℕ) → i < g.images → log_at g i ≢ block) →
    (q : ℕ) → root_on g (put d block bytes) q ≡ root_on g d q
roots-put g d block bytes records logs q = root-same g d (put d block bytes) q
    (λ i within. ap (λ (x : List ℕ). live_root (read_image x)) (put-other d block bytes (record_at g i) (records i within)))
    (λ i k within. let P : List ℕ → List ℕ → Type 0 = λ x y. entry_root (read_image x) y k ≡ entry_root (read_image (d (record_at g i))) (d (log_at g i)) k in
    subst (λ (y : List ℕ). P (put d block bytes (record_at g i)) y) (sym (put-other d block bytes (log_at g i) (logs i within)))
    (subst (λ (x : List ℕ). P x (d (log_at g i))) (sym (put-other d block bytes (record_at g i) (records i within))) refl))

-- no path changes where the block is no node of a path
pub put-paths : (g : Geometry) (d : Device) (block : ℕ) (bytes : List ℕ) → ((i : ℕ) → i < g.images → record_at g i ≢ block) → ((i : ℕ) → i < g.images → log_at g i ≢ block) →
    ((q : ℕ) (ds : List ℕ) (m : Bool) → length ds ≤ 2 → end (trees_of g d) q ds ≢ To block m) → SamePaths (trees_of g d) (trees_of g (put d block bytes))
put-paths g d block bytes records logs off =
    same-but (trees_of g d) (trees_of g (put d block bytes)) block (roots-put g d block bytes records logs)
    (λ c k ne. ap (λ (x : List ℕ). pointer_at x k) (put-other d block bytes c ne)) off

pub quiet-paths : (g : Geometry) (d : Device) (block : ℕ) (bytes : List ℕ) → IsRooted g d → IsTreeless g block → SamePaths (trees_of g d) (trees_of g (put d block bytes))
quiet-paths g d block bytes rooted quiet =
    put-paths g d block bytes quiet.records quiet.logs (λ q ds m le e. quiet.pool block (rooted q ds block m (omega (arith, le)) e).0 refl)
