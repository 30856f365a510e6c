-- Which region a block lies in.
use Rattle.std.proofs.Common.{◌≡◌, ℕ, ◌+◌, ◌-◌, ◌*◌, ◌%◌, ◌≤◌, ◌<◌, Bool, true, false, refl, ap, sym, ◌∙◌, inl, inr, arith}
use Rattle.std.specs.Prelude.{◌&&◌, nat_le, not}
use Rattle.std.proofs.lemmas.Bool.{le-leb, lt-ltb, le-ltb}
use Rattle.std.proofs.lemmas.Bool.Decides.{leb_tells, eqb_tells}
use Rattle.std.proofs.lemmas.Nat.{mod-mul-add}
use Rattle.plx_commands.specs.contracts.event.Region.{the_type}
use Rattle.plx_commands.specs.declared.event.Region.{Region}
use Rattle.plx_commands.specs.declared.event.Region.TheVariants as region
use Rattle.plx_geom.specs.Geometry.{Geometry, lease_at, record_at, log_at, journal_start, extents_start, block_count, descriptor_at, data_at, map_at, pool_at}
use Rattle.plx_geom.proofs.Places.{descriptor-below, data-below, map-within, pool-within}
use Rattle.plx_rules.specs.Sequences.{is_between, is_in_region, is_map}
use Rattle.std.proofs.Math.Bool.{and-false}
use denote.Enum.Bare.{sameb}

-- within, and past the end
between-within : (low high n : ℕ) → low ≤ n → n < high → is_between low high n ≡ true
between-within low high n above below = rw (le-leb low n above, lt-ltb n high below) refl

between-past : (low high n : ℕ) → high ≤ n → is_between low high n ≡ false
between-past low high n past = rw (le-ltb n high past) (and-false (nat_le low n))

-- before the beginning
between-before : (low high n : ℕ) → n < low → is_between low high n ≡ false
between-before low high n before = elim (leb_tells low n) [ inl above ↦ absurd (let x = above.1 in omega (arith, x, before)) | inr below ↦ rw below.0 refl ]

-- a block of a journal
pub in-journal : (g : Geometry) (r : Region) (block : ℕ) → journal_start g ≤ block → block < extents_start g → sameb the_type r region.Journal ≡ is_in_region g r block
in-journal g region.Lease block low high = sym (between-past (lease_at 0) (record_at g 0) block (omega (arith, low)))
in-journal g region.Record block low high = sym (between-past (record_at g 0) (log_at g 0) block (omega (arith, low)))
in-journal g region.Log block low high = sym (between-past (log_at g 0) (journal_start g) block low)
in-journal g region.Journal block low high = sym (between-within (journal_start g) (extents_start g) block low high)
in-journal g region.Map block low high = sym (ap (λ (x : Bool). x && is_map g block) (between-before (extents_start g) (block_count g) block high))
in-journal g region.Pool block low high = sym (ap (λ (x : Bool). x && not (is_map g block)) (between-before (extents_start g) (block_count g) block high))

-- a block of an extent is its map, or of its pool
pub in-map : (g : Geometry) (r : Region) (block : ℕ) → extents_start g ≤ block → block < block_count g → is_map g block ≡ true → sameb the_type r region.Map ≡ is_in_region g r block
in-map g region.Lease block low high map = sym (between-past (lease_at 0) (record_at g 0) block (omega (arith, low)))
in-map g region.Record block low high map = sym (between-past (record_at g 0) (log_at g 0) block (omega (arith, low)))
in-map g region.Log block low high map = sym (between-past (log_at g 0) (journal_start g) block (omega (arith, low)))
in-map g region.Journal block low high map = sym (between-past (journal_start g) (extents_start g) block low)
in-map g region.Map block low high map = rw (between-within (extents_start g) (block_count g) block low high, map) refl
in-map g region.Pool block low high map = rw (between-within (extents_start g) (block_count g) block low high, map) refl

pub in-pool : (g : Geometry) (r : Region) (block : ℕ) → extents_start g ≤ block → block < block_count g → is_map g block ≡ false → sameb the_type r region.Pool ≡ is_in_region g r block
in-pool g region.Lease block low high map = sym (between-past (lease_at 0) (record_at g 0) block (omega (arith, low)))
in-pool g region.Record block low high map = sym (between-past (record_at g 0) (log_at g 0) block (omega (arith, low)))
in-pool g region.Log block low high map = sym (between-past (log_at g 0) (journal_start g) block (omega (arith, low)))
in-pool g region.Journal block low high map = sym (between-past (journal_start g) (extents_start g) block low)
in-pool g region.Map block low high map = rw (between-within (extents_start g) (block_count g) block low high, map) refl
in-pool g region.Pool block low high map = rw (between-within (extents_start g) (block_count g) block low high, map) refl

-- the bit of a block of an extent
module _ (g : Geometry) (extent bit : ℕ) (within : bit < g.extent_blocks) where
  place : (block : ℕ) → block ≡ pool_at g extent bit → (block - extents_start g) % g.extent_blocks ≡ bit
  place block here =
      let off : block - extents_start g ≡ extent * g.extent_blocks + bit = omega (arith, here) in
      ap (λ (n : ℕ). n % g.extent_blocks) off ∙ mod-mul-add extent g.extent_blocks bit within

  pub is-map : (block : ℕ) → block ≡ pool_at g extent bit → bit ≡ 0 → is_map g block ≡ true
  is-map block here zero' = elim (eqb_tells ((block - extents_start g) % g.extent_blocks) 0) [ inl same ↦ same.0 | inr other ↦ absurd (other.1 (place block here ∙ zero')) ]

  pub pool-no-map : (block : ℕ) → block ≡ pool_at g extent bit → 1 ≤ bit → is_map g block ≡ false
  pool-no-map block here low = elim (eqb_tells ((block - extents_start g) % g.extent_blocks) 0) [
    | inl same ↦ absurd (let e : bit ≡ 0 = sym (place block here) ∙ same.1 in omega (arith, e, low))
    | inr other ↦ other.0
  ]

-- by what stands in it
pub region-descriptor : (g : Geometry) (r : Region) (block i s : ℕ) → i < g.images → s < g.slots → descriptor_at g i s ≡ block → sameb the_type r region.Journal ≡ is_in_region g r block
region-descriptor g r block i s image slot here =
    let below = descriptor-below g i s image slot in
    in-journal g r block (omega (arith, here)) (omega (arith, below, here))

pub region-data : (g : Geometry) (r : Region) (block i s : ℕ) → i < g.images → s < g.slots → data_at g i s ≡ block → sameb the_type r region.Journal ≡ is_in_region g r block
region-data g r block i s image slot here =
    let below = data-below g i s image slot in
    in-journal g r block (omega (arith, here)) (omega (arith, below, here))

pub region-map : (g : Geometry) (r : Region) (block d : ℕ) → 1 ≤ g.extent_blocks → d < g.extents → map_at g d ≡ block → sameb the_type r region.Map ≡ is_in_region g r block
region-map g r block d some extent here =
    let within = map-within g d some extent in
    in-map g r block (omega (arith, here)) (omega (arith, within, here)) (is-map g d 0 (omega (arith, some)) block (omega (arith, here)) refl)

pub region-pool : (g : Geometry) (r : Region) (block d bit : ℕ) → d < g.extents → 1 ≤ bit → bit < g.extent_blocks → pool_at g d bit ≡ block →
    sameb the_type r region.Pool ≡ is_in_region g r block
region-pool g r block d bit extent low high here =
    let within = pool-within g d bit extent high in
    in-pool g r block (omega (arith, here)) (omega (arith, within, here)) (pool-no-map g d bit high block (sym here) low)
