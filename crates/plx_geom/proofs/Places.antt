-- Which blocks are apart from which.
use Rattle.std.proofs.Common.{◌≡◌, ◌≢◌, ◌⊎◌, ℕ, zero, suc, ◌+◌, ◌-◌, ◌*◌, ◌/◌, ◌^◌, ◌≤◌, ◌<◌, Option, Some, None, inl, inr, refl, ap, sym, subst, ◌∙◌, arith}
use Rattle.std.proofs.Math.Nat.{mul-le-mul_right, suc-mul}
use Rattle.std.proofs.lemmas.Nat.{div-mul-add}
use Rattle.std.proofs.lemmas.Bool.Decides.{leb_tells}
use Rattle.plx_geom.specs.Limits.{StandsIn}
use Rattle.plx_geom.specs.Places.{IsPlace, block_of}
use Rattle.plx_geom.specs.declared.place.Place.{Place}
use Rattle.plx_geom.specs.declared.place.Place.TheVariants.{Super, RootLease, ImageLease, ExtentLease, Record, Log, JDesc, JData, Map, Pool}
use Rattle.plx_geom.specs.Geometry.{Geometry, journal_start, IsGeometry, IsPoolBlock, lease_count, root_lease, image_lease, extent_lease, lease_at, record_at, log_at, descriptor_at, data_at, extents_start, map_at, pool_at, block_count}

-- a number of rows and a place in the last one tell both
pub row-row : (width i j s t : ℕ) → s < width → t < width → i * width + s ≡ j * width + t → i ≡ j
row-row width i j s t one other e = sym (div-mul-add i width s one) ∙ (ap (λ n. n / width) e ∙ div-mul-add j width t other)

pub row-place : (width i j s t : ℕ) → i ≡ j → i * width + s ≡ j * width + t → s ≡ t
row-place width i j s t same e = let p : i * width ≡ j * width = ap (λ n. n * width) same in omega (arith, p, e)

-- a place of a row below the last is below the end
pub row-below : (rows width i s : ℕ) → i < rows → s < width → i * width + s < rows * width
row-below rows width i s below less =
    let a : suc i * width ≤ rows * width = mul-le-mul_right width below in
    let b : suc i * width ≡ i * width + width = suc-mul i width in
    omega (arith, a, b, less)

-- leases

pub image-below : (g : Geometry) (i : ℕ) → i < g.images → image_lease i < lease_count g
image-below g i below = omega (arith, below)

pub extent-below : (g : Geometry) (e : ℕ) → e < g.extents → extent_lease g e < lease_count g
extent-below g e below = omega (arith, below)

pub root-below : (g : Geometry) → root_lease < lease_count g
root-below g = omega arith

pub root-image : (i : ℕ) → root_lease ≢ image_lease i
root-image i e = omega (arith, e)

pub root-extent : (g : Geometry) (d : ℕ) → root_lease ≢ extent_lease g d
root-extent g d e = omega (arith, e)

pub image-extent : (g : Geometry) (i d : ℕ) → i < g.images → image_lease i ≢ extent_lease g d
image-extent g i d below e = omega (arith, below, e)

pub image-image : (i j : ℕ) → image_lease i ≡ image_lease j → i ≡ j
image-image i j e = omega (arith, e)

pub extent-extent : (g : Geometry) (d e : ℕ) → extent_lease g d ≡ extent_lease g e → d ≡ e
extent-extent g d e is = omega (arith, is)

pub lease-lease : (i j : ℕ) → lease_at i ≡ lease_at j → i ≡ j
lease-lease i j e = omega (arith, e)

-- the superblock is apart from all

pub super-lease : (lease : ℕ) → 0 ≢ lease_at lease
super-lease lease e = omega (arith, e)

pub super-record : (g : Geometry) (i : ℕ) → 0 ≢ record_at g i
super-record g i e = omega (arith, e)

pub super-log : (g : Geometry) (i : ℕ) → 0 ≢ log_at g i
super-log g i e = omega (arith, e)

pub super-descriptor : (g : Geometry) (i s : ℕ) → 0 ≢ descriptor_at g i s
super-descriptor g i s e = omega (arith, e)

pub super-data : (g : Geometry) (i s : ℕ) → 0 ≢ data_at g i s
super-data g i s e = omega (arith, e)

pub super-map : (g : Geometry) (d : ℕ) → 0 ≢ map_at g d
super-map g d e = omega (arith, e)

pub super-pool : (g : Geometry) (d bit : ℕ) → 0 ≢ pool_at g d bit
super-pool g d bit e = omega (arith, e)

-- leases are before the records

pub lease-record : (g : Geometry) (lease i : ℕ) → lease < lease_count g → lease_at lease ≢ record_at g i
lease-record g lease i below e = omega (arith, below, e)

pub lease-log : (g : Geometry) (lease i : ℕ) → lease < lease_count g → lease_at lease ≢ log_at g i
lease-log g lease i below e = omega (arith, below, e)

pub lease-descriptor : (g : Geometry) (lease i s : ℕ) → lease < lease_count g → lease_at lease ≢ descriptor_at g i s
lease-descriptor g lease i s below e = omega (arith, below, e)

pub lease-data : (g : Geometry) (lease i s : ℕ) → lease < lease_count g → lease_at lease ≢ data_at g i s
lease-data g lease i s below e = omega (arith, below, e)

pub lease-map : (g : Geometry) (lease d : ℕ) → lease < lease_count g → lease_at lease ≢ map_at g d
lease-map g lease d below e = omega (arith, below, e)

pub lease-pool : (g : Geometry) (lease d bit : ℕ) → lease < lease_count g → lease_at lease ≢ pool_at g d bit
lease-pool g lease d bit below e = omega (arith, below, e)

-- records are before the logs

pub record-record : (g : Geometry) (i j : ℕ) → record_at g i ≡ record_at g j → i ≡ j
record-record g i j e = omega (arith, e)

pub record-log : (g : Geometry) (i j : ℕ) → i < g.images → record_at g i ≢ log_at g j
record-log g i j below e = omega (arith, below, e)

pub record-descriptor : (g : Geometry) (i j s : ℕ) → i < g.images → record_at g i ≢ descriptor_at g j s
record-descriptor g i j s below e = omega (arith, below, e)

pub record-data : (g : Geometry) (i j s : ℕ) → i < g.images → record_at g i ≢ data_at g j s
record-data g i j s below e = omega (arith, below, e)

pub record-map : (g : Geometry) (i d : ℕ) → i < g.images → record_at g i ≢ map_at g d
record-map g i d below e = omega (arith, below, e)

pub record-pool : (g : Geometry) (i d bit : ℕ) → i < g.images → record_at g i ≢ pool_at g d bit
record-pool g i d bit below e = omega (arith, below, e)

-- logs are before the journals

pub log-log : (g : Geometry) (i j : ℕ) → log_at g i ≡ log_at g j → i ≡ j
log-log g i j e = omega (arith, e)

pub log-descriptor : (g : Geometry) (i j s : ℕ) → i < g.images → log_at g i ≢ descriptor_at g j s
log-descriptor g i j s below e = omega (arith, below, e)

pub log-data : (g : Geometry) (i j s : ℕ) → i < g.images → log_at g i ≢ data_at g j s
log-data g i j s below e = omega (arith, below, e)

pub log-map : (g : Geometry) (i d : ℕ) → i < g.images → log_at g i ≢ map_at g d
log-map g i d below e = omega (arith, below, e)

pub log-pool : (g : Geometry) (i d bit : ℕ) → i < g.images → log_at g i ≢ pool_at g d bit
log-pool g i d bit below e = omega (arith, below, e)

-- a block of a journal tells its image and its slot

pub descriptor-descriptor : (g : Geometry) (i j s t : ℕ) → s < g.slots → t < g.slots → descriptor_at g i s ≡ descriptor_at g j t → i ≡ j
descriptor-descriptor g i j s t one other e = row-row g.slots i j s t one other (omega (arith, e))

pub descriptor-slot : (g : Geometry) (i j s t : ℕ) → s < g.slots → t < g.slots → descriptor_at g i s ≡ descriptor_at g j t → s ≡ t
descriptor-slot g i j s t one other e = row-place g.slots i j s t (descriptor-descriptor g i j s t one other e) (omega (arith, e))

pub data-data : (g : Geometry) (i j s t : ℕ) → s < g.slots → t < g.slots → data_at g i s ≡ data_at g j t → i ≡ j
data-data g i j s t one other e = row-row g.slots i j s t one other (omega (arith, e))

pub data-slot : (g : Geometry) (i j s t : ℕ) → s < g.slots → t < g.slots → data_at g i s ≡ data_at g j t → s ≡ t
data-slot g i j s t one other e = row-place g.slots i j s t (data-data g i j s t one other e) (omega (arith, e))

pub data-descriptor : (g : Geometry) (i j s t : ℕ) → data_at g i s ≢ descriptor_at g j t
data-descriptor g i j s t e = let p : 2 * (i * g.slots + s) + 1 ≡ 2 * (j * g.slots + t) = omega (arith, e) in omega (arith, p)

-- journals are before the extents

pub descriptor-below : (g : Geometry) (i s : ℕ) → i < g.images → s < g.slots → descriptor_at g i s + 1 < extents_start g
descriptor-below g i s below less = let b = row-below g.images g.slots i s below less in omega (arith, b)

pub data-below : (g : Geometry) (i s : ℕ) → i < g.images → s < g.slots → data_at g i s < extents_start g
data-below g i s below less = let b = row-below g.images g.slots i s below less in omega (arith, b)

pub map-descriptor : (g : Geometry) (d i s : ℕ) → i < g.images → s < g.slots → map_at g d ≢ descriptor_at g i s
map-descriptor g d i s below less e = let b = row-below g.images g.slots i s below less in omega (arith, b, e)

pub map-data : (g : Geometry) (d i s : ℕ) → i < g.images → s < g.slots → map_at g d ≢ data_at g i s
map-data g d i s below less e = let b = row-below g.images g.slots i s below less in omega (arith, b, e)

pub pool-descriptor : (g : Geometry) (d bit i s : ℕ) → i < g.images → s < g.slots → pool_at g d bit ≢ descriptor_at g i s
pool-descriptor g d bit i s below less e = let b = row-below g.images g.slots i s below less in omega (arith, b, e)

pub pool-data : (g : Geometry) (d bit i s : ℕ) → i < g.images → s < g.slots → pool_at g d bit ≢ data_at g i s
pool-data g d bit i s below less e = let b = row-below g.images g.slots i s below less in omega (arith, b, e)

-- a map tells its extent, and a pool block its extent and its bit

pub map-map : (g : Geometry) (d e : ℕ) → 1 ≤ g.extent_blocks → map_at g d ≡ map_at g e → d ≡ e
map-map g d e some is =
    row-row g.extent_blocks d e 0 0 (omega (arith, some)) (omega (arith, some)) (let p : d * g.extent_blocks ≡ e * g.extent_blocks = omega (arith, is) in omega (arith, p))

pub pool-pool : (g : Geometry) (d e j k : ℕ) → j < g.extent_blocks → k < g.extent_blocks → pool_at g d j ≡ pool_at g e k → d ≡ e
pool-pool g d e j k one other is = row-row g.extent_blocks d e j k one other (omega (arith, is))

pub pool-bit : (g : Geometry) (d e j k : ℕ) → j < g.extent_blocks → k < g.extent_blocks → pool_at g d j ≡ pool_at g e k → j ≡ k
pool-bit g d e j k one other is = row-place g.extent_blocks d e j k (pool-pool g d e j k one other is) (omega (arith, is))

pub map-pool : (g : Geometry) (d e bit : ℕ) → 1 ≤ bit → bit < g.extent_blocks → map_at g d ≢ pool_at g e bit
map-pool g d e bit low high is =
    let p : d * g.extent_blocks + 0 ≡ e * g.extent_blocks + bit = omega (arith, is) in
    let same = row-row g.extent_blocks d e 0 bit (omega (arith, low, high)) high p in
    let zero = row-place g.extent_blocks d e 0 bit same p in
    omega (arith, low, zero)

-- all of them are blocks of the device

pub lease-within : (g : Geometry) (lease : ℕ) → lease < lease_count g → lease_at lease < block_count g
lease-within g lease below = omega (arith, below)

pub record-within : (g : Geometry) (i : ℕ) → i < g.images → record_at g i < block_count g
record-within g i below = omega (arith, below)

pub log-within : (g : Geometry) (i : ℕ) → i < g.images → log_at g i < block_count g
log-within g i below = omega (arith, below)

pub descriptor-within : (g : Geometry) (i s : ℕ) → i < g.images → s < g.slots → descriptor_at g i s < block_count g
descriptor-within g i s below less = let b = descriptor-below g i s below less in omega (arith, b)

pub data-within : (g : Geometry) (i s : ℕ) → i < g.images → s < g.slots → data_at g i s < block_count g
data-within g i s below less = let b = data-below g i s below less in omega (arith, b)

pub pool-within : (g : Geometry) (d bit : ℕ) → d < g.extents → bit < g.extent_blocks → pool_at g d bit < block_count g
pool-within g d bit below less = let b = row-below g.extents g.extent_blocks d bit below less in omega (arith, b)

pub map-within : (g : Geometry) (d : ℕ) → 1 ≤ g.extent_blocks → d < g.extents → map_at g d < block_count g
map-within g d some below = let b = row-below g.extents g.extent_blocks d 0 below (omega (arith, some)) in omega (arith, b)

-- a product of two factors within their bounds
pub product-high : (a b c d : ℕ) → a ≤ b → c ≤ d → a * c ≤ b * d
product-high a b c d x y = grind (arith, mul-le-mul_right c x, mul-le-mul_right b y)

-- a device has fewer blocks than a pointer can name
pub blocks-high : (g : Geometry) → IsGeometry g → block_count g < 2 ^ 26
blocks-high g h =
    let a : g.images * g.slots ≤ 256 * 64 = product-high g.images 256 g.slots 64 h.images_high h.slots_high in
    let b : g.extents * g.extent_blocks ≤ 512 * 32768 = product-high g.extents 512 g.extent_blocks 32768 h.extents_high h.blocks_high in
    let c = h.images_high in
    let d = h.extents_high in
    omega (arith, a, b, c, d)

-- a pool block can be pointed to
pub pool-low : (g : Geometry) (d bit : ℕ) → 1 ≤ pool_at g d bit
pool-low g d bit = omega arith

pub pool-high : (g : Geometry) (d bit : ℕ) → IsGeometry g → d < g.extents → bit < g.extent_blocks → pool_at g d bit < 2 ^ 26
pool-high g d bit h below less = let a = pool-within g d bit below less in let b = blocks-high g h in omega (arith, a, b)

-- a pool block is of one extent, at one bit
pub one-extent : (g : Geometry) (d e j k block : ℕ) → IsPoolBlock g d j block → IsPoolBlock g e k block → d ≡ e
one-extent g d e j k block x y = pool-pool g d e j k x.bit_high y.bit_high (sym x.here ∙ y.here)

pub one-bit : (g : Geometry) (d e j k block : ℕ) → IsPoolBlock g d j block → IsPoolBlock g e k block → j ≡ k
one-bit g d e j k block x y = pool-bit g d e j k x.bit_high y.bit_high (sym x.here ∙ y.here)

-- what stands in a block is one place

-- the regions of a device in their order: superblock, root's lease, leases of images, leases of extents, records, logs, journals and extents
region_of : Place → ℕ
region_of Super = 0
region_of RootLease = 1
region_of (ImageLease image) = 2
region_of (ExtentLease extent) = 3
region_of (Record image) = 4
region_of (Log image) = 5
region_of (JDesc image slot) = 6
region_of (JData image slot) = 6
region_of (Map extent) = 7
region_of (Pool extent bit) = 7

-- the first block of a region
region_start : Geometry → ℕ → ℕ
region_start g zero = 0
region_start g (suc zero) = 1
region_start g (suc (suc zero)) = 2
region_start g (suc (suc (suc zero))) = 2 + g.images
region_start g (suc (suc (suc (suc zero)))) = 2 + g.images + g.extents
region_start g (suc (suc (suc (suc (suc zero))))) = 2 + 2 * g.images + g.extents
region_start g (suc (suc (suc (suc (suc (suc zero)))))) = journal_start g
region_start g (suc (suc (suc (suc (suc (suc (suc zero))))))) = extents_start g
region_start g (suc (suc (suc (suc (suc (suc (suc (suc more)))))))) = block_count g + more

-- each place lies in its region
in-region : (g : Geometry) (p : Place) → 1 ≤ g.extent_blocks → IsPlace g p → (region_start g (region_of p) ≤ block_of g p) × (block_of g p < region_start g (suc (region_of p)))
unfolding region_of region_start
in-region g Super some is = (omega arith, omega arith)
in-region g RootLease some is = (omega arith, omega arith)
in-region g (ImageLease image) some is = (omega (arith, is), omega (arith, is))
in-region g (ExtentLease extent) some is = (omega (arith, is), omega (arith, is))
in-region g (Record image) some is = (omega (arith, is), omega (arith, is))
in-region g (Log image) some is = (omega (arith, is), omega (arith, is))
in-region g (JDesc image slot) some is = let b = descriptor-below g image.0 slot is.0 is.1 in (omega arith, omega (arith, b))
in-region g (JData image slot) some is = let b = data-below g image.0 slot is.0 is.1 in (omega arith, omega (arith, b))
in-region g (Map extent) some is = let b = map-within g extent.0 some is in (omega arith, omega (arith, b))
in-region g (Pool extent bit) some is = let b = pool-within g extent.0 bit is.0 is.2 in (omega arith, omega (arith, b))

-- regions follow each other
region-next : (g : Geometry) (r : ℕ) → region_start g r ≤ region_start g (suc r)
unfolding region_start
region-next g zero = omega arith
region-next g (suc zero) = omega arith
region-next g (suc (suc zero)) = omega arith
region-next g (suc (suc (suc zero))) = omega arith
region-next g (suc (suc (suc (suc zero)))) = omega arith
region-next g (suc (suc (suc (suc (suc zero))))) = omega arith
region-next g (suc (suc (suc (suc (suc (suc zero)))))) = omega arith
region-next g (suc (suc (suc (suc (suc (suc (suc zero))))))) = omega arith
region-next g (suc (suc (suc (suc (suc (suc (suc (suc more)))))))) = omega arith

region-after : (g : Geometry) (r d : ℕ) → region_start g r ≤ region_start g (r + d)
region-after g r zero = let e : r + 0 ≡ r = omega arith in rw e (omega arith)
region-after g r (suc d) =
    let e : r + suc d ≡ suc (r + d) = omega arith in
    let a = region-after g r d in
    let b = region-next g (r + d) in
    rw e (omega (arith, a, b))

-- the first of two numbers is at most the second, or the second is less
le-or-lt : (a b : ℕ) → (a ≤ b) ⊎ (b < a)
le-or-lt a b = elim (leb_tells a b) [ inl x ↦ inl x.1 | inr x ↦ inr x.1 ]

-- a region begins at or past the end of each one before it
region-order : (g : Geometry) (r s : ℕ) → r < s → region_start g (suc r) ≤ region_start g s
region-order g r s less =
    let e : suc r + (s - suc r) ≡ s = omega (arith, less) in
    subst (λ n. region_start g (suc r) ≤ region_start g n) e (region-after g (suc r) (s - suc r))

-- a block lies in one region
one-region : (g : Geometry) (r s block : ℕ) → region_start g r ≤ block → block < region_start g (suc r) → region_start g s ≤ block → block < region_start g (suc s) → r ≡ s
one-region g r s block a b c d = go (le-or-lt r s) (le-or-lt s r)
  where
    go : (r ≤ s) ⊎ (s < r) → (s ≤ r) ⊎ (r < s) → r ≡ s
    go (inr less) other = absurd (let f = region-order g s r less in omega (arith, f, a, d))
    go (inl low) (inr less) = absurd (let f = region-order g r s less in omega (arith, f, b, c))
    go (inl low) (inl high) = omega (arith, low, high)

-- two places of one block are one
pub place-place : (g : Geometry) (p q : Place) → 1 ≤ g.extent_blocks → IsPlace g p → IsPlace g q → block_of g p ≡ block_of g q → p ≡ q
unfolding region_of
place-place g p q some is other same =
    let a = in-region g p some is in
    let b = in-region g q some other in
    go p q is other same (one-region g (region_of p) (region_of q) (block_of g p) a.0 a.1 (omega (arith, same, b.0)) (omega (arith, same, b.1)))
  where
    go : (p q : Place) → IsPlace g p → IsPlace g q → block_of g p ≡ block_of g q → region_of p ≡ region_of q → p ≡ q
    go Super Super is other same region = refl
    go RootLease RootLease is other same region = refl
    go (ImageLease i) (ImageLease j) is other same region = let e : i.0 ≡ j.0 = omega (arith, same) in ap (λ n. ImageLease (record { 0 = n })) e
    go (ExtentLease d) (ExtentLease e) is other same region = let f : d.0 ≡ e.0 = omega (arith, same) in ap (λ n. ExtentLease (record { 0 = n })) f
    go (Record i) (Record j) is other same region = let e : i.0 ≡ j.0 = omega (arith, same) in ap (λ n. Record (record { 0 = n })) e
    go (Log i) (Log j) is other same region = let e : i.0 ≡ j.0 = omega (arith, same) in ap (λ n. Log (record { 0 = n })) e
    go (JDesc i s) (JDesc j t) is other same region =
        let e = descriptor-descriptor g i.0 j.0 s t is.1 other.1 same in
        let f = descriptor-slot g i.0 j.0 s t is.1 other.1 same in
        λ x. JDesc (record { 0 = e x }) (f x)
    go (JData i s) (JData j t) is other same region =
        let e = data-data g i.0 j.0 s t is.1 other.1 same in
        let f = data-slot g i.0 j.0 s t is.1 other.1 same in
        λ x. JData (record { 0 = e x }) (f x)
    go (JDesc i s) (JData j t) is other same region = absurd (data-descriptor g j.0 i.0 t s (sym same))
    go (JData i s) (JDesc j t) is other same region = absurd (data-descriptor g i.0 j.0 s t same)
    go (Map d) (Map e) is other same region = let f = map-map g d.0 e.0 some same in ap (λ n. Map (record { 0 = n })) f
    go (Pool d j) (Pool e k) is other same region =
        let f = pool-pool g d.0 e.0 j k is.2 other.2 same in
        let h = pool-bit g d.0 e.0 j k is.2 other.2 same in
        λ x. Pool (record { 0 = f x }) (h x)
    go (Map d) (Pool e k) is other same region = absurd (map-pool g d.0 e.0 k other.1 other.2 same)
    go (Pool d j) (Map e) is other same region = absurd (map-pool g e.0 d.0 j is.1 is.2 (sym same))
    go p q is other same region = absurd (omega (arith, region))

-- so what stands in a block is its one place
pub stands-one : (g : Geometry) (block : ℕ) (found : Option Place) (p : Place) → 1 ≤ g.extent_blocks → StandsIn g block found → IsPlace g p → block_of g p ≡ block → found ≡ Some p
stands-one g block (Some q) p some stands is here = ap Some (place-place g q p some stands.0 is (stands.1 ∙ sym here))
stands-one g block None p some stands is here = absurd (let b = place-within g p some is in omega (arith, stands, here, b))
  where
    place-within : (g : Geometry) (p : Place) → 1 ≤ g.extent_blocks → IsPlace g p → block_of g p < block_count g
    place-within g Super some is = omega arith
    place-within g RootLease some is = omega arith
    place-within g (ImageLease image) some is = omega (arith, is)
    place-within g (ExtentLease extent) some is = omega (arith, is)
    place-within g (Record image) some is = omega (arith, is)
    place-within g (Log image) some is = omega (arith, is)
    place-within g (JDesc image slot) some is = descriptor-within g image.0 slot is.0 is.1
    place-within g (JData image slot) some is = data-within g image.0 slot is.0 is.1
    place-within g (Map extent) some is = map-within g extent.0 some is
    place-within g (Pool extent bit) some is = pool-within g extent.0 bit is.0 is.2
