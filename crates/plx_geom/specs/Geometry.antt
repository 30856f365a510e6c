-- Geometries, and where the blocks of a device stand.
use Rattle.std.specs.Prelude.{◌≡◌, ◌+◌, ◌*◌, ◌≤◌, ◌<◌, ℕ, zero, suc}
use Rattle.plx_base.specs.declared.lease.LeaseName.{LeaseName}
use Rattle.plx_base.specs.declared.lease.LeaseName.TheVariants.{Root, Image, Extent}

-- how many images and extents there are, of how many blocks
-- an extent is, and how many journal slots an image has
pub record Geometry : Type 0 where
  pub images : ℕ
  pub extents : ℕ
  pub extent_blocks : ℕ
  pub slots : ℕ

-- the geometry of these numbers
abbrev pub geometry_of : (images extents extent_blocks slots : ℕ) → Geometry
geometry_of images extents extent_blocks slots = record {
  images = images;
  extents = extents;
  extent_blocks = extent_blocks;
  slots = slots;
}

-- the limits of a geometry
pub record IsGeometry (g : Geometry) : Type 0 where
  pub images_low : 1 ≤ g.images
  pub images_high : g.images ≤ 256
  pub extents_low : 1 ≤ g.extents
  pub extents_high : g.extents ≤ 512
  pub blocks_low : 16 ≤ g.extent_blocks
  pub blocks_high : g.extent_blocks ≤ 32768
  pub slots_low : 2 ≤ g.slots
  pub slots_high : g.slots ≤ 64

-- the fields in their order, counted from 0: images, extents, blocks of an extent, slots
abbrev pub field_of : Geometry → ℕ → ℕ
field_of g zero = g.images
field_of g (suc zero) = g.extents
field_of g (suc (suc zero)) = g.extent_blocks
field_of g (suc (suc (suc field))) = g.slots

-- the least value of a field
abbrev pub least_of : ℕ → ℕ
least_of zero = 1
least_of (suc zero) = 1
least_of (suc (suc zero)) = 16
least_of (suc (suc (suc field))) = 2

-- the greatest value of a field
abbrev pub greatest_of : ℕ → ℕ
greatest_of zero = 256
greatest_of (suc zero) = 512
greatest_of (suc (suc zero)) = 32768
greatest_of (suc (suc (suc field))) = 64

-- a field is within its limits
abbrev pub IsWithin : Geometry → ℕ → Type 0
IsWithin g field = (least_of field ≤ field_of g field) × (field_of g field ≤ greatest_of field)

-- the first field that is out of its limits, with its value
pub record IsFirstOut (g : Geometry) (field value : ℕ) : Type 0 where
  pub known : field < 4
  pub value_is : value ≡ field_of g field
  pub out : ¬ (IsWithin g field)
  pub earlier : (before : ℕ) → before < field → IsWithin g before

-- the leases by number: the root's, those of the images, and those of the extents
abbrev pub lease_count : Geometry → ℕ
lease_count g = 1 + g.images + g.extents

-- the number of the root's lease
abbrev pub root_lease : ℕ
root_lease = 0

-- the number of an image's lease
abbrev pub image_lease : ℕ → ℕ
image_lease image = 1 + image

-- the number of an extent's lease
abbrev pub extent_lease : Geometry → ℕ → ℕ
extent_lease g extent = 1 + g.images + extent

-- the number of a lease, by its name
abbrev pub lease_number : Geometry → LeaseName → ℕ
lease_number g Root = root_lease
lease_number g (Image slot) = image_lease slot.0
lease_number g (Extent extent) = extent_lease g extent.0

-- the name is that of a lease of the geometry
abbrev pub IsLeaseName : Geometry → LeaseName → Type 0
IsLeaseName g Root = Unit {0}
IsLeaseName g (Image slot) = slot.0 < g.images
IsLeaseName g (Extent extent) = extent.0 < g.extents

-- block 0 is the superblock; the blocks of the leases follow, in the order of their numbers
abbrev pub lease_at : ℕ → ℕ
lease_at lease = 1 + lease

-- the block of an image's record
abbrev pub record_at : Geometry → ℕ → ℕ
record_at g image = 2 + g.images + g.extents + image

-- the block of an image's snapshot log
abbrev pub log_at : Geometry → ℕ → ℕ
log_at g image = 2 + 2 * g.images + g.extents + image

-- the first block of the journals
abbrev pub journal_start : Geometry → ℕ
journal_start g = 2 + 3 * g.images + g.extents

-- the journal descriptor of a slot of an image
abbrev pub descriptor_at : Geometry → ℕ → ℕ → ℕ
descriptor_at g image slot = journal_start g + 2 * (image * g.slots + slot)

-- the journal data of a slot of an image, the block after its descriptor
abbrev pub data_at : Geometry → ℕ → ℕ → ℕ
data_at g image slot = journal_start g + 2 * (image * g.slots + slot) + 1

-- the first block of the extents
abbrev pub extents_start : Geometry → ℕ
extents_start g = journal_start g + 2 * (g.images * g.slots)

-- the map of an extent, its first block
abbrev pub map_at : Geometry → ℕ → ℕ
map_at g extent = extents_start g + extent * g.extent_blocks

-- the pool block of an extent that a bit of its map stands for, bits from 1 on
abbrev pub pool_at : Geometry → ℕ → ℕ → ℕ
pool_at g extent bit = extents_start g + extent * g.extent_blocks + bit

-- the blocks of the device
abbrev pub block_count : Geometry → ℕ
block_count g = extents_start g + g.extents * g.extent_blocks

-- a pool block of an extent of the geometry, by its bit
pub record IsPoolBlock (g : Geometry) (extent bit block : ℕ) : Type 0 where
  pub extent_high : extent < g.extents
  pub bit_low : 1 ≤ bit
  pub bit_high : bit < g.extent_blocks
  pub here : block ≡ pool_at g extent bit
