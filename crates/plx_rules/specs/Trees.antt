-- The trees that a device holds.
use Rattle.std.specs.Prelude.{◌≡◌, ◌-◌, ◌/◌, ◌%◌, ◌≤◌, ℕ, List, length, Bool, true, Option, Some}
use Rattle.std.specs.Prelude.{None}
use Rattle.std.specs.Prelude.{if◌then◌else◌, nat_lt}
use Rattle.plx_base.specs.Sectors.{Device}
use Rattle.plx_gate.specs.Entries.{read_entry}
use Rattle.plx_gate.specs.Images.{read_image}
use Rattle.plx_gate.specs.declared.entry.LogEntry.{LogEntry}
use Rattle.plx_gate.specs.declared.image.ImageRecord.{ImageRecord}
use Rattle.plx_geom.specs.Geometry.{Geometry, IsPoolBlock, image_lease, record_at, log_at}
use Rattle.plx_radix.specs.Nodes.{pointer_of, pointer_at}
use Rattle.plx_radix.specs.Paths.{Pointer, Hole, To, Trees, end}
use Rattle.plx_rules.specs.Pools.{is_allocated}
use Rattle.plx_rules.specs.Records.{root_of, taken_of}

-- the root of a live image, by what its record says; a free one has a hole
abbrev pub live_root : Option ImageRecord → Pointer
live_root None = Hole
live_root (Some kept) = pointer_of (root_of kept)

-- the root of a log entry that isn't dropped
abbrev pub logged_root : Option LogEntry → Pointer
logged_root None = Hole
logged_root (Some entry) = if entry.dropped then Hole else pointer_of entry.root

-- the root of an entry of an image's log, where the image's record counts it
abbrev pub entry_root : Option ImageRecord → (log : List ℕ) → (index : ℕ) → Pointer
entry_root None log index = Hole
entry_root (Some kept) log index =
    if nat_lt index (taken_of kept) then logged_root (read_entry index log) else Hole

-- roots have numbers: after those of the images'
-- records come those of the log entries, 128 an image
abbrev pub image_of_root : Geometry → (root : ℕ) → ℕ
image_of_root g root = if nat_lt root g.images then root else (root - g.images) / 128

-- the lease of a root's image
abbrev pub lease_of_root : Geometry → (root : ℕ) → ℕ
lease_of_root g root = image_lease (image_of_root g root)

-- the root of an image's log with this number
abbrev pub entry_root_on : Geometry → Device → (image index : ℕ) → Pointer
entry_root_on g device image index =
    if nat_lt image g.images
    then entry_root (read_image (device (record_at g image))) (device (log_at g image)) index
    else Hole

-- the root with this number
abbrev pub root_on : Geometry → Device → (root : ℕ) → Pointer
root_on g device root =
    if nat_lt root g.images then live_root (read_image (device (record_at g root)))
    else entry_root_on g device ((root - g.images) / 128) ((root - g.images) % 128)

-- the trees that a device holds: the roots by their numbers, and every block read as a node
abbrev pub trees_of : Geometry → Device → Trees
trees_of g device = record {
  root = λ root. root_on g device root;
  node = λ block digit. pointer_at (device block) digit;
}

-- a block of the pool
pub record InPool (g : Geometry) (block : ℕ) : Type 0 where
  pub extent : ℕ
  pub bit : ℕ
  pub is : IsPoolBlock g extent bit block

-- what a path reaches is a block of the pool, and allocated
abbrev pub IsRooted : Geometry → Device → Type 0
IsRooted g device = (q : ℕ) (ds : List ℕ) (b : ℕ) (m : Bool) → length ds ≤ 3 →
    end (trees_of g device) q ds ≡ To b m → InPool g b × (is_allocated g device b ≡ true)
