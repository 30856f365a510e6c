-- What an image's record says, and the records that commands write.
use Rattle.std.specs.Prelude.{◌==◌, ◌&&◌, ℕ, List, Bool, true, false, if◌then◌else◌, Option, Some}
use Rattle.std.specs.Prelude.{None}
use Rattle.plx_gate.specs.Images.{read_image}
use Rattle.plx_gate.specs.declared.image.ImageRecord.{ImageRecord}
use Rattle.plx_gate.specs.declared.image.ImageRecord.TheVariants.{Free, Live}

-- whether the slot has an image
abbrev pub is_live : ImageRecord → Bool
is_live (Free generation) = false
is_live (Live live) = true

-- how often an image was made in the slot
abbrev pub generation_of : ImageRecord → ℕ
generation_of (Free generation) = generation
generation_of (Live live) = live.generation

-- its size in blocks; a free slot's is 0
abbrev pub size_of : ImageRecord → ℕ
size_of (Free generation) = 0
size_of (Live live) = live.size

-- how many snapshots it counts, dropped ones included
abbrev pub taken_of : ImageRecord → ℕ
taken_of (Free generation) = 0
taken_of (Live live) = live.taken

-- the pointer to its tree, 0 for a hole
abbrev pub root_of : ImageRecord → ℕ
root_of (Free generation) = 0
root_of (Live live) = live.root

-- the number of the last write that its tree has
abbrev pub applied_of : ImageRecord → ℕ
applied_of (Free generation) = 0
applied_of (Live live) = live.applied

-- the record of an image that is made: without tree, writes and snapshots
abbrev pub made_record : (generation size : ℕ) → (label : List ℕ) → ImageRecord
made_record generation size label =
    Live (record {
      generation = generation;
      size = size;
      taken = 0;
      root = 0;
      applied = 0;
      label = label;
    })

-- whether the image has no snapshot and no tree. Commands don't read logs
-- and trees yet: an attach treats a record that counts snapshots or has a
-- root like bytes outside the format, and this is the one place that says so
abbrev pub is_plain : ImageRecord → Bool
is_plain record' = (taken_of record' == 0) && (root_of record' == 0)

-- the record, where commands can work with it
abbrev pub plain_record : Option ImageRecord → Option ImageRecord
plain_record None = None
plain_record (Some found) = if is_plain found then Some found else None

-- the record that an attach finds in a block
abbrev pub attached_record : List ℕ → Option ImageRecord
attached_record bytes = plain_record (read_image bytes)
