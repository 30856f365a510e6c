-- Image records as bytes.
use Rattle.std.specs.Prelude.{◌≤◌, ◌<◌, ◌^◌, ◌==◌, ℕ, List, [], ◌∷◌, length, take, drop, Bool, ◌&&◌}
use Rattle.std.specs.Prelude.{nat_lt, nat_le, if◌then◌else◌, Option}
use Rattle.plx_base.specs.Fields.{number_at}
use Rattle.plx_base.specs.Labels.{IsLabel, is_label}
use Rattle.plx_base.specs.Pointers.{IsPointer, is_pointer}
use Rattle.plx_base.specs.Spelling.{block_of_fields, read_by}
use Rattle.plx_base.specs.declared.stored.Field.{Field}
use Rattle.plx_base.specs.declared.stored.Field.TheVariants.{U32, U64}
use Rattle.plx_gate.specs.declared.image.ImageRecord.{ImageRecord}
use Rattle.plx_gate.specs.declared.image.ImageRecord.TheVariants.{Free, Live}
use Rattle.plx_gate.specs.declared.image.LiveRecord.{LiveRecord}

-- the eight bytes that begin an image record: PLXIMAG1
abbrev pub image_magic : List ℕ
image_magic = 80 ∷ 76 ∷ 88 ∷ 73 ∷ 77 ∷ 65 ∷ 71 ∷ 49 ∷ []

-- an image's fields from byte 8 on: the state, the generation, the size, how many snapshots
-- were taken, the root, the last write applied, the label's length, and four unnamed bytes
abbrev pub fields_of : (state generation size taken root applied label_len : ℕ) → List Field
fields_of state generation size taken root applied label_len =
    U32 state
    ∷ U32 generation
    ∷ U32 size
    ∷ U32 taken
    ∷ U64 root
    ∷ U64 applied
    ∷ U32 label_len
    ∷ U32 0
    ∷ []

-- a free slot has state 0, its generation and zeros; a live one has state 1 and all its fields
abbrev pub image_fields : ImageRecord → List Field
image_fields (Free generation) = fields_of 0 generation 0 0 0 0 0
image_fields (Live live) =
    fields_of 1 live.generation live.size live.taken live.root live.applied (length live.label)

-- the bytes of a label
abbrev pub label_of : ImageRecord → List ℕ
label_of (Free generation) = []
label_of (Live live) = live.label

-- the block that spells an image record
unfoldable pub image_bytes : ImageRecord → List ℕ
image_bytes image = block_of_fields image_magic (image_fields image) (label_of image)

-- the limits of a live image
pub record IsLive (live : LiveRecord) : Type 0 where
  pub generation_low : 1 ≤ live.generation
  pub generation_high : live.generation < 2 ^ 32
  pub size_low : 1 ≤ live.size
  pub size_high : live.size ≤ 2 ^ 27
  pub taken_high : live.taken ≤ 128
  pub root_pointer : IsPointer live.root
  pub applied_high : live.applied < 2 ^ 48
  pub label_is : IsLabel live.label

-- the limits of an image record
abbrev pub IsImage : ImageRecord → Type 0
IsImage (Free generation) = generation < 2 ^ 32
IsImage (Live live) = IsLive live

-- the limits of a live image's generation, size, snapshots and last write applied, tested
abbrev pub are_within : (generation size taken applied : ℕ) → Bool
are_within generation size taken applied =
    nat_le 1 generation
    && (nat_lt generation (2 ^ 32)
    && (nat_le 1 size
    && (nat_le size (2 ^ 27) && (nat_le taken 128 && nat_lt applied (2 ^ 48)))))

-- the limits of an image record, tested
abbrev pub is_image : ImageRecord → Bool
is_image (Free generation) = nat_lt generation (2 ^ 32)
is_image (Live live) =
    are_within live.generation live.size live.taken live.applied
    && (is_pointer live.root && is_label live.label)

-- the label that stands at its place
abbrev pub found_label : List ℕ → List ℕ
found_label bytes = take (number_at 4 40 bytes) (drop 48 bytes)

-- the live record whose numbers and label stand at the places of the fields
abbrev pub found_live : List ℕ → LiveRecord
found_live bytes = record {
  generation = number_at 4 12 bytes;
  size = number_at 4 16 bytes;
  taken = number_at 4 20 bytes;
  root = number_at 8 24 bytes;
  applied = number_at 8 32 bytes;
  label = found_label bytes;
}

-- the image record that stands at the places of the fields: a free one where the state is 0
abbrev pub found_image : List ℕ → ImageRecord
found_image bytes =
    if number_at 4 8 bytes == 0 then Free (number_at 4 12 bytes) else Live (found_live bytes)

-- what a block says: an image record within the limits, or nothing
unfoldable pub read_image : List ℕ → Option ImageRecord
read_image bytes = read_by is_image image_bytes (found_image bytes) bytes
