-- Journal descriptors as bytes.
use Rattle.std.specs.Prelude.{◌≡◌, ◌≢◌, ◌≤◌, ◌<◌, ◌^◌, ℕ, List, [], ◌∷◌, Bool, ◌&&◌, nat_lt, nat_le}
use Rattle.std.specs.Prelude.{if◌then◌else◌, Option, Some, None}
use Rattle.std.specs.Str.{bytes_eq}
use Rattle.plx_base.specs.Blocks.{zeros}
use Rattle.plx_base.specs.Fields.{number_at}
use Rattle.plx_base.specs.Spelling.{block_of_fields, read_by}
use Rattle.plx_base.specs.declared.stored.Field.{Field}
use Rattle.plx_base.specs.declared.stored.Field.TheVariants.{U32, U64}
use Rattle.plx_gate.specs.declared.descriptor.Descriptor.{Descriptor}

-- the first eight bytes of every descriptor: PLXJRNL1
abbrev pub descriptor_magic : List ℕ
descriptor_magic = 80 ∷ 76 ∷ 88 ∷ 74 ∷ 82 ∷ 78 ∷ 76 ∷ 49 ∷ []

-- a descriptor's fields from byte 8 on: the generation,
-- the virtual block and the number of the write
abbrev pub descriptor_fields : Descriptor → List Field
descriptor_fields d =
    U32 d.generation
    ∷ U32 d.vblock
    ∷ U64 d.number
    ∷ []

-- the block that spells a descriptor
unfoldable pub descriptor_bytes : Descriptor → List ℕ
descriptor_bytes d = block_of_fields descriptor_magic (descriptor_fields d) []

-- the limits of a descriptor
pub record IsDescriptor (d : Descriptor) : Type 0 where
  pub generation_low : 1 ≤ d.generation
  pub generation_high : d.generation < 2 ^ 32
  pub vblock : d.vblock < 2 ^ 27
  pub number_low : 1 ≤ d.number
  pub number_high : d.number < 2 ^ 48

-- the same limits, tested
abbrev pub is_descriptor : Descriptor → Bool
is_descriptor d =
    nat_le 1 d.generation
    && (nat_lt d.generation (2 ^ 32)
    && (nat_lt d.vblock (2 ^ 27) && (nat_le 1 d.number && nat_lt d.number (2 ^ 48))))

-- the descriptor whose numbers stand at the places of the fields
abbrev pub found_descriptor : List ℕ → Descriptor
found_descriptor bytes = record {
  generation = number_at 4 8 bytes;
  vblock = number_at 4 12 bytes;
  number = number_at 8 16 bytes;
}

-- what a block that isn't zeros says: a descriptor within the limits, or nothing
abbrev pub of_descriptor : Option Descriptor → Option (Option Descriptor)
of_descriptor None = None
of_descriptor (Some d) = Some (Some d)

-- what a block says: an empty descriptor, one within the limits, or nothing
unfoldable pub read_descriptor : List ℕ → Option (Option Descriptor)
read_descriptor bytes =
    if bytes_eq bytes zeros then Some None
    else of_descriptor (read_by is_descriptor descriptor_bytes (found_descriptor bytes) bytes)

-- a reading is exact: zeros are an empty descriptor, a descriptor is read exactly where it is
-- within its limits and spelled by the bytes, and there is none where the bytes are neither
abbrev pub IsDescriptorReading : List ℕ → Option (Option Descriptor) → Type 0
IsDescriptorReading bytes (Some None) = bytes ≡ zeros
IsDescriptorReading bytes (Some (Some d)) = IsDescriptor d × (bytes ≡ descriptor_bytes d)
IsDescriptorReading bytes None =
    (bytes ≢ zeros) × ((d : Descriptor) → IsDescriptor d → bytes ≢ descriptor_bytes d)
