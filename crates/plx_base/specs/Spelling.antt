-- Records as blocks: bytes that tell the kind,
-- fields one after another, some last bytes, and zeros.
use Rattle.std.specs.Prelude.{◌≡◌, ◌≢◌, ◌+◌, ◌-◌, ℕ, List, [], ◌∷◌, ◌++◌, length, replicate, Bool}
use Rattle.std.specs.Prelude.{◌&&◌, Option, Some, None, if◌then◌else◌}
use Rattle.std.specs.Str.{bytes_eq}
use Rattle.plx_base.specs.Fields.{little, number_at}
use Rattle.plx_base.specs.Sectors.{with_landed_sector}
use Rattle.plx_base.specs.declared.stored.Field.{Field}
use Rattle.plx_base.specs.declared.stored.Field.TheVariants.{U32, U64, U128}

-- how many bytes a field has
abbrev pub width_of : Field → ℕ
width_of (U32 number) = 4
width_of (U64 number) = 8
width_of (U128 number) = 16

-- the number that a field is
abbrev pub field_number : Field → ℕ
field_number (U32 number) = number
field_number (U64 number) = number
field_number (U128 number) = number

-- a field of the same kind with this number
abbrev pub with_number : Field → ℕ → Field
with_number (U32 number) new = U32 new
with_number (U64 number) new = U64 new
with_number (U128 number) new = U128 new

-- how many bytes fields have together
abbrev pub fields_width : List Field → ℕ
fields_width [] = 0
fields_width (field ∷ fields) = width_of field + fields_width fields

-- the bytes of fields, one after another
abbrev pub fields_bytes : List Field → List ℕ
fields_bytes [] = []
fields_bytes (field ∷ fields) = little (width_of field) (field_number field) ++ fields_bytes fields

-- the fields of these kinds that stand one after another from that place on
abbrev pub fields_at : (kinds : List Field) (place : ℕ) → List ℕ → List Field
fields_at [] place bytes = []
fields_at (field ∷ fields) place bytes =
    with_number field (number_at (width_of field) place bytes)
    ∷ fields_at fields (place + width_of field) bytes

-- these bytes, and zeros up to the end of a block
unfoldable pub padded_bytes : List ℕ → List ℕ
padded_bytes bytes = bytes ++ replicate (4096 - length bytes) 0

-- what a record has before its zeros: the magic, the fields and the last bytes, one after another
abbrev pub head_of : (magic : List ℕ) (fields : List Field) (last : List ℕ) → List ℕ
head_of magic fields last = magic ++ (fields_bytes fields ++ last)

-- the block that begins with the magic, and goes on with the fields and the last bytes
unfoldable pub block_of_fields : (magic : List ℕ) (fields : List Field) (last : List ℕ) → List ℕ
block_of_fields magic fields last = padded_bytes (head_of magic fields last)

-- what bytes say, by what was found at its places: that,
-- where it is within its limits and is spelled by these bytes, else nothing
abbrev pub read_by : {A : Type 0} → (is_within : A → Bool) →
    (spelling : A → List ℕ) → (found : A) → List ℕ → Option A
read_by is_within spelling found bytes =
    if is_within found && bytes_eq bytes (spelling found) then Some found else None

-- a reading is exact: it gives a value exactly where
-- that is within its limits and spelled by the bytes
abbrev pub IsReading : {A : Type 0} → (Is : A → Type 0) →
    (spelling : A → List ℕ) → List ℕ → Option A → Type 0
IsReading Is spelling bytes (Some a) = Is a × (bytes ≡ spelling a)
IsReading Is spelling bytes None = (a : _) → Is a → bytes ≢ spelling a

-- one sector tells all: where it lands the block is
-- the new one, and no other sector changes the old one
pub record OnlySector (sector : ℕ) (new old : List ℕ) : Type 0 where
  pub own : with_landed_sector sector new old ≡ new
  pub others : (other : ℕ) → other ≢ sector → with_landed_sector other new old ≡ old
