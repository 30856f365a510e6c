-- Entries of a snapshot log as bytes: each is 32 bytes of the log's block.
use Rattle.std.specs.Prelude.{◌*◌, ◌/◌, ◌<◌, ◌^◌, ◌==◌, ℕ, List, [], ◌∷◌, take, drop, Bool, true}
use Rattle.std.specs.Prelude.{false, not, ◌&&◌, nat_lt, Option}
use Rattle.plx_base.specs.Blocks.{with_bytes_at}
use Rattle.plx_base.specs.Fields.{number_at}
use Rattle.plx_base.specs.Pointers.{IsPointer, is_pointer}
use Rattle.plx_base.specs.Spelling.{fields_bytes, read_by}
use Rattle.plx_base.specs.declared.stored.Field.{Field}
use Rattle.plx_base.specs.declared.stored.Field.TheVariants.{U32, U64}
use Rattle.plx_gate.specs.declared.entry.LogEntry.{LogEntry}

-- 1 for a dropped entry, else 0
abbrev pub flag_of : Bool → ℕ
flag_of false = 0
flag_of true = 1

-- an entry's fields: the root, whether it is dropped,
-- four unnamed bytes, the stamp, and eight unnamed bytes
abbrev pub entry_fields : LogEntry → List Field
entry_fields entry =
    U64 entry.root
    ∷ U32 (flag_of entry.dropped)
    ∷ U32 0
    ∷ U64 entry.stamp
    ∷ U64 0
    ∷ []

-- the 32 bytes that spell an entry
unfoldable pub entry_bytes : LogEntry → List ℕ
entry_bytes entry = fields_bytes (entry_fields entry)

-- the limits of an entry: its root is a pointer without the mark
pub record IsEntry (entry : LogEntry) : Type 0 where
  pub root : IsPointer entry.root
  pub frozen : entry.root < 2 ^ 63
  pub stamp : entry.stamp < 2 ^ 64

-- the same limits, tested
abbrev pub is_entry : LogEntry → Bool
is_entry entry =
    is_pointer entry.root && (nat_lt entry.root (2 ^ 63) && nat_lt entry.stamp (2 ^ 64))

-- where an entry of a log block begins
abbrev pub entry_start : ℕ → ℕ
entry_start index = 32 * index

-- the entry whose numbers stand at the places of the fields
abbrev pub found_entry : List ℕ → LogEntry
found_entry bytes = record {
  root = number_at 8 0 bytes;
  dropped = not (number_at 4 8 bytes == 0);
  stamp = number_at 8 16 bytes;
}

-- the 32 bytes of an entry of a log block
abbrev pub entry_part : ℕ → List ℕ → List ℕ
entry_part index block = take 32 (drop (entry_start index) block)

-- the sector in which an entry lies
abbrev pub entry_sector : ℕ → ℕ
entry_sector index = index / 16

-- what the 32 bytes of an entry say: an entry within the limits, or nothing
abbrev pub entry_of : List ℕ → Option LogEntry
entry_of bytes = read_by is_entry entry_bytes (found_entry bytes) bytes

-- what a log block says at an entry's place
unfoldable pub read_entry : ℕ → List ℕ → Option LogEntry
read_entry index block = entry_of (entry_part index block)

-- a log block with an entry written at its place; the others stay
abbrev pub with_entry : ℕ → LogEntry → List ℕ → List ℕ
with_entry index entry block = with_bytes_at (entry_start index) (entry_bytes entry) block
