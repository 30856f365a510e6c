-- The journal of an image: which slot a write takes, and which descriptors count.
use Rattle.std.specs.Prelude.{◌-◌, ◌%◌, ℕ, List, Bool, ◌&&◌, nat_lt, ◌==◌, if◌then◌else◌, Option}
use Rattle.std.specs.Prelude.{Some, None}
use Rattle.plx_gate.specs.Descriptors.{read_descriptor}
use Rattle.plx_gate.specs.declared.descriptor.Descriptor.{Descriptor}
use Rattle.plx_gate.specs.declared.image.ImageRecord.{ImageRecord}
use Rattle.plx_rules.specs.Records.{is_live, generation_of, size_of, applied_of}
use Rattle.plx_rules.specs.Journaled.{Journaled}

-- the journal slot of the write with this number
abbrev pub journal_slot : (slots number : ℕ) → ℕ
journal_slot slots number = (number - 1) % slots

-- whether a descriptor is one of this image that its tree hasn't: the image is live,
-- the generation is its own, and the number is above the last one applied
abbrev pub is_unapplied : ImageRecord → Descriptor → Bool
is_unapplied kept d =
    is_live kept && ((d.generation == generation_of kept) && nat_lt (applied_of kept) d.number)

-- whether it stands in the slot of its number
abbrev pub is_placed : (slots slot : ℕ) → Descriptor → Bool
is_placed slots slot d = journal_slot slots d.number == slot

-- the descriptor of a journal slot that counts, of what the slot's block says
abbrev pub counted_of : ImageRecord → (slots slot : ℕ) →
    Option (Option Descriptor) → Option Descriptor
counted_of kept slots slot None = None
counted_of kept slots slot (Some None) = None
counted_of kept slots slot (Some (Some d)) =
    if is_unapplied kept d && is_placed slots slot d then Some d else None

-- the same, of the slot's bytes
abbrev pub counted_descriptor : ImageRecord → (slots slot : ℕ) → List ℕ → Option Descriptor
counted_descriptor kept slots slot bytes = counted_of kept slots slot (read_descriptor bytes)

-- what an attach finds in a journal slot: bytes outside the format,
-- nothing that counts, or a descriptor that does
pub data Finding : Type 0 where
  Outside : Finding
  Unused : Finding
  Counts : Descriptor → Finding

-- an unapplied descriptor counts where it stands in the slot of its number
-- and names a block below the image's size; else it is outside the format
abbrev pub finding_of : ImageRecord → (slots slot : ℕ) → Option (Option Descriptor) → Finding
finding_of kept slots slot None = Outside
finding_of kept slots slot (Some None) = Unused
finding_of kept slots slot (Some (Some d)) =
    if is_unapplied kept d
    then (if is_placed slots slot d && nat_lt d.vblock (size_of kept) then Counts d else Outside)
    else Unused

-- the same, of the slot's bytes
abbrev pub finding : ImageRecord → (slots slot : ℕ) → List ℕ → Finding
finding kept slots slot bytes = finding_of kept slots slot (read_descriptor bytes)

-- the descriptor of a write in an image's journal
abbrev pub descriptor_of : ImageRecord → Journaled → Descriptor
descriptor_of kept write = record {
  generation = generation_of kept;
  vblock = write.vblock;
  number = write.number;
}
