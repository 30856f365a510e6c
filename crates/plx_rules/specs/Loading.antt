-- The reading of a journal, as a part of an attach.
use Rattle.std.specs.Prelude.{◌+◌, ℕ, List, zero, suc, Option, Some, None}
use Rattle.plx_geom.specs.Geometry.{Geometry, descriptor_at, data_at}
use Rattle.plx_rules.specs.Process.{Process, Ends, ReadThen}
use Rattle.plx_rules.specs.Journaled.{Journaled}
use Rattle.plx_gate.specs.declared.image.ImageRecord.{ImageRecord}
use Rattle.plx_rules.specs.Journal.{journal_slot, Finding, Outside, Unused, Counts, finding}
use Rattle.plx_rules.specs.Records.{applied_of}
use Rattle.plx_rules.specs.Session.{with_write_by_number, first_gap}

-- how the reading of a journal ends: with its writes;
-- the read of this block failed; or this block is outside the format
pub data LoadEnd : Type 0 where
  Loaded : List Journaled → LoadEnd
  LoadReadFault : (block : ℕ) → LoadEnd
  LoadDamaged : (block : ℕ) → LoadEnd

-- all slots were read: a write above a missing number makes its descriptor one outside the format
abbrev pub gap_found : Geometry → (image : ℕ) → List Journaled → Option ℕ → LoadEnd
gap_found g image writes None = Loaded writes
gap_found g image writes (Some number) =
    LoadDamaged (descriptor_at g image (journal_slot g.slots number))

-- a read that may fail
abbrev pub load_read : (block : ℕ) → (List ℕ → Process LoadEnd) → Process LoadEnd
load_read block rest = ReadThen block rest (Ends (LoadReadFault block))

-- what is asked by what was found in a slot
abbrev pub load_found : (block : ℕ) → Finding → (unused : Process LoadEnd) →
    (counts : (number vblock : ℕ) → Process LoadEnd) → Process LoadEnd
load_found block Outside unused counts = Ends (LoadDamaged block)
load_found block Unused unused counts = unused
load_found block (Counts d) unused counts = counts d.number d.vblock

-- each descriptor is read in order of slot, and its data
-- where it counts: `left` slots are left, from `slot` on
abbrev pub load_process : Geometry → (image : ℕ) →
    ImageRecord → (left slot : ℕ) → List Journaled → Process LoadEnd
load_process g image kept zero slot writes =
    Ends (gap_found g image writes (first_gap (applied_of kept) writes))
load_process g image kept (suc left) slot writes =
    load_read (descriptor_at g image slot)
    (λ bytes. load_found (descriptor_at g image slot) (finding kept g.slots slot bytes)
    (load_process g image kept left (slot + 1) writes)
    (λ number vblock. load_read (data_at g image slot) (λ data'.
    load_process g image kept left (slot + 1)
    (with_write_by_number (record { number = number; vblock = vblock; block = data' }) writes))))
