-- What the record and the journal of an image hold, and what that shows of the image.
use Rattle.std.proofs.Common.{◌≡◌, ℕ, ◌+◌, ◌≤◌, ◌<◌, ◌⊎◌, List, [], length, Some}
use Rattle.plx_base.specs.Blocks.{zeros}
use Rattle.plx_base.specs.Sectors.{Device}
use Rattle.plx_commands.specs.Images.{Image}
use Rattle.plx_commands.specs.Model.{Slot}
use Rattle.plx_gate.specs.Descriptors.{descriptor_bytes, read_descriptor, IsDescriptor}
use Rattle.plx_gate.specs.Images.{label_of}
use Rattle.plx_gate.specs.declared.descriptor.Descriptor.{Descriptor}
use Rattle.plx_gate.specs.declared.image.ImageRecord.{ImageRecord}
use Rattle.plx_geom.specs.Geometry.{Geometry, record_at, descriptor_at, data_at}
use Rattle.plx_rules.specs.Journaled.{Journaled}
use Rattle.plx_rules.specs.Journal.{journal_slot}
use Rattle.plx_rules.specs.Records.{is_live, generation_of, size_of, applied_of}
use Rattle.plx_rules.specs.Session.{Session, latest, write_count}
use Rattle.plx_rules.specs.Stored.{all_of}
use Rattle.law_run.proofs.Inside.{IsSound}
use Rattle.law_run.proofs.Right.{FitsSession}

-- bytes are zeros, or a descriptor of a generation up to this one
abbrev pub IsOld : ImageRecord → List ℕ → Type 0
IsOld kept bytes = (bytes ≡ zeros) ⊎ ((d : Descriptor) × (bytes ≡ descriptor_bytes d) × IsDescriptor d × (d.generation ≤ generation_of kept))

-- the session of this record and these writes
abbrev pub session_of : ImageRecord → List Journaled → Session
session_of kept writes = record { image = kept; writes = writes }

-- the journal slot in which a write stands, and that of the next one
abbrev pub slot_of : Geometry → Journaled → ℕ
slot_of g write = journal_slot g.slots write.number

abbrev pub next_slot : Geometry → ImageRecord → List Journaled → ℕ
next_slot g kept writes = journal_slot g.slots (write_count (session_of kept writes) + 1)

-- an image's record and journal on a device are those of a session; what its slots hold is within the format, and of no later generation
pub record IsJournal (g : Geometry) (device : Device) (image : ℕ) (kept : ImageRecord) (writes : List Journaled) : Type 0 where
  pub fits : FitsSession g (all_of device) image (session_of kept writes)
  pub sound : (slot : ℕ) → slot < g.slots → IsSound kept g.slots slot (read_descriptor (device (descriptor_at g image slot)))
  pub old : (slot : ℕ) → slot < g.slots → IsOld kept (device (descriptor_at g image slot))

-- an image is what this record and these writes show
pub record IsShown (kept : ImageRecord) (writes : List Journaled) (i : Image) : Type 0 where
  pub live : i.live ≡ is_live kept
  pub generation : i.generation ≡ generation_of kept
  pub size : i.size ≡ size_of kept
  pub label : i.label ≡ label_of kept
  pub count : i.writes ≡ applied_of kept + length writes
  pub blocks : (vblock : ℕ) → i.content vblock ≡ latest zeros vblock writes
  pub frozen : i.frozen ≡ []

-- they show the slot's image, or what its change makes of it
abbrev pub ShowEither : ImageRecord → List Journaled → Slot → Type 0
ShowEither kept writes slot = IsShown kept writes slot.image ⊎ ((i : Image) × (slot.change ≡ Some i) × IsShown kept writes i)

-- the device holds the slot's image, without its change or with it
pub record HoldsSlot (g : Geometry) (device : Device) (image : ℕ) (slot : Slot) : Type 0 where
  pub kept : ImageRecord
  pub writes : List Journaled
  pub journal : IsJournal g device image kept writes
  pub either : ShowEither kept writes slot

-- two devices are the same at an image's record and journal
pub record Same (g : Geometry) (image : ℕ) (device other : Device) : Type 0 where
  pub recorded : other (record_at g image) ≡ device (record_at g image)
  pub descriptors : (slot : ℕ) → slot < g.slots → other (descriptor_at g image slot) ≡ device (descriptor_at g image slot)
  pub blocks : (slot : ℕ) → slot < g.slots → other (data_at g image slot) ≡ device (data_at g image slot)
