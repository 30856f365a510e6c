-- The image that given bytes store.
use Rattle.std.specs.Prelude.{◌≡◌, ◌≤◌, ◌<◌, ◌*◌, ◌/◌, ◌%◌, ◌^◌, ◌⊎◌, ℕ, List, [], ◌∷◌, length}
use Rattle.std.specs.Prelude.{Bool, true, false, if◌then◌else◌, ◌==◌, Option, Some, None, slice_get}
use Rattle.plx_base.specs.Blocks.{zeros}
use Rattle.plx_base.specs.Fields.{number_at}
use Rattle.plx_base.specs.Pointers.{without_mark}
use Rattle.plx_base.specs.Sectors.{Device}
use Rattle.plx_commands.specs.Images.{Image, Frozen}
use Rattle.plx_commands.specs.Model.{Slot}
use Rattle.plx_gate.specs.Entries.{read_entry}
use Rattle.plx_gate.specs.Images.{label_of, read_image}
use Rattle.plx_gate.specs.declared.descriptor.Descriptor.{Descriptor}
use Rattle.plx_gate.specs.declared.entry.LogEntry.{LogEntry}
use Rattle.plx_gate.specs.declared.image.ImageRecord.{ImageRecord}
use Rattle.plx_geom.specs.Geometry.{Geometry, record_at, log_at, descriptor_at, data_at}
use Rattle.plx_rules.specs.Journal.{counted_descriptor}
use Rattle.plx_rules.specs.Records.{is_live, generation_of, size_of, taken_of, root_of, applied_of}

-- the blocks whose bytes are given
abbrev pub Given : Type 0
Given = ℕ → Option (List ℕ)

-- a device gives them all
abbrev pub all_of : Device → Given
all_of device = λ block. Some (device block)

-- what a virtual block of an image holds, as far as bytes are given:
-- bytes, or what lies below this block by these digits
pub data Content : Type 0 where
  Holds : List ℕ → Content
  Below : (block : ℕ) → (digits : List ℕ) → Content

-- what a snapshot holds, as far as bytes are given: it is dropped, or kept with what each
-- virtual block held
pub data StoredFrozen : Type 0 where
  Dropped : StoredFrozen
  Kept : (content : ℕ → Content) → StoredFrozen

-- an image as far as bytes are given
pub record StoredImage : Type 0 where
  pub live : Bool
  pub generation : ℕ
  pub size : ℕ
  pub label : List ℕ
  pub writes : ℕ
  pub content : ℕ → Content
  pub frozen : List StoredFrozen

-- what a block says that is given
abbrev pub record_in : Option (List ℕ) → Option ImageRecord
record_in None = None
record_in (Some bytes) = read_image bytes

-- the record of an image
abbrev pub record_on : Geometry → Given → (image : ℕ) → Option ImageRecord
record_on g given image = record_in (given (record_at g image))

-- what a log's block that is given says at an entry's place
abbrev pub log_entry_in : (index : ℕ) → Option (List ℕ) → Option LogEntry
log_entry_in index None = None
log_entry_in index (Some bytes) = read_entry index bytes

-- the entry of an image's log
abbrev pub entry_on : Geometry → Given → (image index : ℕ) → Option LogEntry
entry_on g given image index = log_entry_in index (given (log_at g image))

-- the descriptor that counts, of the bytes of a journal slot; one that isn't given doesn't count
abbrev pub counted_in : ImageRecord → (slots slot : ℕ) → Option (List ℕ) → Option Descriptor
counted_in kept slots slot None = None
counted_in kept slots slot (Some bytes) = counted_descriptor kept slots slot bytes

-- a descriptor counts in this journal slot of an image
pub record CountsIn (g : Geometry) (given : Given) (image : ℕ) (kept : ImageRecord)
    (slot : ℕ) (d : Descriptor) : Type 0 where
  pub within : slot < g.slots
  pub found : counted_in kept g.slots slot (given (descriptor_at g image slot)) ≡ Some d

-- a write counts, with its number, its virtual block and the block of its data:
-- a descriptor that counts says so
pub record IsCounted (g : Geometry) (given : Given) (image : ℕ) (kept : ImageRecord)
    (number vblock block : ℕ) : Type 0 where
  pub slot : ℕ
  pub descriptor : Descriptor
  pub counts : CountsIn g given image kept slot descriptor
  pub numbered : descriptor.number ≡ number
  pub names : descriptor.vblock ≡ vblock
  pub stands : block ≡ data_at g image slot

-- the number of writes: the greatest number that counts, or the last one applied
pub record IsWriteCount (g : Geometry) (given : Given) (image : ℕ) (kept : ImageRecord)
    (count : ℕ) : Type 0 where
  pub greatest : (number vblock block : ℕ) →
      IsCounted g given image kept number vblock block → number ≤ count
  pub least : applied_of kept ≤ count
  pub reached : (count ≡ applied_of kept)
      ⊎ ((vblock : ℕ) × (block : ℕ) × IsCounted g given image kept count vblock block)

-- a write of this virtual block counts, and none of the same block with a greater number does
pub record IsNewest (g : Geometry) (given : Given) (image : ℕ) (kept : ImageRecord)
    (vblock number block : ℕ) : Type 0 where
  pub counts : IsCounted g given image kept number vblock block
  pub newest : (other its : ℕ) → IsCounted g given image kept other vblock its → other ≤ number

-- what stands in a block
abbrev pub standing_in : (block : ℕ) → Option (List ℕ) → Content
standing_in block None = Below block []
standing_in block (Some bytes) = Holds bytes

-- the three digits of a virtual block, the highest first: the entry of each node on its way
abbrev pub digits_of : (vblock : ℕ) → List ℕ
digits_of vblock = vblock / 2 ^ 18 ∷ (vblock / 2 ^ 9) % 512 ∷ vblock % 512 ∷ []

-- a node, by one digit: the pointer that stands there is followed, where the node is given
abbrev pub through : (block digit : ℕ) → (digits : List ℕ) →
    Option (List ℕ) → (ℕ → Content) → Content
through block digit digits None follow = Below block (digit ∷ digits)
through block digit digits (Some bytes) follow = follow (number_at 8 (8 * digit) bytes)

-- what a pointer leads to by these digits: a hole reads as zeros, with or without its mark
abbrev pub leads_to : Given → (pointer : ℕ) → (digits : List ℕ) → Content
leads_to given pointer [] =
    if without_mark pointer == 0
    then Holds zeros
    else standing_in (without_mark pointer) (given (without_mark pointer))
leads_to given pointer (digit ∷ digits) =
    if without_mark pointer == 0 then Holds zeros
    else through (without_mark pointer) digit digits
    (given (without_mark pointer)) (λ next. leads_to given next digits)

-- the content of a virtual block: the data of the newest write of it that counts,
-- else what the record's root leads to
pub data IsContent (g : Geometry) (given : Given) (image : ℕ) (kept : ImageRecord)
    (vblock : ℕ) : Content → Type 0 where
  journalled : {content : Content} (number block : ℕ) →
      IsNewest g given image kept vblock number block →
      content ≡ standing_in block (given block) → IsContent g given image kept vblock content
  unwritten : {content : Content} →
      ((number block : ℕ) → ¬ IsCounted g given image kept number vblock block) →
      content ≡ leads_to given (root_of kept) (digits_of vblock) →
      IsContent g given image kept vblock content

-- the snapshot that an entry stores: dropped by its flag, else kept with the content to which
-- its root leads
abbrev pub frozen_by : Given → LogEntry → StoredFrozen
frozen_by given entry =
    if entry.dropped then Dropped else Kept (λ vblock. leads_to given entry.root (digits_of vblock))

-- the snapshots of an image: one for each entry of its log that its record counts, in order;
-- where such an entry isn't given, or isn't in the format, there are none that are the image's
pub record AreFrozen (g : Geometry) (given : Given) (image : ℕ) (kept : ImageRecord)
    (frozen : List StoredFrozen) : Type 0 where
  pub count : length frozen ≡ taken_of kept
  pub each : (index : ℕ) (snapshot : StoredFrozen) → slice_get frozen index ≡ Some snapshot →
      (entry : LogEntry) × (entry_on g given image index ≡ Some entry)
      × (snapshot ≡ frozen_by given entry)

-- these bytes store this image in a slot
pub record Stores (g : Geometry) (given : Given) (image : ℕ) (i : StoredImage) : Type 0 where
  pub kept : ImageRecord
  pub found : record_on g given image ≡ Some kept
  pub live : i.live ≡ is_live kept
  pub generation : i.generation ≡ generation_of kept
  pub size : i.size ≡ size_of kept
  pub label : i.label ≡ label_of kept
  pub writes : IsWriteCount g given image kept i.writes
  pub content : (vblock : ℕ) → IsContent g given image kept vblock (i.content vblock)
  pub frozen : AreFrozen g given image kept i.frozen

-- a stored snapshot agrees with a model's: both are dropped, or both are kept and hold the same
abbrev pub AgreesFrozen : StoredFrozen → Frozen → Type 0
AgreesFrozen Dropped snapshot = snapshot.dropped ≡ true
AgreesFrozen (Kept content) snapshot =
    (snapshot.dropped ≡ false) × ((vblock : ℕ) → content vblock ≡ Holds (snapshot.content vblock))

-- stored snapshots agree with a model's: there are as many, and each agrees with its own
pub record AgreeFrozen (stored : List StoredFrozen) (frozen : List Frozen) : Type 0 where
  pub count : length stored ≡ length frozen
  pub each : (index : ℕ) (one : StoredFrozen) (other : Frozen) →
      slice_get stored index ≡ Some one → slice_get frozen index ≡ Some other →
      AgreesFrozen one other

-- a stored image agrees with a model's
pub record Agrees (stored : StoredImage) (i : Image) : Type 0 where
  pub live : stored.live ≡ i.live
  pub generation : stored.generation ≡ i.generation
  pub size : stored.size ≡ i.size
  pub label : stored.label ≡ i.label
  pub writes : stored.writes ≡ i.writes
  pub content : (vblock : ℕ) → stored.content vblock ≡ Holds (i.content vblock)
  pub frozen : AgreeFrozen stored.frozen i.frozen

-- the device stores an image that agrees with the model's, without its change or with it
abbrev pub StoresEither : Geometry → Device → (image : ℕ) → Slot → Type 0
StoresEither g device image slot =
    (stored : StoredImage) × Stores g (all_of device) image stored
    × (Agrees stored slot.image ⊎ ((i : Image) × (slot.change ≡ Some i) × Agrees stored i))
