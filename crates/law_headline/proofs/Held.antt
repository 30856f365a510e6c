-- What the rest of a command keeps, while its boot owns the image, and whoever owns it.
use Rattle.std.proofs.Common.{◌≡◌, ℕ, ◌^◌, ◌≤◌, ◌<◌, ◌⊎◌, List, [], ◌∷◌, length, Bool, true, false, Option, Some, None}
use Rattle.std.specs.Prelude.{is_some, nat_lt, ◌&&◌}
use Rattle.plx_base.specs.Sectors.{Device, put, with_landed_sectors}
use Rattle.plx_base.specs.declared.lease.Claim.{Claim}
use Rattle.plx_base.specs.declared.lease.LeaseRecord.{LeaseRecord}
use Rattle.plx_base.specs.declared.lease.LeaseRecord.TheVariants.{Claimed}
use Rattle.plx_base.specs.declared.write_kind.WriteKind.{WriteKind}
use Rattle.plx_base.specs.declared.write_kind.WriteKind.TheVariants as kind
use Rattle.plx_commands.specs.Images.{Image}
use Rattle.plx_commands.specs.Model.{Model, Slot}
use Rattle.plx_commands.specs.Moves.{model_after_reply}
use Rattle.plx_commands.specs.Slots.{named_slots}
use Rattle.plx_commands.specs.declared.command.Command.{Command}
use Rattle.plx_commands.specs.declared.command.Command.TheVariants.{Attach}
use Rattle.plx_commands.proofs.Accepted.{Answers}
use Rattle.plx_disk.specs.declared.ask.Ask.TheVariants as ask
use Rattle.plx_disk.specs.declared.ask.Answer.TheVariants as answer
use Rattle.plx_extent.specs.Maps.{HoldsMap}
use Rattle.plx_gate.specs.Leases.{lease_bytes, IsLease, IsClaimed}
use Rattle.plx_gate.specs.declared.image.ImageRecord.{ImageRecord}
use Rattle.plx_geom.specs.Geometry.{Geometry, lease_count, image_lease, lease_at, record_at, descriptor_at, data_at, map_at}
use Rattle.plx_rules.specs.Process.{Process, Ends, ReadThen, WriteThen, ClockThen, UntilThen}
use Rattle.plx_rules.specs.Journaled.{Journaled}
use Rattle.plx_rules.specs.Ends.{End}
use Rattle.plx_rules.specs.Headline.{IsUndamaged}
use Rattle.plx_rules.specs.Holds.{Hold, Waited, Held, no_holds, after_answer, after_write, holds_after_reply, hold_after_reading}
use Rattle.plx_rules.specs.Session.{Session, Known}
use Rattle.law_headline.proofs.Harmless.{Harmless, Yields}
use Rattle.law_headline.proofs.Journals.{IsJournal, IsShown, ShowEither, HoldsSlot}
use Rattle.law_headline.proofs.MapFacts.{IsMapSpelled}
use Rattle.law_model.specs.Sound.{Differs}
use Rattle.law_headline.proofs.BytesByKind.{OnlyBytes}
use Rattle.law_model.proofs.Replied.{Names, IsDropping, sessions_after}

-- of which slots there is a session
abbrev pub attached_of : Known → ℕ → Bool
attached_of known = λ j. is_some (known.sessions j)

-- the appliance's sessions in the model are those that it knows
abbrev pub SameSessions : ℕ → Known → Model → Type 0
SameSessions a known m = (j : ℕ) → m.sessions a j ≡ attached_of known j

-- how the model looks to the image's owner while a command of it runs, whatever others do: without a session, by what an attach sees; or with the image and its change
pub data Regime : Type 0 where
  Without : ImageRecord → List Journaled → Regime
  With : Image → Option Image → Regime

-- only an image's owner in the model changes it
abbrev pub IsWith : Regime → Type 0
IsWith (Without kept writes) = ⊥
IsWith (With image change) = Unit {0}

-- what an attach has seen of the image stands on the device
abbrev pub IsOn : Geometry → ℕ → Device → Regime → Type 0
IsOn g i device (Without kept writes) = IsJournal g device i kept writes
IsOn g i device (With image change) = Unit {0}

-- an image that isn't attached is looked at by an attach alone
abbrev pub IsFor : Regime → Command → ℕ → Type 0
IsFor (Without kept writes) command i = command ≡ Attach (record { 0 = i })
IsFor (With image change) command i = Unit {0}

-- the model has the appliance in this command, with these sessions
pub record ModelRuns (g : Geometry) (a : ℕ) (command : Command) (known : Known) (m : Model) : Type 0 where
  pub placed : a < m.appliances
  pub images : m.images ≡ g.images
  pub runs : m.running a ≡ Some command
  pub sessions : SameSessions a known m

-- how a slot looks to its owner
abbrev pub LooksSlot : ℕ → Regime → Slot → Type 0
LooksSlot a (Without kept writes) slot = ShowEither kept writes slot × Differs slot
LooksSlot a (With image change) slot = (slot.owner ≡ Some a) × (slot.image ≡ image) × (slot.change ≡ change)

-- how the model looks to the owner of an image while this command of it runs
pub record Looks (g : Geometry) (a i : ℕ) (command : Command) (known : Known) (regime : Regime) (m : Model) : Type 0 where
  pub running : ModelRuns g a command known m
  pub slot : LooksSlot a regime (m.slots i)
  pub purpose : IsFor regime command i

-- a session of the image that its appliance owns
pub record HasImage (g : Geometry) (i a : ℕ) (session : Session) (device : Device) (slot : Slot) : Type 0 where
  pub owner : slot.owner ≡ Some a
  pub decided : slot.change ≡ None
  pub journal : IsJournal g device i session.image session.writes
  pub left : IsShown session.image session.writes slot.image

-- a block of the image: its record, or one of its journal
abbrev pub IsOf : Geometry → ℕ → ℕ → Type 0
IsOf g i block = (block ≡ record_at g i) ⊎ ((slot : ℕ) × (slot < g.slots) × ((block ≡ descriptor_at g i slot) ⊎ (block ≡ data_at g i slot)))

-- the reply is permitted by every model that looks so, leaves the image kept, and known where a session is left, and tells of no bytes outside the format
abbrev pub HeldEnd : Geometry → ℕ → ℕ → Command → Known → Regime → End → Device → Type 0
HeldEnd g a i command known regime end device =
    (m : Model) → Looks g a i command known regime m →
    Answers m a command end.reply × HoldsSlot g device i ((model_after_reply m a command end.reply).slots i)
    × ((s : Session) → end.known.sessions i ≡ Some s → HasImage g i a s device ((model_after_reply m a command end.reply).slots i)) × IsUndamaged end.reply

-- the rest of a command is right while its boot owns the image: after a failed write, or once the release is asked, it doesn't
abbrev pub HeldProcess : Geometry → ℕ → ℕ → Command → Known → Regime → Process End → Device → Type 0
HeldProcess g a i command known regime (Ends end) device = HeldEnd g a i command known regime end device
HeldProcess g a i command known regime (ReadThen block rest fault) device =
    IsOf g i block × HeldProcess g a i command known regime (rest (device block)) device × HeldProcess g a i command known regime fault device
HeldProcess g a i command known regime (WriteThen kind.Release block bytes guard done fault missed) device =
    ((m : Model) → Looks g a i command known regime m → HoldsSlot g device i (m.slots i)) × HeldProcess g a i command known regime done device
HeldProcess g a i command known regime (WriteThen what block bytes guard done fault missed) device =
    IsOf g i block
    × ((flags : List Bool) → length flags ≡ 8 → (m : Model) → Looks g a i command known regime m → HoldsSlot g (put device block (with_landed_sectors flags bytes (device block))) i (m.slots i))
    × HeldProcess g a i command known regime done (put device block bytes)
    × IsWith regime
    × OnlyBytes what bytes (device block)
HeldProcess g a i command known regime (ClockThen rest) device = (reading : ℕ) → HeldProcess g a i command known regime (rest reading) device
HeldProcess g a i command known regime (UntilThen from rest) device = (reading : ℕ) → HeldProcess g a i command known regime (rest reading) device

-- ---- whoever owns the image

-- the lease of each session is held
pub record IsBacking (g : Geometry) (holds : ℕ → Hold) (image : ℕ) : Type 0 where
  pub within : image < g.images
  pub claim : Claim
  pub until : ℕ
  pub held : holds (lease_at (image_lease image)) ≡ Held claim until
  pub limits : IsClaimed claim until

-- each session's lease is held
abbrev pub Backs : Geometry → (ℕ → Hold) → Known → Type 0
Backs g holds known = (k : ℕ) (s : Session) → known.sessions k ≡ Some s → IsBacking g holds k

-- a failed or missed write ends the command, and drops all
abbrev pub IsDrop : Process End → Type 0
IsDrop (Ends end) = IsDropping end.reply
IsDrop other = ⊥

-- an end, directly after a reading below the end of each named image's lease, or not
pub record IsFairEnd (g : Geometry) (command : Command) (known : Known) (holds : ℕ → Hold) (just : Bool) (end : End) : Type 0 where
  pub kept : (k : ℕ) → attached_of end.known k ≡ sessions_after command end.reply (attached_of known) k
  pub backs : Backs g (holds_after_reply end.reply holds) end.known
  pub away : (k : ℕ) → (Names command k → ⊥) → (end.known.sessions k ≡ known.sessions k) ⊎ IsDropping end.reply
  pub clean : IsUndamaged end.reply ⊎ (just ≡ true)
  pub allowed : Harmless g.images (attached_of known) command end.reply ⊎ ((just ≡ true) ⊎ Yields command end.reply)

-- the lease is held at this reading
abbrev pub is_below : Hold → ℕ → Bool
is_below (Held claim until) reading = nat_lt reading until
is_below other reading = false

-- the lease of each of these images is held at this reading
abbrev pub are_below : Geometry → (ℕ → Hold) → ℕ → List ℕ → Bool
are_below g holds reading [] = true
are_below g holds reading (image ∷ others) = (nat_lt image g.images && is_below (holds (lease_at (image_lease image))) reading) && are_below g holds reading others

-- there is a slot among them
abbrev pub is_some_slot : List ℕ → Bool
is_some_slot [] = false
is_some_slot (slot ∷ others) = true

-- some image is named, and the lease of each is held at this reading
abbrev pub just_at : Geometry → Command → (ℕ → Hold) → ℕ → Bool
just_at g command holds reading = is_some_slot (named_slots command) && are_below g holds reading (named_slots command)

-- the reread that shows the boot's own claim makes it the owner
abbrev pub IsRightOnceConfirmed : Geometry → ℕ → Command → Known → (ℕ → Hold) → ℕ → (List ℕ → Process End) → Type 0
IsRightOnceConfirmed g a command known holds block rest =
    (i : ℕ) (claim : Claim) (until : ℕ) → i < g.images → block ≡ lease_at (image_lease i) → holds (lease_at (image_lease i)) ≡ Waited claim until →
    (command ≡ Attach (record { 0 = i })) × ((device : Device) (kept : ImageRecord) (writes : List Journaled) → IsJournal g device i kept writes →
    HeldProcess g a i command known (Without kept writes) (rest (lease_bytes (Claimed claim until))) device)

-- a write of a record or a journal is one of the named image's
abbrev pub IsNamed : Geometry → Command → WriteKind → ℕ → Type 0
IsNamed g command kind.Record block = (i : ℕ) × (i < g.images) × IsOf g i block × Names command i
IsNamed g command kind.JData block = (i : ℕ) × (i < g.images) × IsOf g i block × Names command i
IsNamed g command kind.JCommit block = (i : ℕ) × (i < g.images) × IsOf g i block × Names command i
IsNamed g command other block = Unit {0}

-- a write of a command is of an image that it names, where it is of one, and spells a map where it is of one
pub record IsFairWrite (g : Geometry) (command : Command) (what : WriteKind) (block : ℕ) (bytes : List ℕ) : Type 0 where
  pub named : IsNamed g command what block
  pub spells : IsMapSpelled g what bytes

-- what stands in a lease's block is a lease, and in a map's a map
pub record IsSpelled (g : Geometry) (block : ℕ) (bytes : List ℕ) : Type 0 where
  pub lease : (lease : ℕ) → lease < lease_count g → block ≡ lease_at lease → (r : LeaseRecord) × (bytes ≡ lease_bytes r) × IsLease r
  pub map : (extent : ℕ) → extent < g.extents → block ≡ map_at g extent → HoldsMap g.extent_blocks bytes

-- the rest of a command is right whoever owns the images: `just` says that a reading below the end of each named image's lease came directly before
abbrev pub Fair : Geometry → ℕ → Command → Known → (ℕ → Hold) → Option ℕ → Bool → Process End → Type 0
Fair g a command known holds sample just (Ends end) = IsFairEnd g command known holds just end
Fair g a command known holds sample just (ReadThen block rest fault) =
    ((bytes : List ℕ) → IsSpelled g block bytes → Fair g a command known (after_answer sample (ask.Read (record { 0 = block })) [] (answer.Bytes bytes) holds) None false (rest bytes))
    × Fair g a command known holds None false fault × IsRightOnceConfirmed g a command known holds block rest
Fair g a command known holds sample just (WriteThen what block bytes guard done fault missed) =
    IsFairWrite g command what block bytes × (length bytes ≡ 4096) × Fair g a command known (after_write what block bytes holds) None false done
    × Fair g a command known no_holds None false fault × ((reading : ℕ) → Fair g a command known no_holds None false (missed reading))
    × IsDrop fault × ((reading : ℕ) → IsDrop (missed reading))
Fair g a command known holds sample just (ClockThen rest) =
    (reading : ℕ) → reading < 2 ^ 48 →
    Fair g a command known (λ block. hold_after_reading reading (holds block)) (Some reading) (just_at g command (λ block. hold_after_reading reading (holds block)) reading) (rest reading)
Fair g a command known holds sample just (UntilThen from rest) =
    (reading : ℕ) → from ≤ reading → reading < 2 ^ 48 →
    Fair g a command known (λ block. hold_after_reading reading (holds block)) (Some reading) (just_at g command (λ block. hold_after_reading reading (holds block)) reading) (rest reading)
