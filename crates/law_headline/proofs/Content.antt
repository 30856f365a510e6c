-- What holds in every world that events lead to.
use Rattle.std.proofs.Common.{◌≡◌, ℕ, ◌<◌, ◌⊎◌, List, false, Option, Some, None}
use Rattle.std.specs.Prelude.{slice_get}
use Rattle.plx_base.specs.Sectors.{Device, with_landed_sectors}
use Rattle.plx_base.specs.declared.lease.Claim.{Claim}
use Rattle.plx_base.specs.declared.numbers.ApplianceNo.{ApplianceNo}
use Rattle.plx_base.specs.declared.write_kind.WriteKind.{WriteKind}
use Rattle.plx_base.specs.declared.write_kind.WriteKind.TheVariants as kind
use Rattle.plx_commands.specs.Images.{Image}
use Rattle.plx_commands.specs.Judge.{Permitted}
use Rattle.plx_commands.specs.Model.{Model, Slot}
use Rattle.plx_commands.specs.declared.command.Command.{Command}
use Rattle.plx_disk.specs.Writes.{Issued}
use Rattle.plx_geom.specs.Geometry.{Geometry, image_lease}
use Rattle.plx_rules.specs.Process.{Process}
use Rattle.plx_rules.specs.Boot.{Place, Idle, Begins, In, Configuration, configuration}
use Rattle.plx_rules.specs.Commands.{IsBuilt, IsWellFormed}
use Rattle.plx_rules.specs.Ends.{End}
use Rattle.plx_rules.specs.Headline.{starts_and_crashes, events_told, AreUndamaged, model_before, model_in}
use Rattle.plx_rules.specs.Pools.{HasMaps}
use Rattle.plx_rules.specs.Session.{Session, Known}
use Rattle.plx_rules.specs.World.{World, Seat, setting_at}
use Rattle.plx_rules.specs.Rests.{home_of}
use Rattle.law_lease.proofs.Frame.{AllStand}
use Rattle.law_lease.proofs.Leased.{Leased}
use Rattle.law_lease.proofs.Open.{GripsLease, IsOpen}
use Rattle.law_headline.proofs.HandFacts.{HandFits}
use Rattle.law_headline.proofs.Held.{SameSessions, Regime, With, ModelRuns, Looks, HasImage, IsOf, IsOn, HeldProcess, Backs, Fair}
use Rattle.law_headline.proofs.HeldBegins.{IsBegunChange}
use Rattle.law_headline.proofs.HeldFrames.{missing_of}
use Rattle.law_headline.proofs.Journals.{IsJournal, IsShown, HoldsSlot}
use Rattle.law_headline.proofs.MapFacts.{IsMapSpelled}
use Rattle.law_headline.proofs.PlacedByKind.{PlacedBy}
use Rattle.law_model.proofs.Replied.{Names}
use Rattle.law_headline.proofs.WaitsByKind.{WaitsOn}

-- a write of an image's record or journal
abbrev pub IsJournalled : WriteKind → Type 0
IsJournalled kind.Record = Unit {0}
IsJournalled kind.JData = Unit {0}
IsJournalled kind.JCommit = Unit {0}
IsJournalled other = ⊥

-- the appliance with this number
abbrev pub appliance_no : ℕ → ApplianceNo
appliance_no a = record { 0 = a }

-- where an appliance's present boot stands
abbrev pub stands_at : Geometry → (appliance : ℕ) → Seat → Configuration
stands_at g appliance seat = configuration (setting_at g appliance seat.boots) seat.log

-- ---- whoever owns the images: what an appliance knows fits the model, and what is left of its command is fair

-- by where it stands: it is in no command, has begun one, or is in one of which this is left
abbrev pub PlaceFits : Geometry → ℕ → Model → Configuration → Place → Type 0
PlaceFits g a m p (Idle known) = (m.running a ≡ None) × SameSessions a known m × Backs g p.holds known
PlaceFits g a m p (Begins known command) = ModelRuns g a command known m × Backs g p.holds known × IsWellFormed command × IsBuilt command
PlaceFits g a m p (In known command process) = ModelRuns g a command known m × Fair g a command known p.holds p.sample false process

-- ---- an image's owner

-- a command of it has begun
pub record IsBegun (g : Geometry) (a i : ℕ) (command : Command) (known : Known) (session : Session) (device : Device) (m : Model) : Type 0 where
  pub image : Image
  pub change : Option Image
  pub looks : Looks g a i command known (With image change) m
  pub begun : IsBegunChange command image change
  pub journal : IsJournal g device i session.image session.writes
  pub left : IsShown session.image session.writes image

-- a command of it runs: what is left of it is right, and so is what has landed of the write that it waits for
pub record IsServing (g : Geometry) (a i : ℕ) (command : Command) (known : Known) (process : Process End) (device : Device) (writes : List Issued) (pending : Option ℕ) (m : Model) : Type 0 where
  pub regime : Regime
  pub looks : Looks g a i command known regime m
  pub held : HeldProcess g a i command known regime process device
  pub on : IsOn g i device regime
  pub fills : (n : ℕ) (x : Issued) → pending ≡ Some n → slice_get writes n ≡ Some x → IsJournalled x.kind → with_landed_sectors (missing_of x.landed) x.bytes (device x.block) ≡ x.bytes

-- its session of the image, if it has one, is what the device and the model have
abbrev pub HasContent : Geometry → ℕ → ℕ → Known → Device → Model → Type 0
HasContent g a i known device m = (s : Session) → known.sessions i ≡ Some s → HasImage g i a s device (m.slots i)

-- what an appliance that minds an image has of it, by where it stands
abbrev pub OwnedAt : Geometry → ℕ → ℕ → Device → List Issued → Option ℕ → Model → Place → Type 0
OwnedAt g a i device writes pending m (Idle known) = HasContent g a i known device m
OwnedAt g a i device writes pending m (Begins known command) =
    (Names command i → (s : Session) → known.sessions i ≡ Some s → IsBegun g a i command known s device m) × ((Names command i → ⊥) → HasContent g a i known device m)
OwnedAt g a i device writes pending m (In known command process) =
    (Names command i → IsServing g a i command known process device writes pending m) × ((Names command i → ⊥) → HasContent g a i known device m)

-- a boot holds an image's lease, in time
abbrev pub Grips : Geometry → ℕ → List Issued → ℕ → Seat → ℕ → Claim → ℕ → Type 0
Grips g time writes a seat i claim until = GripsLease g time writes a seat (image_lease i) claim until

-- a boot minds an image where it grips its lease, or where its appliance owns the image in the model
abbrev pub Minds : Geometry → ℕ → List Issued → Model → ℕ → Seat → ℕ → Type 0
Minds g time writes m a seat i = ((claim : Claim) × (until : ℕ) × Grips g time writes a seat i claim until) ⊎ ((m.slots i).owner ≡ Some a)

-- what an appliance knows fits the model
abbrev pub SeatFits : Geometry → Model → ℕ → Seat → Type 0
SeatFits g m a seat = PlaceFits g a m (stands_at g a seat) (stands_at g a seat).place

-- what an appliance minds is right
abbrev pub SeatOwns : Geometry → ℕ → Device → List Issued → Model → ℕ → ℕ → Seat → Type 0
SeatOwns g time device writes m i a seat =
    Minds g time writes m a seat i → OwnedAt g a i device writes seat.pending m (stands_at g a seat).place

-- while a write is open under its home, what its kind says of its place holds
abbrev pub Placed : Geometry → (rests : ℕ → List ℕ) → (appliances time : ℕ) → Device → List Issued → (ℕ → Seat) → (slots : ℕ → Slot) → Type 0
Placed g rests appliances time device writes seats slots =
    (home n : ℕ) (x : Issued) → home_of (rests n) ≡ Some home → IsOpen g rests appliances time writes seats home n x → PlacedBy x.kind g device slots home x.block x.bytes

-- while an appliance owns the image in the model, an open write of the image is what it waits for
abbrev pub Whose : Geometry → (rests : ℕ → List ℕ) → (appliances time : ℕ) → List Issued → (ℕ → Seat) → ℕ → Slot → Type 0
Whose g rests appliances time writes seats i slot =
    (n : ℕ) (x : Issued) → IsOpen g rests appliances time writes seats (image_lease i) n x → IsOf g i x.block → (b : ℕ) → slot.owner ≡ Some b → (seats b).pending ≡ Some n

-- while all claims on which an issued write rests stand, what its kind waits on holds
abbrev pub WaitsAreMet : Geometry → (rests : ℕ → List ℕ) → (appliances time : ℕ) → Device → List Issued → (ℕ → Seat) → Type 0
WaitsAreMet g rests appliances time device writes seats =
    (n : ℕ) (x : Issued) → slice_get writes n ≡ Some x → AllStand g rests appliances time writes seats n x → WaitsOn x.kind g device x.block x.bytes x.landed

-- each write of a map that was issued spells a map
abbrev pub SpellMaps : Geometry → List Issued → Type 0
SpellMaps g writes = (n : ℕ) (x : Issued) → slice_get writes n ≡ Some x → IsMapSpelled g x.kind x.bytes

-- what a boot has in hand is no map's block
abbrev pub SeatHand : Geometry → (appliance : ℕ) → Seat → Type 0
SeatHand g a seat = HandFits g (stands_at g a seat)

-- the invariant of the headline
pub record KeepsContent (w : World) : Type 0 where
  pub leased : Leased w
  pub told : starts_and_crashes w.trace ≡ events_told w.history
  pub permitted : Permitted (model_before w) w.trace
  pub undamaged : AreUndamaged w.trace
  pub stored : (i : ℕ) → i < w.geometry.images → HoldsSlot w.geometry w.surface.device i ((model_in w).slots i)
  pub placed : Placed w.geometry w.rests w.appliances w.surface.time w.surface.device w.surface.writes w.seats (model_in w).slots
  pub whose : (i : ℕ) → i < w.geometry.images → Whose w.geometry w.rests w.appliances w.surface.time w.surface.writes w.seats i ((model_in w).slots i)
  pub spelled : SpellMaps w.geometry w.surface.writes
  pub maps : HasMaps w.geometry w.surface.device
  pub hands : (a : ℕ) → a < w.appliances → SeatHand w.geometry a (w.seats a)
  pub waits : WaitsAreMet w.geometry w.rests w.appliances w.surface.time w.surface.device w.surface.writes w.seats
  pub seats : (a : ℕ) → a < w.appliances → SeatFits w.geometry (model_in w) a (w.seats a)
  pub owned : (i : ℕ) → i < w.geometry.images → (a : ℕ) → a < w.appliances → SeatOwns w.geometry w.surface.time w.surface.device w.surface.writes (model_in w) i a (w.seats a)
