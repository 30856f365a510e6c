-- What stands where an event is possible.
use Rattle.std.proofs.Common.{◌≡◌, ◌+◌, ◌^◌, ◌≤◌, ◌<◌, ℕ, Option, Some, None, refl, ap, ◌∙◌}
use Rattle.plx_base.specs.declared.numbers.ApplianceNo.{ApplianceNo}
use Rattle.plx_base.specs.declared.numbers.BlockNo.{BlockNo}
use Rattle.plx_base.specs.declared.write_kind.WriteKind.{WriteKind}
use Rattle.plx_commands.specs.declared.command.Command.{Command}
use Rattle.plx_commands.specs.declared.event.Event.TheVariants as event
use Rattle.plx_disk.specs.Writes.{Issued, HasLanded, MayLand}
use Rattle.plx_disk.specs.declared.ask.Ask.{Ask}
use Rattle.plx_disk.specs.declared.ask.Ask.TheVariants as ask
use Rattle.plx_rules.specs.Boot.{Place, Idle, asks}
use Rattle.plx_rules.specs.Commands.{IsBuilt, IsWellFormed}
use Rattle.plx_rules.specs.Session.{Known}
use Rattle.plx_rules.specs.World.{World, IsBack, IsReadingAt, Step, stands, ticks, starts, begins, reads, read_faults, issues, lands, dones, write_faults, misses, clocks, waits, crashes}
use Rattle.plx_world.specs.Answering.{asked_by, pending_of}
use Rattle.plx_world.proofs.Seating.{if-below}

-- what an appliance that is there asks at its place
asks-at : (w : World) (a : ℕ) (p : Place) (asked : Ask) → a < w.appliances → (stands w a).place ≡ p → asks p ≡ Some asked → asked_by w a ≡ Some asked
asks-at w a p asked below at is = if-below a w.appliances (asks (stands w a).place) None below ∙ ap asks at ∙ is

pends-at : (w : World) (a : ℕ) (p : Option ℕ) → a < w.appliances → (w.seats a).pending ≡ p → pending_of w a ≡ p
pends-at w a p below at = if-below a w.appliances (w.seats a).pending None below ∙ at

pub step-tick : {by : ℕ} {w v : World} → Step w (event.Tick by) v → w.surface.time + by < 2 ^ 47
step-tick (ticks early) = early

pub record IsStart (w : World) (a : ApplianceNo) (command : Command) : Type 0 where
  pub below : a.0 < w.appliances
  pub known : Known
  pub at : (stands w a.0).place ≡ Idle known
  pub built : IsBuilt command
  pub formed : IsWellFormed command

pub step-start : {a : ApplianceNo} {command : Command} {w v : World} → Step w (event.Start a command) v → IsStart w a command
step-start (starts known below at formed built) = record { below = below; known = known; at = at; built = built; formed = formed }

pub step-read : {a : ApplianceNo} {w v : World} → Step w (event.Read a) v → (block : BlockNo) × (asked_by w a.0 ≡ Some (ask.Read block))
step-read {a} {w} (reads known command block rest fault below at) = (record { 0 = block }, asks-at w a.0 _ _ below at refl)

-- a read or a write is asked
pub data AsksDevice (w : World) (a : ApplianceNo) : Type 0 where
  read : (block : BlockNo) → asked_by w a.0 ≡ Some (ask.Read block) → AsksDevice w a
  write : (kind : WriteKind) (block : BlockNo) (guard : ℕ) → asked_by w a.0 ≡ Some (ask.Write kind block guard) → AsksDevice w a

pub step-fault : {a : ApplianceNo} {w v : World} → Step w (event.Fault a) v → AsksDevice w a
step-fault {a} {w} (read_faults known command block rest fault below at) = read (record { 0 = block }) (asks-at w a.0 _ _ below at refl)
step-fault {a} {w} (write_faults known command kind block bytes guard done fault missed below at) =
    write kind (record { 0 = block }) guard (asks-at w a.0 _ _ below at refl)

pub record Written (w : World) (a : ApplianceNo) (pending : Option ℕ) : Type 0 where
  pub kind : WriteKind
  pub block : BlockNo
  pub guard : ℕ
  pub asked : asked_by w a.0 ≡ Some (ask.Write kind block guard)
  pub pends : pending_of w a.0 ≡ pending

pub step-issue : {a : ApplianceNo} {w v : World} → Step w (event.Issue a) v → Written w a None
step-issue {a} {w} (issues known command kind block bytes guard done fault missed below at none) =
    record { kind = kind; block = record { 0 = block }; guard = guard; asked = asks-at w a.0 _ _ below at refl; pends = pends-at w a.0 None below none }

pub step-done : {a : ApplianceNo} {w v : World} → Step w (event.Done a) v → (number : ℕ) × Written w a (Some number) × HasLanded w.surface number
step-done {a} {w} (dones known command kind block bytes guard done fault missed number below at pending landed) = (
  number,
  record { kind = kind; block = record { 0 = block }; guard = guard; asked = asks-at w a.0 _ _ below at refl; pends = pends-at w a.0 (Some number) below pending },
  landed,
)

pub step-miss : {a : ApplianceNo} {reading : ℕ} {w v : World} → Step w (event.Miss a reading) v →
    (written : Written w a None) × (written.guard < reading) × IsReadingAt reading w.surface.time
step-miss {a} {reading} {w} (misses known command kind block bytes guard done fault missed below at none past is) = (
  record { kind = kind; block = record { 0 = block }; guard = guard; asked = asks-at w a.0 _ _ below at refl; pends = pends-at w a.0 None below none },
  past,
  is,
)

-- a reading answers the clock, or waits for a time
pub data AsksReading (w : World) (a : ApplianceNo) (reading : ℕ) : Type 0 where
  clock : asked_by w a.0 ≡ Some ask.Clock → AsksReading w a reading
  wait : (from : ℕ) → asked_by w a.0 ≡ Some (ask.Until from) → from ≤ reading → AsksReading w a reading

pub step-reading : {a : ApplianceNo} {reading : ℕ} {w v : World} → Step w (event.Reading a reading) v → AsksReading w a reading × IsReadingAt reading w.surface.time
step-reading {a} {reading} {w} (begins known command below at is) = (clock (asks-at w a.0 _ _ below at refl), is)
step-reading {a} {reading} {w} (clocks known command rest below at is) = (clock (asks-at w a.0 _ _ below at refl), is)
step-reading {a} {reading} {w} (waits known command from rest below at is late) = (wait from (asks-at w a.0 _ _ below at refl) late, is)

pub step-land : {a : ApplianceNo} {back sector : ℕ} {w v : World} → Step w (event.Land a back sector) v →
    (a.0 < w.appliances) × ((number : ℕ) × (write : Issued) × IsBack w.surface.writes a.0 back number write × MayLand w.surface number sector write)
step-land (lands number one below is may) = (below, (number, one, is, may))

pub step-crash : {a : ApplianceNo} {w v : World} → Step w (event.Crash a) v → (a.0 < w.appliances) × ((w.seats a.0).boots + 1 < 2 ^ 32)
step-crash (crashes below few) = (below, few)
