-- The events that stand for several, and whole schedules.
use Rattle.std.specs.Prelude.{◌≡◌, ◌+◌, ◌-◌, ◌%◌, ℕ, List, [], ◌∷◌, slice_get, drop, Option, Some}
use Rattle.std.specs.Prelude.{None, Bool, true, false, not, if◌then◌else◌, ◌&&◌, ◌==◌, ◌<◌, nat_le}
use Rattle.std.specs.Prelude.{nat_lt}
use Rattle.plx_base.specs.declared.numbers.ApplianceNo.{ApplianceNo}
use Rattle.plx_base.specs.declared.write_kind.WriteKind.{WriteKind}
use Rattle.plx_base.specs.declared.write_kind.WriteKind.TheVariants as kind
use Rattle.plx_commands.specs.declared.event.Event.{Event}
use Rattle.plx_commands.specs.declared.event.Event.TheVariants as event
use Rattle.plx_commands.specs.declared.event.Region.{Region}
use Rattle.plx_commands.specs.declared.event.Region.TheVariants as region
use Rattle.plx_commands.specs.declared.event.Stop.{Stop}
use Rattle.plx_commands.specs.declared.event.Stop.TheVariants as stop
use Rattle.plx_disk.specs.Writes.{Issued}
use Rattle.plx_geom.specs.Geometry.{Geometry, lease_at, record_at, log_at, journal_start}
use Rattle.plx_geom.specs.Geometry.{extents_start, block_count}
use Rattle.plx_rules.specs.Process.{Process, Ends, ReadThen, WriteThen, ClockThen, UntilThen}
use Rattle.plx_rules.specs.Boot.{Place, Idle, Begins, In}
use Rattle.plx_rules.specs.Ends.{End}
use Rattle.plx_rules.specs.Times.{drift}
use Rattle.plx_rules.specs.World.{World, Step, Reached, stands, issued_by}

-- ---- the next event of a run

-- the next sector
abbrev pub next_sector : Option ℕ → Option ℕ
next_sector None = None
next_sector (Some sector) = Some (sector + 1)

-- the least sector that hasn't landed, by the flags
abbrev pub missing_sector : List Bool → Option ℕ
missing_sector [] = None
missing_sector (false ∷ flags) = Some 0
missing_sector (true ∷ flags) = next_sector (missing_sector flags)

-- a write that isn't issued yet is issued, or is missed where the time is past its guard
abbrev pub issue_or_miss : World → ApplianceNo → (guard : ℕ) → Event
issue_or_miss w appliance guard =
    if nat_le w.surface.time guard
    then event.Issue appliance
    else event.Miss appliance w.surface.time

-- a write that is issued has its missing sectors landed in ascending order,
-- and is then answered; it fails where a missing sector can't land any more
abbrev pub next_of_sector : World → ApplianceNo → (back guard : ℕ) → Option ℕ → Event
next_of_sector w appliance back guard None = event.Done appliance
next_of_sector w appliance back guard (Some sector) =
    if nat_le w.surface.time (guard + drift)
    then event.Land appliance back sector
    else event.Fault appliance

-- the same, of the issued write that is waited for; so many newer ones of the appliance were issued
abbrev pub next_landing : World → ApplianceNo → (back : ℕ) → Option Issued → Option Event
next_landing w appliance back None = None
next_landing w appliance back (Some write) =
    Some (next_of_sector w appliance back write.guard (missing_sector write.landed))

-- what a run makes next of the write that is asked, issued or not
abbrev pub next_of_write : World → ApplianceNo → (guard : ℕ) → Option ℕ → Option Event
next_of_write w appliance guard None = Some (issue_or_miss w appliance guard)
next_of_write w appliance guard (Some number) =
    next_landing w appliance (issued_by appliance.0 (drop (number + 1) w.surface.writes))
    (slice_get w.surface.writes number)

-- what the rest of a command asks next: a clock reading
-- is the time, and a run stops at a wait that isn't over
abbrev pub next_of_process : World → ApplianceNo → Process End → Option Event
next_of_process w appliance (Ends end) = None
next_of_process w appliance (ReadThen block rest fault) = Some (event.Read appliance)
next_of_process w appliance (WriteThen kind block bytes guard done fault missed) =
    next_of_write w appliance guard (w.seats appliance.0).pending
next_of_process w appliance (ClockThen rest) = Some (event.Reading appliance w.surface.time)
next_of_process w appliance (UntilThen from rest) =
    if nat_le from w.surface.time then Some (event.Reading appliance w.surface.time) else None

-- the event that a run makes next, by where the appliance stands
abbrev pub next_at : World → ApplianceNo → Place → Option Event
next_at w appliance (Idle known) = None
next_at w appliance (Begins known command) = Some (event.Reading appliance w.surface.time)
next_at w appliance (In known command process) = next_of_process w appliance process

-- ---- where an `upto` stops

-- the kinds of writes by number
abbrev pub kind_number : WriteKind → ℕ
kind_number kind.Claim = 0
kind_number kind.Renew = 1
kind_number kind.Release = 2
kind_number kind.Take = 3
kind_number kind.Give = 4
kind_number kind.Sweep = 5
kind_number kind.Fresh = 6
kind_number kind.Link = 7
kind_number kind.Overwrite = 8
kind_number kind.Record = 9
kind_number kind.Log = 10
kind_number kind.JData = 11
kind_number kind.JCommit = 12

-- whether a number is from one on and below another
abbrev pub is_between : (low high : ℕ) → ℕ → Bool
is_between low high number = nat_le low number && nat_lt number high

-- whether a block of the extents is the map of one
abbrev pub is_map : Geometry → (block : ℕ) → Bool
is_map g block = (block - extents_start g) % g.extent_blocks == 0

-- whether a block lies in a region
abbrev pub is_in_region : Geometry → Region → (block : ℕ) → Bool
is_in_region g region.Lease block = is_between (lease_at 0) (record_at g 0) block
is_in_region g region.Record block = is_between (record_at g 0) (log_at g 0) block
is_in_region g region.Log block = is_between (log_at g 0) (journal_start g) block
is_in_region g region.Journal block = is_between (journal_start g) (extents_start g) block
is_in_region g region.Map block =
    is_between (extents_start g) (block_count g) block && is_map g block
is_in_region g region.Pool block =
    is_between (extents_start g) (block_count g) block && not (is_map g block)

-- whether no write was issued for the ask that stands
abbrev pub is_unissued : Option ℕ → Bool
is_unissued None = true
is_unissued (Some number) = false

-- whether an `upto` stops before the ask of a rest is answered:
-- at a write of its kind that isn't issued yet, or at a read in its region
abbrev pub stops_in : Geometry → Stop → (pending : Option ℕ) → Process End → Bool
stops_in g (stop.Write k) pending (WriteThen kind block bytes guard done fault missed) =
    (kind_number k == kind_number kind) && is_unissued pending
stops_in g (stop.Read r) pending (ReadThen block rest fault) = is_in_region g r block
stops_in g other pending process = false

-- the same, at a place
abbrev pub stops_at : Geometry → Stop → (pending : Option ℕ) → Place → Bool
stops_at g stop pending (Idle known) = false
stops_at g stop pending (Begins known command) = false
stops_at g stop pending (In known command process) = stops_in g stop pending process

-- whether a run stops: it has no stop, or stops by it
abbrev pub stops : Geometry → Option Stop → (pending : Option ℕ) → Place → Bool
stops g None pending place = false
stops g (Some stop) pending place = stops_at g stop pending place

-- the event that a run with this stop makes next
abbrev pub next_event : World → ApplianceNo → Option Stop → Option Event
next_event w appliance stop =
    if stops w.geometry stop (w.seats appliance.0).pending (stands w appliance.0).place
    then None
    else next_at w appliance (stands w appliance.0).place

-- ---- runs and schedules

-- a run from one world to another: it ends where there is no next event
pub data Runs (appliance : ApplianceNo) (stop : Option Stop) : World → World → Type 0 where
  ends : {w : World} → next_event w appliance stop ≡ None → Runs appliance stop w w
  goes : {w u v : World} (event : Event) → next_event w appliance stop ≡ Some event →
      Step w event u → Runs appliance stop u v → Runs appliance stop w v

-- some of the events of a run
pub data RunsPartly (appliance : ApplianceNo) (stop : Option Stop) : World → World → Type 0 where
  none_yet : {w : World} → RunsPartly appliance stop w w
  more : {w u v : World} (event : Event) → next_event w appliance stop ≡ Some event →
      Step w event u → RunsPartly appliance stop u v →
      RunsPartly appliance stop w v

-- what an event makes of a world: one step, or the steps of a run, of which there is at least one
pub data Makes : World → Event → World → Type 0 where
  plain : {w v : World} {one : Event} → Step w one v → Makes w one v
  runs : {w u v : World} (appliance : ApplianceNo) (one : Event) →
      next_event w appliance None ≡ Some one → Step w one u → Runs appliance None u v →
      Makes w (event.Run appliance) v
  runs_upto : {w u v : World} (appliance : ApplianceNo) (stop : Stop) (one : Event) →
      next_event w appliance (Some stop) ≡ Some one → Step w one u →
      Runs appliance (Some stop) u v → Makes w (event.Upto appliance stop) v

-- an event that isn't possible changes nothing
pub data IsPlayed : World → Event → World → Type 0 where
  made : {w v : World} {event : Event} → Makes w event v → IsPlayed w event v
  skipped : {w : World} {event : Event} → ((v : World) → ¬ Makes w event v) → IsPlayed w event w

-- a whole schedule, event after event
pub data Plays : World → List Event → World → Type 0 where
  over : {w : World} → Plays w [] w
  next : {w u v : World} {event : Event} {events : List Event} →
      IsPlayed w event u → Plays u events v → Plays w (event ∷ events) v

-- some plain events at the beginning of an event
pub data MakesPartly : World → Event → World → Type 0 where
  nothing : {w : World} {one : Event} → MakesPartly w one w
  of_run : {w v : World} (appliance : ApplianceNo) →
      RunsPartly appliance None w v → MakesPartly w (event.Run appliance) v
  of_upto : {w v : World} (appliance : ApplianceNo) (stop : Stop) →
      RunsPartly appliance (Some stop) w v → MakesPartly w (event.Upto appliance stop) v

-- a schedule up to some plain event
pub data PlaysPartly : World → List Event → World → Type 0 where
  over : {w : World} → PlaysPartly w [] w
  within : {w v : World} {event : Event} {events : List Event} →
      MakesPartly w event v → PlaysPartly w (event ∷ events) v
  next : {w u v : World} {event : Event} {events : List Event} →
      IsPlayed w event u → PlaysPartly u events v → PlaysPartly w (event ∷ events) v

-- the next event of a run of an appliance is possible, in every world that events lead to
abbrev pub RunsGoOn : Type 0
RunsGoOn =
    (w : World) → Reached w → (appliance : ApplianceNo) (stop : Option Stop) (event : Event) →
    next_event w appliance stop ≡ Some event →
    appliance.0 < w.appliances → (v : World) × Step w event v

-- what is played from a world that events lead to is one, in whole or in part
abbrev pub PlayedIsReached : Type 0
PlayedIsReached =
    (w v : World) (events : List Event) → Reached w → PlaysPartly w events v → Reached v
