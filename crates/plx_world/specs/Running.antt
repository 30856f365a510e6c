-- A run, event by event.
use Rattle.std.specs.Prelude.{◌≡◌, ◌+◌, ◌*◌, ◌-◌, ◌<◌, ◌⊎◌, ℕ, List, length, Bool, MatchBool, Option, Some, None, slice_get}
use Rattle.plx_base.specs.declared.numbers.ApplianceNo.{ApplianceNo}
use Rattle.plx_commands.specs.declared.event.Event.{Event}
use Rattle.plx_commands.specs.declared.event.Stop.{Stop}
use Rattle.plx_disk.specs.Writes.{Issued}
use Rattle.plx_disk.specs.declared.ask.Ask.TheVariants as ask
use Rattle.plx_base.specs.declared.write_kind.WriteKind.{WriteKind}
use Rattle.plx_base.specs.declared.numbers.BlockNo.{BlockNo}
use Rattle.plx_rules.specs.Sequences.{Runs, RunsPartly, missing_sector, next_event, stops}
use Rattle.plx_rules.specs.World as rules
use Rattle.plx_rules.specs.Settings.{Setting}
use Rattle.plx_rules.specs.World.{Step, setting_of, stands}
use Rattle.law_run.specs.Bounds.{bound}
use Rattle.law_run.specs.CommandLogs.{Commands, Between, Within, commands}
use Rattle.plx_world.specs.Answering.{asked_by}
use Rattle.plx_world.specs.Standing.{WorldStands}
use Rattle.plx_world.specs.declared.world.World.{World}

-- how many answers the command of a boot takes at most from here on
abbrev pub asks_left : Setting → Commands → ℕ
asks_left s (Between finished) = 0
asks_left s (Within log) = bound s log - length log.exchanges

-- the commands of the present boot of an appliance
abbrev pub commands_at : rules.World → (appliance : ℕ) → Commands
commands_at w appliance = commands (setting_of w appliance) (w.seats appliance).log

-- how many sectors are left to land, from the least missing one on
abbrev pub sectors_left : Option ℕ → ℕ
sectors_left None = 0
sectors_left (Some sector) = 8 - sector

-- how many sectors of a write haven't landed
abbrev pub write_left : Option Issued → ℕ
write_left None = 0
write_left (Some write) = sectors_left (missing_sector write.landed)

-- how many plain events come before the answer of an ask, at most: a write is issued, and its sectors land
abbrev pub events_left : Option ℕ → List Issued → ℕ
events_left None writes = 9
events_left (Some number) writes = write_left (slice_get writes number)

-- how many plain events a run of an appliance makes at most from here on, by the bound of its command
abbrev pub run_left : rules.World → ApplianceNo → ℕ
run_left w appliance =
    10 * asks_left (setting_of w appliance.0) (commands_at w appliance.0)
    + events_left (w.seats appliance.0).pending w.surface.writes

-- plain events that a run makes one after another, whatever its stop is
pub data Onward (appliance : ApplianceNo) : rules.World → rules.World → Type 0 where
  arrived : {w : rules.World} → Onward appliance w w
  onward : {w u v : rules.World} (one : Event) → ((stop : Option Stop) → next_event w appliance stop ≡ Some one) → Step w one u → Onward appliance u v →
      Onward appliance w v

-- one more plain event of a run, or several, of which less is left
pub record OneMore (appliance : ApplianceNo) (stop : Option Stop) (new : World) (w v : rules.World) : Type 0 where
  pub one : Event
  pub after : rules.World
  pub next : next_event w appliance stop ≡ Some one
  pub step : Step w one after
  pub rest : Onward appliance after v
  pub stands : WorldStands new v
  pub less : run_left v appliance < run_left w appliance

-- a run is over: there is no next event, or no such appliance
abbrev pub IsOver : ApplianceNo → Option Stop → rules.World → Type 0
IsOver appliance stop w = appliance.0 < w.appliances → next_event w appliance stop ≡ None

-- the next plain event of a run was made, with some that follow, or the run is over
abbrev pub RunGoesOn : ApplianceNo → Option Stop → World → World → Bool → Type 0
RunGoesOn appliance stop old new made =
    (w : rules.World) → WorldStands old w → MatchBool made ((v : rules.World) × OneMore appliance stop new w v) (IsOver appliance stop w × WorldStands new w)

-- a run of an appliance that is there went to its end
abbrev pub RunsWhole : ApplianceNo → Option Stop → World → World → Type 0
RunsWhole appliance stop old new = (w : rules.World) → WorldStands old w → appliance.0 < w.appliances → (v : rules.World) × Runs appliance stop w v × WorldStands new v

-- some plain events of a run were made
abbrev pub RunsSome : ApplianceNo → Option Stop → World → World → Type 0
RunsSome appliance stop old new = (w : rules.World) → WorldStands old w → (v : rules.World) × RunsPartly appliance stop w v × WorldStands new v

-- a run of one plain event or more went to its end
pub record RunsToEnd (appliance : ApplianceNo) (stop : Option Stop) (new : World) (w v : rules.World) : Type 0 where
  pub one : Event
  pub after : rules.World
  pub next : next_event w appliance stop ≡ Some one
  pub step : Step w one after
  pub rest : Runs appliance stop after v
  pub stands : WorldStands new v

-- a run from each world that the old one stands for to one that the new one stands for, or none where it makes no event
abbrev pub MakesRun : ApplianceNo → Option Stop → World → World → Bool → Type 0
MakesRun appliance stop old new made =
    (w : rules.World) → WorldStands old w → MatchBool made ((v : rules.World) × RunsToEnd appliance stop new w v) (IsOver appliance stop w × WorldStands new w)

-- the appliance asks for a write with this guard
abbrev pub IsWriting : World → (number guard : ℕ) → Type 0
IsWriting world number guard =
    (kind : WriteKind) × (block : BlockNo) × ((w : rules.World) → WorldStands world w → asked_by w number ≡ Some (ask.Write kind block guard))

-- the appliance asks for the clock, now or from some time on
abbrev pub AsksClock : World → (number : ℕ) → Type 0
AsksClock world number =
    ((w : rules.World) → WorldStands world w → asked_by w number ≡ Some ask.Clock)
    ⊎ ((from : ℕ) × ((w : rules.World) → WorldStands world w → asked_by w number ≡ Some (ask.Until from)))

-- whether a run of the appliance stops before its ask is answered; one that isn't there asks nothing
abbrev pub StopsAs : World → (number : ℕ) → Option Stop → Bool → Type 0
StopsAs world number stop result =
    (w : rules.World) → WorldStands world w → number < w.appliances → result ≡ stops w.geometry stop (w.seats number).pending (stands w number).place
