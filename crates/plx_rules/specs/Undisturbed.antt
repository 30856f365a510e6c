-- Which commands are undisturbed, by the history of a world.
use Rattle.std.specs.Prelude.{◌≡◌, ◌≤◌, ◌++◌, ℕ, List, [], ◌∷◌, length, Some}
use Rattle.plx_commands.specs.declared.event.Event.{Event}
use Rattle.plx_commands.specs.declared.event.Event.TheVariants as event
use Rattle.plx_rules.specs.Histories.{Past}
use Rattle.plx_rules.specs.World.{World}

-- an event of a command of this appliance, or one of no appliance; a crash ends the command
abbrev pub IsWithinCommand : (appliance : ℕ) → Event → Type 0
IsWithinCommand appliance (event.Tick by) = Unit {0}
IsWithinCommand appliance (event.Start other command) = other.0 ≡ appliance
IsWithinCommand appliance (event.Read other) = other.0 ≡ appliance
IsWithinCommand appliance (event.Issue other) = other.0 ≡ appliance
IsWithinCommand appliance (event.Land other back sector) = other.0 ≡ appliance
IsWithinCommand appliance (event.Done other) = other.0 ≡ appliance
IsWithinCommand appliance (event.Fault other) = other.0 ≡ appliance
IsWithinCommand appliance (event.Miss other reading) = other.0 ≡ appliance
IsWithinCommand appliance (event.Reading other reading) = other.0 ≡ appliance
IsWithinCommand appliance (event.Crash other) = ⊥
IsWithinCommand appliance (event.Run other) = other.0 ≡ appliance
IsWithinCommand appliance (event.Upto other stop) = other.0 ≡ appliance

-- an event leaves a command of this appliance undisturbed, before which so many writes were
-- issued: it is none of another appliance, and no landing of a write that the command didn't issue
pub record LeavesAlone (appliance issued : ℕ) (past : Past) : Type 0 where
  pub own : IsWithinCommand appliance past.event
  pub late : (number : ℕ) → past.lands ≡ Some number → issued ≤ number

-- each of these events does
abbrev pub AllLeaveAlone : (appliance issued : ℕ) → List Past → Type 0
AllLeaveAlone appliance issued [] = Unit {0}
AllLeaveAlone appliance issued (past ∷ older) =
    LeavesAlone appliance issued past × AllLeaveAlone appliance issued older

-- a command that an appliance starts in world w is undisturbed up to world v: all that the history
-- of v has since then leaves it alone
pub record IsUndisturbed (appliance : ℕ) (w v : World) : Type 0 where
  pub since : List Past
  pub same : v.history ≡ since ++ w.history
  pub alone : AllLeaveAlone appliance (length w.surface.writes) since
