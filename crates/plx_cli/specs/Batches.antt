-- A schedule that is played a batch of events at a time.
use Rattle.std.specs.Prelude.{◌≡◌, ℕ, List, reverse, Bool, false}
use Rattle.plx_base.specs.Sectors.{Device}
use Rattle.plx_commands.specs.declared.event.Event.{Event}
use Rattle.plx_geom.specs.Geometry.{Geometry}
use Rattle.plx_rules.specs.Formatted.{IsFormatted}
use Rattle.plx_rules.specs.Pools.{allocated_in}
use Rattle.plx_rules.specs.Sequences.{Plays}
use Rattle.plx_rules.specs.World as rules
use Rattle.plx_rules.specs.World.{Reached, first_world}
use Rattle.plx_text.specs.Readings.{EndsWith, ReadsOn}
use Rattle.plx_text.specs.Traces.{trace_lines, trace_text}
use Rattle.plx_words.specs.Texts.{LinesTell}
use Rattle.plx_world.specs.Playing.{PlaysAll}
use Rattle.plx_world.specs.Standing.{WorldStands}
use Rattle.plx_world.specs.declared.world.World.{World}

-- the next events were read and played: there may be more, or the schedule ends with them
pub record PlaysNext (old new : World) (number : ℕ) (rest : List ℕ) (after : ℕ) (left : List ℕ) (more : Bool) : Type 0 where
  pub events : List Event
  pub plays : PlaysAll old new events
  pub reads : ReadsOn number rest events after left
  pub ends : more ≡ false → EndsWith number rest events

-- the program's world stands for one to which these events lead, from a formatted device
pub record HasPlayed (first : Geometry × ℕ) (events : List Event) (new : World) : Type 0 where
  pub device : Device
  pub formatted : IsFormatted first.0 device
  pub world : rules.World
  pub plays : Plays (first_world first.0 first.1 device) events world
  pub stands : WorldStands new world

-- the text tells of the trace and of the two counts of each reached world that the program's stands for
abbrev pub IsTextOf : Geometry → ℕ → World → List ℕ → Type 0
IsTextOf g appliances new text =
    (w : rules.World) → Reached w → WorldStands new w →
    (text ≡ trace_text g appliances (reverse w.trace) 0 (allocated_in w)) × LinesTell (trace_lines g appliances (reverse w.trace) 0 (allocated_in w))
