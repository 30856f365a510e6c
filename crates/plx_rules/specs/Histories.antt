-- What a history tells of the events that were possible.
use Rattle.std.specs.Prelude.{ℕ, Option, Some, None}
use Rattle.plx_commands.specs.declared.event.Event.{Event}

-- an event that was possible; of the landing of a sector also the number of its write
pub record Past : Type 0 where
  pub event : Event
  pub lands : Option ℕ

-- an event that lands nothing
abbrev pub came : Event → Past
came event = record { event = event; lands = None }

-- the landing of a sector of the write with this number
abbrev pub landing : Event → (number : ℕ) → Past
landing event number = record { event = event; lands = Some number }
