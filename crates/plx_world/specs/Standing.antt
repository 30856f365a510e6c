-- What the program's world stands for, and what a plain event makes of that.
use Rattle.std.specs.Prelude.{◌≡◌, ℕ, List, length, reverse, slice_get, Bool, MatchBool, Some}
use Rattle.plx_appliance.specs.Appliance.{StandsFor, appliance_setting}
use Rattle.plx_commands.specs.declared.entry.Entry.{Entry}
use Rattle.plx_commands.specs.declared.event.Event.{Event}
use Rattle.plx_disk.specs.Standing.{Stands as DiskStands}
use Rattle.plx_rules.specs.World as rules
use Rattle.plx_rules.specs.World.{Step}
use Rattle.plx_world.specs.Numbers.{own_numbers}
use Rattle.plx_world.specs.declared.seat.Seat.{Seat}
use Rattle.plx_world.specs.declared.world.World.{World}

-- what was started, replied and lost, the oldest first
abbrev pub entries_of : World → List Entry
entries_of world = world.trace.items

-- a seat stands for the appliance of this number: for its boot, the log of that, what it waits for, and the writes that it issued over all its boots
pub record IsSeat (w : rules.World) (number : ℕ) (seat : Seat) : Type 0 where
  pub setting : appliance_setting seat.appliance ≡ rules.setting_of w number
  pub boots : seat.boots ≡ (w.seats number).boots
  pub log : StandsFor seat.appliance (w.seats number).log
  pub pending : seat.pending ≡ (w.seats number).pending
  pub issued : seat.issued.items ≡ own_numbers number 0 w.surface.writes

-- equal layout, device, issued writes, time and trace, and each seat stands for the appliance of its number
pub record WorldStands (world : World) (w : rules.World) : Type 0 where
  pub geometry : world.geometry ≡ w.geometry
  pub count : length world.seats.items ≡ w.appliances
  pub surface : DiskStands world.disk w.surface
  pub seats : (number : ℕ) (seat : Seat) → slice_get world.seats.items number ≡ Some seat → IsSeat w number seat
  pub trace : world.trace.items ≡ reverse w.trace

-- the new one stands for what the old one stood for
abbrev pub StandsOn : World → World → Type 0
StandsOn old new = (w : rules.World) → WorldStands old w → WorldStands new w

-- each world that the old one stands for leads by a plain event to one that the new one stands for, where the event is possible; else it isn't possible in any
abbrev pub Steps : World → World → Event → Bool → Type 0
Steps old new event possible =
    (w : rules.World) → WorldStands old w →
    MatchBool possible ((v : rules.World) × Step w event v × WorldStands new v) (((v : rules.World) → ¬ Step w event v) × WorldStands new w)
