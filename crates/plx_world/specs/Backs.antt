-- The issued write that a landing names by how many newer ones its appliance has.
use Rattle.std.specs.Prelude.{◌≡◌, ◌-◌, ◌<◌, ℕ, List, Some, length, slice_get}
use Rattle.plx_disk.specs.Writes.{Issued}
use Rattle.plx_rules.specs.World as rules
use Rattle.plx_rules.specs.World.{IsBack}
use Rattle.plx_world.specs.Standing.{WorldStands}
use Rattle.plx_world.specs.declared.world.World.{World}

-- the number of the appliance's write with so many newer ones
abbrev pub IsNumber : World → (appliance back number : ℕ) → Type 0
IsNumber world appliance back number =
    (w : rules.World) → WorldStands world w → (appliance < w.appliances) × ((write : Issued) × IsBack w.surface.writes appliance back number write)

-- there is none, or no such appliance
abbrev pub HasNone : World → (appliance back : ℕ) → Type 0
HasNone world appliance back =
    (w : rules.World) → WorldStands world w → appliance < w.appliances → (number : ℕ) (write : Issued) → ¬ IsBack w.surface.writes appliance back number write

-- the number with so many after it in a list
pub record IsNth (numbers : List ℕ) (back number : ℕ) : Type 0 where
  pub within : back < length numbers
  pub found : slice_get numbers (length numbers - 1 - back) ≡ Some number
