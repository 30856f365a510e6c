-- The boots of a world: their logs, and their numbers.
use Rattle.std.specs.Prelude.{◌≡◌, ◌≤◌, ◌<◌, ℕ, Some, slice_get}
use Rattle.plx_disk.specs.Writes.{Issued}
use Rattle.plx_rules.specs.Boot.{IsRun}
use Rattle.plx_rules.specs.Settings.{boot_number}
use Rattle.plx_rules.specs.World.{World, Reached, setting_of}

-- the log of each appliance's boot is a run
abbrev pub AreRuns : World → Type 0
AreRuns w = (appliance : ℕ) → appliance < w.appliances →
    IsRun (setting_of w appliance) (w.seats appliance).log

-- it is so in every world that events lead to
abbrev pub BootsRun : Type 0
BootsRun = (w : World) → Reached w → AreRuns w

-- a boot of this world: an appliance has begun the one before which so many came, which is its
-- present one, or one that a crash has ended
pub record IsBoot (w : World) (appliance boots : ℕ) : Type 0 where
  pub below : appliance < w.appliances
  pub begun : boots ≤ (w.seats appliance).boots

-- a boot of this world has this number
pub record IsBootNumber (w : World) (number : ℕ) : Type 0 where
  pub appliance : ℕ
  pub boots : ℕ
  pub begun : IsBoot w appliance boots
  pub is : number ≡ boot_number appliance boots

-- two boots have two numbers, and the owner of each issued write is the number of a boot
pub record HaveOwnNumbers (w : World) : Type 0 where
  pub apart : (a b k l : ℕ) → IsBoot w a k → IsBoot w b l →
      boot_number a k ≡ boot_number b l → (a ≡ b) × (k ≡ l)
  pub owned : (number : ℕ) (write : Issued) →
      slice_get w.surface.writes number ≡ Some write → IsBootNumber w write.owner

-- it is so in every world that events lead to
abbrev pub BootsHaveNumbers : Type 0
BootsHaveNumbers = (w : World) → Reached w → HaveOwnNumbers w
