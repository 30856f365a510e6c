-- What a crash leaves.
use Rattle.std.specs.Prelude.{◌≡◌, ◌≢◌, ◌+◌, ℕ, [], Some, None, slice_get}
use Rattle.plx_base.specs.declared.numbers.ApplianceNo.{ApplianceNo}
use Rattle.plx_commands.specs.declared.event.Event.TheVariants as event
use Rattle.plx_disk.specs.Writes.{Issued}
use Rattle.plx_rules.specs.Boot.{Idle}
use Rattle.plx_rules.specs.Boots.{IsBoot}
use Rattle.plx_rules.specs.Holds.{Nothing}
use Rattle.plx_rules.specs.Owners.{held_by}
use Rattle.plx_rules.specs.Pools.{hand_of}
use Rattle.plx_rules.specs.Session.{nothing_known}
use Rattle.plx_rules.specs.Settings.{boot_number}
use Rattle.plx_rules.specs.World.{World, Reached, Step, setting_of, stands}

-- a number is new: no boot of the world has it, and no issued write is owned by it
pub record IsNewNumber (w : World) (number : ℕ) : Type 0 where
  pub unborn : (a k : ℕ) → IsBoot w a k → boot_number a k ≢ number
  pub unowned : (n : ℕ) (write : Issued) →
      slice_get w.surface.writes n ≡ Some write → write.owner ≢ number

-- the appliance is in its next boot, whose number is new: nothing has happened in it, so it is in
-- no command, has no session and no claim behind it, holds no lease, has no block in hand and waits
-- for no write; every other appliance stays, and so does the device with its issued writes
pub record CrashLeaves (w v : World) (appliance : ℕ) : Type 0 where
  pub next : (v.seats appliance).boots ≡ (w.seats appliance).boots + 1
  pub number : IsNewNumber w (setting_of v appliance).boot
  pub log : (v.seats appliance).log ≡ []
  pub idle : (stands v appliance).place ≡ Idle (nothing_known 0)
  pub leases : (block : ℕ) → held_by v appliance block ≡ Nothing
  pub hand : hand_of v appliance ≡ []
  pub waiting : (v.seats appliance).pending ≡ None
  pub others : (other : ℕ) → other ≢ appliance → v.seats other ≡ w.seats other
  pub surface : v.surface ≡ w.surface

-- every crash in a world that events lead to leaves just that
abbrev pub CrashesLeaveFreshBoots : Type 0
CrashesLeaveFreshBoots =
    (w v : World) → Reached w → (appliance : ApplianceNo) → Step w (event.Crash appliance) v →
    CrashLeaves w v appliance.0
