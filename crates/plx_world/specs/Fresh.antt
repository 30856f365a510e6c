-- The appliance of a boot that was asked nothing yet.
use Rattle.std.specs.Prelude.{◌≡◌, ℕ, []}
use Rattle.plx_appliance.specs.Appliance.{StandsFor, appliance_setting}
use Rattle.plx_appliance.specs.declared.appliance.Appliance.{Appliance}
use Rattle.plx_geom.specs.Geometry.{Geometry}
use Rattle.plx_rules.specs.World.{setting_at}

-- nothing was asked yet of the boot of an appliance before which so many came
pub record IsFresh (g : Geometry) (number boots : ℕ) (appliance : Appliance) : Type 0 where
  pub setting : appliance_setting appliance ≡ setting_at g number boots
  pub layout : appliance.holdings.setting.geometry ≡ g
  pub log : StandsFor appliance []
