-- What a boot is given.
use Rattle.std.specs.Prelude.{◌+◌, ◌*◌, ℕ}
use Rattle.plx_geom.specs.Geometry.{Geometry}

-- the layout of the device, which appliance it is, and the number of this start of it
pub record Setting : Type 0 where
  pub geometry : Geometry
  pub appliance : ℕ
  pub boot : ℕ

-- the number of an appliance's boot, where so many
-- came before it; no two boots of a world have the same
abbrev pub boot_number : (appliance boots : ℕ) → ℕ
boot_number appliance boots = 256 * boots + appliance + 1
