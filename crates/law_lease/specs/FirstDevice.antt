-- Worlds begin: each geometry has a formatted device.
use Rattle.plx_base.specs.Sectors.{Device}
use Rattle.plx_geom.specs.Geometry.{Geometry, IsGeometry}
use Rattle.plx_rules.specs.Formatted.{IsFormatted}

-- for every geometry within the limits there is a formatted device, so that a world can begin with it
abbrev pub HasFormatted : Type 0
HasFormatted = (g : Geometry) → IsGeometry g → (device : Device) × IsFormatted g device
