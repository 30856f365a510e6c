-- Why numbers are no geometry, and a device's blocks by their places.
use Rattle.std.specs.Prelude.{◌≡◌, ◌≤◌, ℕ, Option, Some, None}
use Rattle.plx_geom.specs.Geometry.{Geometry, IsFirstOut, block_count}
use Rattle.plx_geom.specs.Places.{IsPlace, block_of}
use Rattle.plx_geom.specs.declared.geometry.GeometryError.{GeometryError}
use Rattle.plx_geom.specs.declared.geometry.GeometryError.TheVariants.{OutOfLimit}
use Rattle.plx_geom.specs.declared.place.Place.{Place}

-- the error names the first field that is out of its limits, with its value
abbrev pub IsGeometryCause : GeometryError → Geometry → Type 0
IsGeometryCause (OutOfLimit field value) g = IsFirstOut g field value

-- what stands in a block: the one place of the geometry
-- whose block it is, or nothing past the device's end
abbrev pub StandsIn : Geometry → ℕ → Option Place → Type 0
StandsIn g block (Some place) = IsPlace g place × (block_of g place ≡ block)
StandsIn g block None = block_count g ≤ block
