-- What ties the seats of the program's world to its device.
use Rattle.std.specs.Prelude.{◌≡◌, ℕ, List, slice_get, Some}
use Rattle.plx_geom.specs.Geometry.{Geometry}
use Rattle.plx_world.specs.declared.seat.Seat.{Seat}

-- each seat is laid out as the device
abbrev pub AreTied : Geometry → List Seat → Type 0
AreTied g seats = (number : ℕ) (seat : Seat) → slice_get seats number ≡ Some seat → seat.appliance.holdings.setting.geometry ≡ g
