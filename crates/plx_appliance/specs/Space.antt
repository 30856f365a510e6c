-- What an appliance keeps of space: the leases of extents that are held, and the blocks in hand.
use Rattle.std.specs.Prelude.{◌≡◌, ℕ, List}
use Rattle.plx_geom.specs.Geometry.{Geometry}
use Rattle.plx_rules.specs.Holds.{Hold}
pub use Rattle.plx_rules.specs.Rests.{AreWithin}
pub use Rattle.plx_alloc.specs.Tables.{held_hand}
use Rattle.plx_alloc.specs.Tables.{hand_numbers, extent_leases}
use Rattle.plx_appliance.specs.declared.holdings.Holdings.{Holdings}

-- the leases by extent
abbrev pub extents_in : Holdings → ℕ → Hold
extents_in h = extent_leases h.space

-- the blocks in hand, in the order in which they were taken
abbrev pub hand_in : Holdings → List ℕ
hand_in h = hand_numbers h.space

-- the blocks in hand lie in extents of the geometry whose leases are held
pub record IsHand (g : Geometry) (extents : ℕ → Hold) (hand : List ℕ) : Type 0 where
  pub held : held_hand g extents hand ≡ hand
  pub within : AreWithin g hand
