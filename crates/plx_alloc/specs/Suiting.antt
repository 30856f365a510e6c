-- An allocator that is lent to a machine suits it.
use Rattle.std.specs.Prelude.{◌≡◌, ◌+◌, ◌<◌, ◌≤◌, ℕ, None, true}
use Rattle.plx_base.specs.declared.lease.Claim.{Claim}
use Rattle.arrayvec.specs.ArrayVec.{array_vec_len}
use Rattle.plx_geom.specs.Geometry.{extent_lease, map_at}
use Rattle.plx_rules.specs.Hands.{is_held}
use Rattle.plx_rules.specs.Holds.{Held}
use Rattle.plx_alloc.specs.Pools.{AreBetween}
use Rattle.plx_alloc.specs.Tables.{HoldsHand, held_of, extent_leases}
use Rattle.plx_alloc.specs.declared.allocator.Allocator.{Allocator}
use Rattle.plx_alloc.specs.declared.reserve.Pass.TheVariants as pass
use Rattle.plx_alloc.specs.declared.reserve.Reserve.{Reserve}
use Rattle.plx_alloc.specs.declared.reserve.ReserveAt.{ReserveAt}
use Rattle.plx_alloc.specs.declared.reserve.ReserveAt.TheVariants as at
use Rattle.plx_alloc.specs.declared.retire.Retire.{Retire}
use Rattle.plx_alloc.specs.declared.give_back.GiveBack.{GiveBack}
use Rattle.plx_alloc.specs.declared.giving.Giving.{Giving}
use Rattle.plx_alloc.specs.declared.giving.GivingAt.{GivingAt}
use Rattle.plx_alloc.specs.declared.giving.GivingAt.TheVariants as giving

-- nothing is taken yet from the extent at which a take stands, whose lease is held
pub record SuitsMap (a : Allocator) (m : Reserve) : Type 0 where
  pub lease : is_held (extent_leases a m.extent.0) ≡ true
  pub none_yet : array_vec_len m.taken.value ≡ 0

-- what is taken lies in the extent, whose lease is held
pub record SuitsWrite (a : Allocator) (m : Reserve) : Type 0 where
  pub lease : is_held (extent_leases a m.extent.0) ≡ true
  pub own : AreBetween m.map.0 a.geometry.extent_blocks m.taken.value.items

-- a take among the extents whose leases aren't held stands at one of them
pub record SuitsOther (a : Allocator) (m : Reserve) : Type 0 where
  pub pass : m.pass ≡ pass.Others
  pub free : held_of a m.extent.0 ≡ None
  pub none_yet : array_vec_len m.taken.value ≡ 0

-- its claim is one of that extent's lease
pub record SuitsClaim (a : Allocator) (m : Reserve) : Type 0 where
  pub other : SuitsOther a m
  pub lease : m.claim.lease.0 ≡ m.extent
  pub number : m.claim.number ≡ extent_lease a.geometry m.extent.0

-- a take stands at its extent, by where it stands
abbrev pub suits_at : ReserveAt → Allocator → Reserve → Type 0
suits_at at.Map a m = SuitsMap a m
suits_at at.Write a m = SuitsWrite a m
suits_at at.Look a m = SuitsOther a m
suits_at at.Claim a m = SuitsClaim a m
suits_at at.Damaged a m = Unit {0}

-- a take: it stands at an extent of the geometry, and the hand has room for what it takes
pub record SuitsReserve (a : Allocator) (m : Reserve) : Type 0 where
  pub extent : m.extent.0 < a.geometry.extents
  pub map : m.map.0 ≡ map_at a.geometry m.extent.0
  pub room : array_vec_len a.hand + array_vec_len m.taken.value ≤ 256
  pub held : HoldsHand a
  pub stands : suits_at m.at a m

-- what is given back lies in the extent
abbrev pub gives_at : GivingAt → Allocator → Giving → Type 0
gives_at giving.Write a m = AreBetween m.map.0 a.geometry.extent_blocks m.given.value.items
gives_at giving.Map a m = Unit {0}
gives_at giving.Damaged a m = Unit {0}

-- the giving back of an extent's blocks: the extent is one of the geometry
pub record SuitsGiving (a : Allocator) (m : Giving) : Type 0 where
  pub extent : m.extent.0 < a.geometry.extents
  pub map : m.map.0 ≡ map_at a.geometry m.extent.0
  pub lease : m.lease ≡ extent_lease a.geometry m.extent.0
  pub held : HoldsHand a
  pub gives : gives_at m.at a m

-- so for all blocks in hand
abbrev pub SuitsGiveBack : Allocator → GiveBack → Type 0
SuitsGiveBack a m = SuitsGiving a m.giving

-- and for a retire
abbrev pub SuitsRetire : Allocator → Retire → Type 0
SuitsRetire a m = SuitsGiving a m.giving

-- the lease of an extent is held until that moment
pub record IsHeldUntil (a : Allocator) (extent until : ℕ) : Type 0 where
  pub claim : Claim
  pub is : extent_leases a extent ≡ Held claim until
