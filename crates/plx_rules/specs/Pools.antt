-- The blocks of the pool: which are allocated, and in whose hand they are.
use Rattle.std.specs.Prelude.{◌≡◌, ◌+◌, ◌-◌, ◌<◌, ◌⊎◌, ℕ, zero, suc, List, true, false, Bool}
use Rattle.std.specs.Prelude.{Option}
use Rattle.plx_base.specs.Sectors.{Device}
use Rattle.plx_base.specs.declared.write_kind.WriteKind.TheVariants as kind
use Rattle.plx_commands.specs.Replies.{is_in}
use Rattle.plx_disk.specs.Writes.{Issued, MayLand, after_landing}
use Rattle.plx_extent.specs.Maps.{HoldsMap, allocated_count, bit_of, bits_of}
use Rattle.plx_geom.specs.Geometry.{Geometry, extent_lease, map_at}
use Rattle.plx_rules.specs.Boot.{Place, In}
use Rattle.plx_rules.specs.Hands.{hand_from, hand_unlinked}
use Rattle.plx_rules.specs.Owners.{Owns}
use Rattle.plx_rules.specs.Process.{WriteThen}
use Rattle.plx_rules.specs.Rests.{IsUnder, extent_of}
use Rattle.plx_rules.specs.World.{World, Reached, stands}

-- whether the bit of a block is set in the map of its extent on the device
abbrev pub is_allocated : Geometry → Device → (block : ℕ) → Bool
is_allocated g device block =
    bit_of (device (map_at g (extent_of g block))) (block - map_at g (extent_of g block))

-- how many blocks of `left` extents, from this one on, are allocated: maps themselves don't count
abbrev pub allocated_from : Geometry → Device → (left extent : ℕ) → ℕ
allocated_from g device zero extent = 0
allocated_from g device (suc left) extent =
    allocated_count (bits_of g.extent_blocks (device (map_at g extent)))
    + allocated_from g device left (extent + 1)

-- how many blocks of the pool are allocated
abbrev pub allocated_in : World → ℕ
allocated_in w = allocated_from w.geometry w.surface.device w.geometry.extents 0

-- the block of each extent's map holds a map
abbrev pub HasMaps : Geometry → Device → Type 0
HasMaps g device =
    (extent : ℕ) → extent < g.extents → HoldsMap g.extent_blocks (device (map_at g extent))

-- it does in every world that events lead to
abbrev pub MapsStay : Type 0
MapsStay = (w : World) → Reached w → HasMaps w.geometry w.surface.device

-- what is in hand while a write is asked: the blocks whose bits a give clears have left, and those
-- that a link or the write of a record links
abbrev pub hand_at : Geometry → Place → Option (ℕ × List ℕ) → (filled : List (ℕ × List ℕ)) →
    List ℕ → List ℕ
hand_at g (In known command (WriteThen kind.Give block bytes guard done fault missed))
    found filled hand =
    hand_from g found kind.Give block bytes hand
hand_at g (In known command (WriteThen kind.Link block bytes guard done fault missed))
    found filled hand =
    hand_unlinked kind.Link filled hand
hand_at g (In known command (WriteThen kind.Record block bytes guard done fault missed))
    found filled hand =
    hand_unlinked kind.Record filled hand
hand_at g other found filled hand = hand

-- what is in the hand of the present boot of an appliance
abbrev pub hand_of : World → (appliance : ℕ) → List ℕ
hand_of w appliance =
    hand_at w.geometry (stands w appliance).place (stands w appliance).found
    (stands w appliance).filled (stands w appliance).hand

-- a block is in the hand of an appliance that owns its extent's lease
pub record HasInHand (w : World) (appliance block : ℕ) : Type 0 where
  pub owns : Owns w appliance (extent_lease w.geometry (extent_of w.geometry block))
  pub here : is_in block (hand_of w appliance) ≡ true

-- each block in the hand of a boot that owns its extent's lease is allocated
abbrev pub AreAllocated : World → Type 0
AreAllocated w =
    (a block : ℕ) → a < w.appliances → HasInHand w a block →
    is_allocated w.geometry w.surface.device block ≡ true

-- and in no other such hand
abbrev pub AreApart : World → Type 0
AreApart w =
    (a b block : ℕ) → a < w.appliances → b < w.appliances →
    HasInHand w a block → HasInHand w b block → a ≡ b

-- a landing makes a block allocated only where its write
-- is a take that rests on the lease of the block's extent
abbrev pub IsSetByTakes : World → Type 0
IsSetByTakes w =
    (number sector : ℕ) (write : Issued) → MayLand w.surface number sector write → (block : ℕ) →
    is_allocated w.geometry w.surface.device block ≡ false →
    is_allocated w.geometry (after_landing w.surface number write sector).device block ≡ true →
    (write.kind ≡ kind.Take)
    × IsUnder w.rests number (extent_lease w.geometry (extent_of w.geometry block))

-- and makes one clear only where its write gives blocks back, or sweeps, and rests on that lease
abbrev pub IsClearedByGives : World → Type 0
IsClearedByGives w =
    (number sector : ℕ) (write : Issued) → MayLand w.surface number sector write → (block : ℕ) →
    is_allocated w.geometry w.surface.device block ≡ true →
    is_allocated w.geometry (after_landing w.surface number write sector).device block ≡ false →
    ((write.kind ≡ kind.Give) ⊎ (write.kind ≡ kind.Sweep))
    × IsUnder w.rests number (extent_lease w.geometry (extent_of w.geometry block))

-- it is so in every world that events lead to
abbrev pub HandsAllocated : Type 0
HandsAllocated = (w : World) → Reached w → AreAllocated w

-- they are in one such hand at most, in every such world
abbrev pub HandsApart : Type 0
HandsApart = (w : World) → Reached w → AreApart w

-- takes alone make blocks allocated, in every such world
abbrev pub TakesSet : Type 0
TakesSet = (w : World) → Reached w → IsSetByTakes w

-- gives and sweeps alone make them clear, in every such world
abbrev pub GivesClear : Type 0
GivesClear = (w : World) → Reached w → IsClearedByGives w
