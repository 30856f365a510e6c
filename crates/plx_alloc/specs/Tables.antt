-- What an allocator keeps, as the definitions see it.
use Rattle.std.specs.Prelude.{◌≡◌, ◌+◌, ◌-◌, ℕ, zero, suc, List, [], ◌∷◌, map, filter, Bool, true, false, not, ◌==◌, if◌then◌else◌, Option, Some, None, get_or}
use Rattle.plx_base.specs.declared.numbers.BlockNo.{BlockNo}
use Rattle.plx_base.specs.declared.numbers.ExtentNo.{ExtentNo}
use Rattle.plx_commands.specs.Limits.{last_claim}
use Rattle.plx_geom.specs.Geometry.{Geometry}
use Rattle.plx_rules.specs.Hands.{is_held}
use Rattle.plx_rules.specs.Holds.{Hold, Nothing}
use Rattle.plx_rules.specs.Holds.{Held as HeldBy}
use Rattle.plx_rules.specs.Rests.{extent_of}
use Rattle.plx_rules.specs.Session.{Session, Known}
use Rattle.plx_rules.specs.Settings.{Setting}
use Rattle.plx_token.specs.declared.held.Held.{Held}
use Rattle.plx_token.specs.declared.kind.Extent.{Extent}
use Rattle.plx_alloc.specs.declared.allocator.Allocator.{Allocator}

-- the lease of an extent, where it is held
abbrev pub held_of : Allocator → (extent : ℕ) → Option (Held Extent)
held_of a extent = get_or a.extents.items extent None

-- a lease that is held, or isn't
abbrev pub extent_hold : Option (Held Extent) → Hold
extent_hold None = Nothing
extent_hold (Some held) = HeldBy held.claim held.until

-- the leases by extent
abbrev pub extent_leases : Allocator → (extent : ℕ) → Hold
extent_leases a = λ extent. extent_hold (held_of a extent)

-- the numbers of blocks
abbrev pub numbers : List BlockNo → List ℕ
numbers blocks = map (λ block. block.0) blocks

-- the blocks in hand, in the order in which they were taken
abbrev pub hand_numbers : Allocator → List ℕ
hand_numbers a = numbers a.hand.items

-- what is held of the leases of extents, by the block of each
abbrev pub extent_holds_at : Geometry → (leases : ℕ → Hold) → (block : ℕ) → Hold
extent_holds_at g leases = λ block. leases (block - (2 + g.images))

-- the same of an allocator
abbrev pub holds_of : Allocator → (block : ℕ) → Hold
holds_of a = extent_holds_at a.geometry (extent_leases a)

-- of these blocks those that lie in an extent whose lease is held
abbrev pub held_hand : Geometry → (leases : ℕ → Hold) → List ℕ → List ℕ
held_hand g leases hand = filter (λ block. is_held (leases (extent_of g block))) hand

-- the lease of the extent of each block in hand is held
abbrev pub HoldsHand : Allocator → Type 0
HoldsHand a = held_hand a.geometry (extent_leases a) (hand_numbers a) ≡ hand_numbers a

-- whether there is a block
abbrev pub has_any : List ℕ → Bool
has_any [] = false
has_any (block ∷ blocks) = true

-- the number of an extent, where there is one
abbrev pub extent_number : Option ExtentNo → Option ℕ
extent_number None = None
extent_number (Some extent) = Some extent.0

-- what is known, beside these sessions
abbrev pub known_beside : (sessions : ℕ → Option Session) → Allocator → Known
known_beside sessions a = record { sessions = sessions; claims = a.claims }

-- what the boot is given, beside the number of its appliance
abbrev pub allocator_setting : (appliance : ℕ) → Allocator → Setting
allocator_setting appliance a = record { geometry = a.geometry; appliance = appliance; boot = a.boot.0 }

-- the number of the next claim, unless the boot has none left
abbrev pub next_number : (claims : ℕ) → Option ℕ
next_number claims = if claims == last_claim then None else Some claims

-- how many claims were begun then
abbrev pub claims_after : (claims : ℕ) → Option ℕ → ℕ
claims_after claims None = claims
claims_after claims (Some number) = claims + 1

-- whether a lease is held, or, where `held` is false, isn't
abbrev pub is_as : (held : Bool) → Hold → Bool
is_as true hold = is_held hold
is_as false hold = not (is_held hold)

-- the first extent of which this holds: of `left` extents from that one on
abbrev pub first_extent : (is : ℕ → Bool) → (left from : ℕ) → Option ℕ
first_extent is zero from = None
first_extent is (suc left) from = if is from then Some from else first_extent is left (from + 1)

-- the allocator of the same boot
pub record IsSame (old new : Allocator) : Type 0 where
  pub geometry : new.geometry ≡ old.geometry
  pub boot : new.boot ≡ old.boot
