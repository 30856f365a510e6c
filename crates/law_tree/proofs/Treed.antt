-- What holds of the trees of a world.
use Rattle.std.proofs.Common.{◌≡◌, ℕ, ◌<◌, List, [], true, Option, Some, None}
use Rattle.std.specs.Prelude.{slice_get}
use Rattle.plx_base.specs.Sectors.{Device}
use Rattle.plx_base.specs.declared.lease.Claim.{Claim}
use Rattle.plx_base.specs.declared.write_kind.WriteKind.TheVariants as kind
use Rattle.plx_commands.specs.Replies.{is_in}
use Rattle.plx_disk.specs.Writes.{Issued}
use Rattle.plx_geom.specs.Geometry.{Geometry, extent_lease}
use Rattle.plx_radix.specs.Paths.{Unreachable, Shared}
use Rattle.plx_rules.specs.Boot.{Place, In, configuration}
use Rattle.plx_rules.specs.Hands.{hand_from, hand_unlinked}
use Rattle.plx_rules.specs.Process.{WriteThen}
use Rattle.plx_rules.specs.Rests.{extent_of, filled_blocks, home_of}
use Rattle.plx_rules.specs.World.{World, Seat, setting_at}
use Rattle.law_lease.proofs.Frame.{AllStand}
use Rattle.law_lease.proofs.Open.{GripsLease, IsOpen}
use Rattle.plx_rules.specs.Trees.{trees_of, InPool, IsRooted}
use Rattle.law_tree.proofs.ByKind.{TreePlaced, TreeWaits}

-- what is in hand while a write is waited for: of a take its blocks too, and of a link and a record's write not those that it links
abbrev pub hand_while : Geometry → Place → (found : Option (ℕ × List ℕ)) → (filled : List (ℕ × List ℕ)) → (hand : List ℕ) → List ℕ
hand_while g (In known command (WriteThen kind.Take block bytes guard done fault missed)) found filled hand = hand_from g found kind.Take block bytes hand
hand_while g (In known command (WriteThen kind.Link block bytes guard done fault missed)) found filled hand = hand_unlinked kind.Link filled hand
hand_while g (In known command (WriteThen kind.Record block bytes guard done fault missed)) found filled hand = hand_unlinked kind.Record filled hand
hand_while g other found filled hand = hand

abbrev pub due : Geometry → (pending : Option ℕ) → Place → (found : Option (ℕ × List ℕ)) → (filled : List (ℕ × List ℕ)) → (hand : List ℕ) → List ℕ
due g None place found filled hand = hand
due g (Some n) place found filled hand = hand_while g place found filled hand

-- the same, of a seat
abbrev pub due_at_seat : Geometry → (appliance : ℕ) → Seat → List ℕ
due_at_seat g a seat = due g seat.pending (configuration (setting_at g a seat.boots) seat.log).place (configuration (setting_at g a seat.boots) seat.log).found
    (configuration (setting_at g a seat.boots) seat.log).filled (configuration (setting_at g a seat.boots) seat.log).hand

-- the blocks that the write at a place links
abbrev pub linked_at : Place → (filled : List (ℕ × List ℕ)) → List ℕ
linked_at (In known command (WriteThen kind.Link block bytes guard done fault missed)) filled = filled_blocks filled
linked_at (In known command (WriteThen kind.Record block bytes guard done fault missed)) filled = filled_blocks filled
linked_at other filled = []

-- the same, of a seat
abbrev pub linked_of : Geometry → (appliance : ℕ) → Seat → List ℕ
linked_of g a seat = linked_at (configuration (setting_at g a seat.boots) seat.log).place (configuration (setting_at g a seat.boots) seat.log).filled

-- a block that is free to be linked
pub record IsFree (g : Geometry) (d : Device) (block : ℕ) : Type 0 where
  pub pool : InPool g block
  pub off : Unreachable (trees_of g d) block

-- a block in the hand of a boot that holds its extent's lease in time is reached by no path
abbrev pub FreshSeat : Geometry → (time : ℕ) → Device → List Issued → (appliance : ℕ) → Seat → Type 0
FreshSeat g time d writes a seat =
    (block : ℕ) → is_in block (due_at_seat g a seat) ≡ true →
    (claim : Claim) (until : ℕ) → GripsLease g time writes a seat (extent_lease g (extent_of g block)) claim until → IsFree g d block

-- while a write is open under its home, what its kind says of its place holds
abbrev pub TreesPlaced : Geometry → (rests : ℕ → List ℕ) → (appliances time : ℕ) → Device → List Issued → (ℕ → Seat) → Type 0
TreesPlaced g rests appliances time d writes seats =
    (home n : ℕ) (x : Issued) → home_of (rests n) ≡ Some home → IsOpen g rests appliances time writes seats home n x → TreePlaced x.kind g d home x.block x.bytes

-- while all its claims stand, what its kind waits on holds
abbrev pub TreesWait : (names : ℕ → ℕ → Type 0) → Geometry → (rests : ℕ → List ℕ) → (appliances time : ℕ) → Device → List Issued → (ℕ → Seat) → Type 0
TreesWait names g rests appliances time d writes seats =
    (n : ℕ) (x : Issued) → slice_get writes n ≡ Some x → AllStand g rests appliances time writes seats n x → TreeWaits x.kind g d (rests n) (names n) x.block x.bytes x.landed

-- the trees of a world: `names` says which blocks a write links
pub record Treed (names : ℕ → ℕ → Type 0) (w : World) : Type 0 where
  pub shared : Shared (trees_of w.geometry w.surface.device)
  pub rooted : IsRooted w.geometry w.surface.device
  pub fresh : (a : ℕ) → a < w.appliances → FreshSeat w.geometry w.surface.time w.surface.device w.surface.writes a (w.seats a)
  pub placed : TreesPlaced w.geometry w.rests w.appliances w.surface.time w.surface.device w.surface.writes w.seats
  pub waits : TreesWait names w.geometry w.rests w.appliances w.surface.time w.surface.device w.surface.writes w.seats
