-- What holds of the map of each extent whose lease a boot holds.
use Rattle.std.proofs.Common.{◌≡◌, ◌≢◌, ℕ, ◌+◌, ◌-◌, ◌≤◌, ◌<◌, List, true, Option, Some, None, length}
use Rattle.std.specs.Prelude.{◌==◌, if◌then◌else◌, slice_get}
use Rattle.plx_base.specs.Sectors.{Device, with_landed_sectors}
use Rattle.plx_base.specs.declared.lease.Claim.{Claim}
use Rattle.plx_base.specs.declared.write_kind.WriteKind.{WriteKind}
use Rattle.plx_base.specs.declared.write_kind.WriteKind.TheVariants as kind
use Rattle.plx_commands.specs.Replies.{is_in}
use Rattle.plx_disk.specs.Writes.{Issued, all_sectors}
use Rattle.plx_extent.specs.Maps.{bit_of}
use Rattle.plx_geom.specs.Geometry.{Geometry, extent_lease, lease_at, map_at}
use Rattle.plx_rules.specs.Boot.{Place, Idle, Begins, In, Configuration, configuration}
use Rattle.plx_rules.specs.Holds.{Held}
use Rattle.plx_rules.specs.Owners.{pending_write}
use Rattle.plx_rules.specs.Rests.{extent_of}
use Rattle.plx_rules.specs.World.{World, Seat, setting_at}
use Rattle.law_lease.proofs.Leased.{grip_at}
use Rattle.law_space.proofs.Marks.{Careful, IsOfMap}

-- the block of an extent's lease
abbrev pub lease_block : Geometry → (extent : ℕ) → ℕ
lease_block g extent = lease_at (extent_lease g extent)

-- what stands in a block, by what stood there before the write that is waited for: of that, some sectors have landed
abbrev pub bytes_with_landed : Option Issued → (block : ℕ) → List ℕ → List ℕ
bytes_with_landed None block base = base
bytes_with_landed (Some write) block base = if block == write.block then with_landed_sectors write.landed write.bytes base else base

-- of an extent: in the map that stood before the write that is waited for, the bits of blocks in hand are set; that map is what was read, if it was read
-- directly before; and of that write some sectors have landed since
pub record MapKept (g : Geometry) (extent : ℕ) (now : List ℕ) (pending : Option Issued) (hand : List ℕ) (found : Option (ℕ × List ℕ)) : Type 0 where
  pub base : List ℕ
  pub whole : length base ≡ 4096
  pub marked : (block : ℕ) → is_in block hand ≡ true → extent_of g block ≡ extent → (map_at g extent ≤ block) × (bit_of base (block - map_at g extent) ≡ true)
  pub shown : (bytes : List ℕ) → found ≡ Some (map_at g extent, bytes) → base ≡ bytes
  pub laid_now : now ≡ bytes_with_landed pending (map_at g extent) base

-- the same at a configuration, as long as its boot holds the extent's lease
abbrev pub KeptAt : Geometry → (time extent : ℕ) → (now : List ℕ) → Option Issued → Configuration → Type 0
KeptAt g time extent now pending p = (claim : Claim) (until : ℕ) → grip_at p.place pending (lease_block g extent) (p.holds (lease_block g extent)) ≡ Held claim until → time ≤ until + 50 →
    MapKept g extent now pending p.hand p.found

-- the same of an appliance
abbrev pub KeptSeat : Geometry → (time extent : ℕ) → (now : List ℕ) → List Issued → ℕ → Seat → Type 0
KeptSeat g time extent now writes appliance seat =
    KeptAt g time extent now (pending_write writes seat.pending) (configuration (setting_at g appliance seat.boots) seat.log)

-- a place asks its writes of maps carefully
abbrev pub CarefulAt : Option (ℕ × List ℕ) → Place → Type 0
CarefulAt found (Idle known) = Unit {0}
CarefulAt found (Begins known command) = Unit {0}
CarefulAt found (In known command process) = Careful found process

-- the same of an appliance
abbrev pub CarefulSeat : Geometry → ℕ → Seat → Type 0
CarefulSeat g appliance seat =
    CarefulAt (configuration (setting_at g appliance seat.boots) seat.log).found (configuration (setting_at g appliance seat.boots) seat.log).place

-- a take clears no bit of the map that stood before it, and a give or a sweep sets none
abbrev pub OneWay : WriteKind → (base bytes : List ℕ) → Type 0
OneWay kind.Take base bytes = (bit : ℕ) → bit_of base bit ≡ true → bit_of bytes bit ≡ true
OneWay kind.Give base bytes = (bit : ℕ) → bit_of bytes bit ≡ true → bit_of base bit ≡ true
OneWay kind.Sweep base bytes = (bit : ℕ) → bit_of bytes bit ≡ true → bit_of base bit ≡ true
OneWay other base bytes = Unit {0}

-- a write of a map that may still land: what stands there is what stood before it, with some of its sectors
pub record IsMarking (write : Issued) (now : List ℕ) : Type 0 where
  pub base : List ℕ
  pub whole : length base ≡ 4096
  pub mixed_now : now ≡ with_landed_sectors write.landed write.bytes base
  pub one_way : OneWay write.kind base write.bytes

-- the same of all issued writes
abbrev pub AreMarking : (time : ℕ) → Device → List Issued → Type 0
AreMarking time device writes = (n : ℕ) (x : Issued) → slice_get writes n ≡ Some x → IsOfMap x.kind → x.landed ≢ all_sectors → time ≤ x.guard + 50 → IsMarking x (device x.block)

-- all that holds of a world's free space
pub record Spaced (w : World) : Type 0 where
  pub careful : (a : ℕ) → a < w.appliances → CarefulSeat w.geometry a (w.seats a)
  pub kept : (a : ℕ) → a < w.appliances → (extent : ℕ) → extent < w.geometry.extents →
      KeptSeat w.geometry w.surface.time extent (w.surface.device (map_at w.geometry extent)) w.surface.writes a (w.seats a)
  pub marking : AreMarking w.surface.time w.surface.device w.surface.writes
