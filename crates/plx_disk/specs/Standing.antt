-- What the code's device stands for.
use Rattle.std.specs.Prelude.{◌≡◌, ◌≢◌, ◌+◌, ◌<◌, ℕ, List, [], ◌∷◌, Bool, true, false, length}
use Rattle.plx_disk.specs.Stored.{device_of}
use Rattle.plx_disk.specs.Writes.{Issued, Surface, all_sectors}
use Rattle.plx_disk.specs.declared.write.Pending.{Pending}
use Rattle.plx_disk.specs.declared.write.Progress.{Progress}
use Rattle.plx_disk.specs.declared.write.Progress.TheVariants.{Open, Late, Whole, Closed}
use Rattle.plx_disk.specs.declared.write.Write.{Write}
use Rattle.plx_disk.specs.declared.disk.Disk.{Disk}

-- a write of which a sector may still land is kept whole
pub record IsPending (pending : Pending) (write : Issued) : Type 0 where
  pub kind : pending.kind ≡ write.kind
  pub block : pending.block ≡ write.block
  pub bytes : pending.bytes ≡ write.bytes
  pub guard : pending.guard ≡ write.guard
  pub landed : pending.landed ≡ write.landed
  pub open_yet : write.cancelled ≡ false
  pub not_whole : write.landed ≢ all_sectors

-- of one whose time is over before all of it has landed, the sectors that have are kept
pub record IsLate (time : ℕ) (flags : List Bool) (write : Issued) : Type 0 where
  pub landed : flags ≡ write.landed
  pub open_yet : write.cancelled ≡ false
  pub not_whole : write.landed ≢ all_sectors
  pub late : write.guard + 50 < time

-- of one that has landed whole, or was cancelled before, this alone is kept
abbrev pub Proceeds : (time : ℕ) → Progress → Issued → Type 0
Proceeds time (Open pending) write = IsPending pending write
Proceeds time (Late landed) write = IsLate time landed write
Proceeds time Whole write = write.landed ≡ all_sectors
Proceeds time Closed write = (write.cancelled ≡ true) × (write.landed ≢ all_sectors)

-- the code's write stands at that time for an issued one
pub record StandsForIssued (time : ℕ) (kept : Write) (write : Issued) : Type 0 where
  pub owner : kept.owner.0 ≡ write.owner
  pub progress : Proceeds time kept.progress write

-- they stand at that time for the issued ones, one by one
abbrev pub StandForAll : (time : ℕ) → List Write → List Issued → Type 0
StandForAll time [] [] = Unit {0}
StandForAll time [] (write ∷ writes) = ⊥
StandForAll time (one ∷ kept) [] = ⊥
StandForAll time (one ∷ kept) (write ∷ writes) =
    StandsForIssued time one write × StandForAll time kept writes

-- equal device, issued writes and time
pub record Stands (disk : Disk) (s : Surface) : Type 0 where
  pub blocks : disk.blocks ≡ s.blocks
  pub device : (b : ℕ) → device_of disk.stored b ≡ s.device b
  pub writes : StandForAll disk.time disk.writes.items s.writes
  pub time : disk.time ≡ s.time

-- each device that the old one stands for leads to one that the new one stands for
abbrev pub Turns : Disk → Disk → (Surface → Surface) → Type 0
Turns old new change = (s : Surface) → Stands old s → Stands new (change s)

-- the new one stands for what the old one stood for
abbrev pub Stays : Disk → Disk → Type 0
Stays old new = (s : Surface) → Stands old s → Stands new s

-- how many blocks the device has
abbrev pub device_size : Disk → ℕ
device_size disk = disk.blocks

-- how many writes were issued
abbrev pub issued_count : Disk → ℕ
issued_count disk = length disk.writes.items
