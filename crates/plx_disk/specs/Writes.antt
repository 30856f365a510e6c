-- A device with issued writes that land sector by sector, and its time.
use Rattle.std.specs.Prelude.{◌≡◌, ◌+◌, ◌≤◌, ℕ, List, [], ◌∷◌, ◌++◌, slice_get, slice_set, Some}
use Rattle.std.specs.Prelude.{Bool, true, false, zero, suc}
use Rattle.plx_base.specs.Blocks.{zeros}
use Rattle.plx_base.specs.Sectors.{Device, put, with_landed_sector}
use Rattle.plx_base.specs.declared.write_kind.WriteKind.{WriteKind}

-- an issued write: the boot that issued it, its kind, its block, its bytes,
-- its guard, which of its sectors have landed, and whether it was cancelled
pub record Issued : Type 0 where
  pub owner : ℕ
  pub kind : WriteKind
  pub block : ℕ
  pub bytes : List ℕ
  pub guard : ℕ
  pub landed : List Bool
  pub cancelled : Bool

-- a device: how many blocks it has, what stands in each,
-- the issued writes in order of issue, and the time in milliseconds
pub record Surface : Type 0 where
  pub blocks : ℕ
  pub device : Device
  pub writes : List Issued
  pub time : ℕ

-- the flags of a write of which nothing has landed
abbrev pub no_sectors : List Bool
no_sectors = false ∷ false ∷ false ∷ false ∷ false ∷ false ∷ false ∷ false ∷ []

-- the flags of a write that has landed whole
abbrev pub all_sectors : List Bool
all_sectors = true ∷ true ∷ true ∷ true ∷ true ∷ true ∷ true ∷ true ∷ []

-- a new device: zeros throughout, and no write was issued
abbrev pub blank : ℕ → ℕ → Surface
blank blocks time = record { blocks = blocks; device = λ block. zeros; writes = []; time = time }

-- a write that has just been issued
abbrev pub fresh_write : ℕ → WriteKind → ℕ → List ℕ → ℕ → Issued
fresh_write owner kind block bytes guard = record {
  owner = owner;
  kind = kind;
  block = block;
  bytes = bytes;
  guard = guard;
  landed = no_sectors;
  cancelled = false;
}

-- the write with one more sector landed, and the write cancelled
abbrev pub with_sector : Issued → ℕ → Issued
with_sector write sector = record write { landed = slice_set write.landed sector true }

-- a write of which no further sector lands
abbrev pub with_cancel : Issued → Issued
with_cancel write = record write { cancelled = true }

-- the device once a write is issued
abbrev pub with_issued : Surface → Issued → Surface
with_issued s write = record s { writes = s.writes ++ write ∷ [] }

-- this sector of the write with this number may land: it hasn't,
-- the write wasn't cancelled, and the time is at most 50 ms past its guard
pub record MayLand (s : Surface) (number sector : ℕ) (write : Issued) : Type 0 where
  pub found : slice_get s.writes number ≡ Some write
  pub open_yet : write.cancelled ≡ false
  pub missing : slice_get write.landed sector ≡ Some false
  pub early : s.time ≤ write.guard + 50

-- the device once a sector of a write has landed
abbrev pub after_landing : Surface → ℕ → Issued → ℕ → Surface
after_landing s number write sector = record s {
  device = put s.device write.block (with_landed_sector sector write.bytes (s.device write.block));
  writes = slice_set s.writes number (with_sector write sector);
}

-- the write with this number has landed whole
abbrev pub HasLanded : Surface → ℕ → Type 0
HasLanded s number =
    (write : Issued) × (slice_get s.writes number ≡ Some write) × (write.landed ≡ all_sectors)

-- the issued writes once the one with this number is cancelled
abbrev pub cancelled_at : List Issued → ℕ → List Issued
cancelled_at [] number = []
cancelled_at (write ∷ writes) zero = with_cancel write ∷ writes
cancelled_at (write ∷ writes) (suc number) = write ∷ cancelled_at writes number

-- the device once the write with this number is cancelled
abbrev pub with_cancelled : Surface → ℕ → Surface
with_cancelled s number = record s { writes = cancelled_at s.writes number }

-- the device once time has passed
abbrev pub after_time : Surface → ℕ → Surface
after_time s by = record s { time = s.time + by }
