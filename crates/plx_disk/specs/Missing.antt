-- What is asked of an issued write: its owner, and its least missing sector.
use Rattle.std.specs.Prelude.{◌≡◌, ◌<◌, ℕ, Some, true, false, List, Bool, slice_get}
use Rattle.plx_base.specs.declared.numbers.Boot.{Boot}
use Rattle.plx_disk.specs.Writes.{Issued, Surface, all_sectors}

-- the least of these sectors that hasn't landed
pub record IsLeastMissing (landed : List Bool) (sector : ℕ) : Type 0 where
  pub missing : slice_get landed sector ≡ Some false
  pub below : (k : ℕ) → k < sector → slice_get landed k ≡ Some true

-- the least sector that hasn't landed of the write with this number, which was not cancelled
pub record IsMissing (s : Surface) (number sector : ℕ) : Type 0 where
  pub write : Issued
  pub found : slice_get s.writes number ≡ Some write
  pub open_yet : write.cancelled ≡ false
  pub least : IsLeastMissing write.landed sector

-- the write with this number, if there is one that was not cancelled, has landed whole
abbrev pub MissesNone : Surface → ℕ → Type 0
MissesNone s number =
    (write : Issued) → slice_get s.writes number ≡ Some write →
    write.cancelled ≡ false → write.landed ≡ all_sectors

-- the boot that issued the write with this number
abbrev pub IsOwner : Surface → ℕ → Boot → Type 0
IsOwner s number boot =
    (write : Issued) × (slice_get s.writes number ≡ Some write) × (write.owner ≡ boot.0)
