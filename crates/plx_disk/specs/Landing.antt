-- One write by itself, and all of its sectors.
use Rattle.std.specs.Prelude.{◌≡◌, ◌+◌, ◌≤◌, ℕ, zero, suc, Some, false, slice_get}
use Rattle.plx_disk.specs.Writes.{Issued, Surface, after_landing, no_sectors, with_sector}

-- this sector of the write may land at that time
pub record MayLandAt (write : Issued) (sector time : ℕ) : Type 0 where
  pub open_yet : write.cancelled ≡ false
  pub missing : slice_get write.landed sector ≡ Some false
  pub early : time ≤ write.guard + 50

-- no sector of the write has landed, and each may land at that time
pub record MayLandWhole (write : Issued) (time : ℕ) : Type 0 where
  pub open_yet : write.cancelled ≡ false
  pub untouched : write.landed ≡ no_sectors
  pub early : time ≤ write.guard + 50

-- the write with so many of its sectors landed, the first ones
abbrev pub with_sectors : Issued → ℕ → Issued
with_sectors write zero = write
with_sectors write (suc count) = with_sector (with_sectors write count) count

-- the device once so many sectors of a write have landed, the first ones, one after another
abbrev pub after_sectors : Surface → (number : ℕ) → Issued → (count : ℕ) → Surface
after_sectors s number write zero = s
after_sectors s number write (suc count) =
    after_landing (after_sectors s number write count) number (with_sectors write count) count
