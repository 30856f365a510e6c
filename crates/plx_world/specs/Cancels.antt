-- The program's world cancels no write.
use Rattle.std.specs.Prelude.{◌≡◌, ℕ, Some, false, slice_get}
use Rattle.plx_disk.specs.Standing.{Stands as DiskStands}
use Rattle.plx_disk.specs.Writes.{Issued, Surface}
use Rattle.plx_disk.specs.declared.disk.Disk.{Disk}

-- no write of a device was cancelled
abbrev pub HasNoCancel : Surface → Type 0
HasNoCancel s = (number : ℕ) (write : Issued) → slice_get s.writes number ≡ Some write → write.cancelled ≡ false

-- the code's device stands for one of which no write was cancelled
abbrev pub NeverCancels : Disk → Type 0
NeverCancels disk = ∥ ((s : Surface) × DiskStands disk s × HasNoCancel s) ∥₁
