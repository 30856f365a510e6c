-- A block whose bytes are lent to a buffer until they are given back.
use Rattle.std.specs.Prelude.{◌≡◌, ℕ, List, false}
use Rattle.plx_base.specs.Blocks.{zeros}
use Rattle.plx_disk.specs.Filled.{with_block}
use Rattle.plx_disk.specs.Standing.{Stands}
use Rattle.plx_disk.specs.Stored.{is_stored}
use Rattle.plx_disk.specs.Writes.{Surface}
use Rattle.plx_disk.specs.declared.disk.Disk.{Disk}

-- the buffer has the bytes of a block, in whose place
-- others stand; of a block that isn't stored it has zeros
pub record IsLent (old new : Disk) (block : ℕ) (bytes : List ℕ) : Type 0 where
  pub given : (s : Surface) → Stands old s → bytes ≡ s.device block
  pub instead : List ℕ
  pub stands : (s : Surface) → Stands old s → Stands new (with_block s block instead)
  pub none : is_stored new.stored block ≡ false → bytes ≡ zeros
