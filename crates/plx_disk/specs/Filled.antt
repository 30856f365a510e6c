-- A device that is filled before any write is issued.
use Rattle.std.specs.Prelude.{ℕ, List}
use Rattle.plx_base.specs.Sectors.{put}
use Rattle.plx_disk.specs.Writes.{Surface}

-- the device with bytes put into one block
abbrev pub with_block : Surface → ℕ → List ℕ → Surface
with_block s block bytes = record s { device = put s.device block bytes }
