-- A device as it is formatted, and how its blocks are filled.
use Rattle.std.specs.Prelude.{◌+◌, ◌*◌, ℕ, zero, suc, List, []}
use Rattle.plx_base.specs.Sectors.{Device, put}
use Rattle.plx_disk.specs.Standing.{Stands}
use Rattle.plx_disk.specs.Writes.{Surface}
use Rattle.plx_disk.specs.declared.disk.Disk.{Disk}
use Rattle.plx_geom.specs.Geometry.{Geometry, block_count}
use Rattle.plx_rules.specs.Formatted.{IsFormatted}

-- the disk stands for a formatted device of this geometry at that time, in milliseconds, on which no write was issued
abbrev pub StandsFormatted : Geometry → (time : ℕ) → Disk → Type 0
StandsFormatted g time disk = (device : Device) × IsFormatted g device × Stands disk (record { blocks = block_count g; device = device; writes = []; time = time })

-- the device with the same bytes put into so many blocks, from the first on, a stride apart
abbrev pub put_blocks : Device → (first stride count : ℕ) → List ℕ → Device
put_blocks device first stride zero bytes = device
put_blocks device first stride (suc count) bytes = put (put_blocks device first stride count bytes) (first + count * stride) bytes

-- the same of a device with its issued writes and its time
abbrev pub with_blocks : Surface → (first stride count : ℕ) → List ℕ → Surface
with_blocks s first stride count bytes = record s { device = put_blocks s.device first stride count bytes }
