-- The code's sparse blocks, and the writes that still need one of them.
use Rattle.std.specs.Prelude.{◌≡◌, ℕ, List, Bool, true, Option, Some, None, is_some, slice_get}
use Rattle.std.specs.Option.{unwrap_or}
use Rattle.std.specs.Ordering.{nat_cmp}
use Rattle.std.specs.BTreeMap.{BTreeMap, get}
use Rattle.plx_base.specs.Blocks.{zeros}
use Rattle.plx_base.specs.Sectors.{Device}
use Rattle.plx_disk.specs.declared.write.Progress.{Progress}
use Rattle.plx_disk.specs.declared.write.Progress.TheVariants.{Open, Late, Whole, Closed}
use Rattle.plx_disk.specs.declared.write.Write.{Write}

-- the blocks that are stored, by their numbers
abbrev pub Blocks : Type 0
Blocks = BTreeMap ℕ (List ℕ)

-- what stands in each block: zeros where none was stored
abbrev pub device_of : Blocks → Device
device_of blocks = λ b. unwrap_or (get nat_cmp blocks b) zeros

-- whether a block is stored
abbrev pub is_stored : Blocks → ℕ → Bool
is_stored blocks block = is_some (get nat_cmp blocks block)

-- whether a write that may still land has its block stored
abbrev pub has_place : Blocks → Progress → Bool
has_place blocks (Open pending) = is_stored blocks pending.block
has_place blocks (Late landed) = true
has_place blocks Whole = true
has_place blocks Closed = true

-- whether the write with some number, if there is one, has its place
abbrev pub has_its_place : Blocks → Option Write → Bool
has_its_place blocks None = true
has_its_place blocks (Some write) = has_place blocks write.progress

-- every write that may still land has its place
abbrev pub ArePlaced : Blocks → List Write → Type 0
ArePlaced blocks writes = (number : ℕ) → has_its_place blocks (slice_get writes number) ≡ true
