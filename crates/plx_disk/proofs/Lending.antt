-- A block that isn't stored.
use Rattle.std.proofs.Common.{◌≡◌, ℕ, List, false, Option, Some, None, refl}
use Rattle.std.specs.Ordering.{nat_cmp}
use Rattle.std.specs.BTreeMap.{get}
use Rattle.std.specs.Option.{unwrap_or}
use Rattle.std.specs.Prelude.{is_some}
use Rattle.plx_base.specs.Blocks.{zeros}
use Rattle.plx_disk.specs.Stored.{Blocks, device_of, is_stored}

zeros-absent : (bytes : Option (List ℕ)) → is_some bytes ≡ false → unwrap_or bytes zeros ≡ zeros
zeros-absent None out = refl
zeros-absent (Some bytes) out = absurd (let P : ⊥ = cc in P)

-- it is zeros
pub zeros-unstored : (blocks : Blocks) (block : ℕ) → is_stored blocks block ≡ false → device_of blocks block ≡ zeros
zeros-unstored blocks block out = zeros-absent (get nat_cmp blocks block) out
