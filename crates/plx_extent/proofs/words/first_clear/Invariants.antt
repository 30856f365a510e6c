use Rattle.std.proofs.Common.{◌≡◌, ◌<◌, ◌*◌, ℕ, true}
use Rattle.plx_extent.specs.Maps.{bit_of}
use Rattle.plx_extent.proofs.words.first_clear.Given as goal

abbrev pub invariant-loop-index : goal.invariant-loop-index
invariant-loop-index l = (i : ℕ) → i < 64 * l.index → bit_of l.bytes i ≡ true
