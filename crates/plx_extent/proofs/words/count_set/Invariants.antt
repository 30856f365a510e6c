use Rattle.std.proofs.Common.{◌≡◌, ◌*◌}
use Rattle.plx_extent.proofs.Counts.{set_count}
use Rattle.plx_extent.specs.Maps.{bits_of}
use Rattle.plx_extent.proofs.words.count_set.Given as goal

abbrev pub invariant-loop-index : goal.invariant-loop-index
invariant-loop-index l = l.set ≡ set_count (bits_of (64 * l.index) l.bytes)
