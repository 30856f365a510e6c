use Rattle.std.proofs.Common.{◌≡◌}
use Rattle.std.specs.Prelude.{ℕ, None, slice_index_or}
use Rattle.std.specs.Vec.{vec_len}
use Rattle.plx_alloc.proofs.allocator.Allocator.new.Given as goal

abbrev pub invariant-loop : goal.invariant-loop
invariant-loop l = (vec_len l.extents ≡ l.counter) × ((k : ℕ) → slice_index_or l.extents.items k None ≡ None)
