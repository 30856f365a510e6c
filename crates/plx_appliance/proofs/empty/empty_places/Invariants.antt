use Rattle.std.proofs.Common.{◌≡◌}
use Rattle.std.specs.Prelude.{ℕ, None, slice_index_or}
use Rattle.std.specs.Vec.{vec_len}
use Rattle.plx_appliance.proofs.empty.empty_places.Given as goal

abbrev pub invariant-loop : goal.invariant-loop
invariant-loop g l = (vec_len l.places ≡ l.counter) × ((k : ℕ) → slice_index_or l.places.items k None ≡ None)
