use Rattle.std.proofs.Common.{◌≡◌, ◌<◌, ℕ, get_or, None}
use Rattle.std.specs.Vec.{vec_len}
use Rattle.plx_appliance.proofs.empty.clear_places.Given as goal

abbrev pub invariant-loop-index : goal.invariant-loop-index
invariant-loop-index g l = (vec_len l.places ≡ vec_len l.initial.places) × ((k : ℕ) → k < l.index → get_or l.places.items k None ≡ None)
