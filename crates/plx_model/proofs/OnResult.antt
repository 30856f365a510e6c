-- Facts of one variant of a result.
use Rattle.std.proofs.Common.{Result, Ok, Err, OnErr}

-- what holds anyway holds where the result is an error
pub any_err : {T E P : Type 0} → (r : Result T E) → P → OnErr r P
any_err (Ok x) p = tt
any_err (Err e) p = p
