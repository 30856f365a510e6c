-- Tables that are changed at one place.
use Rattle.std.specs.Prelude.{ℕ, if◌then◌else◌, ◌==◌}

-- the table with one place changed
abbrev pub at : {X : Type 0} → (ℕ → X) → ℕ → X → ℕ → X
at table place x = λ k. if k == place then x else table k
