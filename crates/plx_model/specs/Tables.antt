-- Lists as tables.
use Rattle.std.specs.Prelude.{ℕ, List, slice_index_or}

-- the table of a list's items, with the same thing everywhere past them
abbrev pub table : {X : Type 0} → List X → X → ℕ → X
table items past = λ k. slice_index_or items k past
