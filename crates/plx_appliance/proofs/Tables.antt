-- Tables of lists whose items are mostly the same.
use Rattle.std.proofs.Common.{◌≡◌, ◌<◌, ◌≤◌, ◌+◌, ℕ, zero, suc, List, [], ◌∷◌, ◌++◌, length, refl, ap, ◌∙◌, arith, get_or, inl, inr}
use Rattle.std.specs.Prelude.{slice_set}
use Rattle.std.proofs.Math.Path.{fun_ext}
use Rattle.std.proofs.lemmas.List.{get_or-set_other, get_or_past}
use Rattle.std.proofs.lemmas.Grind.{get_or-set_at}
use Rattle.plx_base.proofs.Tests.{below-next, below-or-past}

-- what is made of each item, with the same past the list
abbrev pub table_through : {X Y : Type 0} → (X → Y) → List X → X → ℕ → Y
table_through f xs d = λ k. f (get_or xs k d)

abbrev pub always : {Y : Type 0} → Y → ℕ → Y
always y = λ k. y

-- one more item that is the same as what stands past the list
pub push-default : {X : Type 0} (xs : List X) (d : X) (k : ℕ) → get_or (xs ++ d ∷ []) k d ≡ get_or xs k d
push-default [] d zero = refl
push-default [] d (suc k) = refl
push-default (x ∷ xs) d zero = refl
push-default (x ∷ xs) d (suc k) = push-default xs d k

pub table-push : {X Y : Type 0} (f : X → Y) (xs : List X) (d : X) → table_through f (xs ++ d ∷ []) d ≡ table_through f xs d
table-push f xs d = fun_ext (λ k. ap f (push-default xs d k))

-- one more item is the same from the start on
pub set-default : {X : Type 0} (xs : List X) (i : ℕ) (d : X) → ((k : ℕ) → k < i → get_or xs k d ≡ d) → i < length xs →
    (k : ℕ) → k < i + 1 → get_or (slice_set xs i d) k d ≡ d
set-default xs i d before within k below = elim (below-next k i below) [
  | inl e ↦ get_or-set_at xs i k d d e within
  | inr less ↦ get_or-set_other xs i k d d (λ e. absurd (omega (arith, e, less))) ∙ before k less
]

-- all items are the same
pub table-default : {X Y : Type 0} (f : X → Y) (xs : List X) (n : ℕ) (d : X) → length xs ≤ n → ((k : ℕ) → k < n → get_or xs k d ≡ d) →
    table_through f xs d ≡ always (f d)
table-default {X} {Y} f xs n d all each = fun_ext (λ k. elim (below-or-past k n) [
  | inl below ↦ ap f (each k below)
  | inr past ↦ ap f (get_or_past xs k d (omega (arith, past, all)))
])
