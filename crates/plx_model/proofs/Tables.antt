-- Tables of lists.
use Rattle.std.proofs.Common.{◌≡◌, ◌≢◌, ◌<◌, ◌≤◌, ℕ, List, length, map, replicate, refl, sym, ap, ◌∙◌, get_or, ◌+◌, ◌++◌, ◌∷◌, [], true, false, ◌⊎◌, inl, inr}
use Rattle.std.specs.Prelude.{if◌then◌else◌, ◌==◌, slice_set}
use Rattle.std.proofs.Math.Path.{fun_ext}
use Rattle.std.proofs.lemmas.Bool.Decides.{eqb_tells}
use Rattle.std.proofs.lemmas.List.{get_or-set_other, get_or-replicate, get_or_past, length-replicate, get_or-map, map-append, replicate_more}
use Rattle.std.proofs.lemmas.Grind.{get_or-set_at}
use Rattle.plx_base.proofs.Tests.{below-or-past}
use Rattle.plx_commands.specs.Places.{at}
use Rattle.plx_model.specs.Tables.{table}

-- the table of a list that has everywhere the same
pub table-replicate : {X : Type 0} (n : ℕ) (x : X) → table (replicate n x) x ≡ (λ k. x)
table-replicate {X} n x = fun_ext (λ k. each k (below-or-past k n))
  where
    each : (k : ℕ) → (k < n) ⊎ (n ≤ k) → get_or (replicate n x) k x ≡ x
    each k (inl h) = get_or-replicate n k x x h
    each k (inr h) = get_or_past (replicate n x) k x (rw (length-replicate n x) h)

-- the table of a list that is changed at one place
pub table-set : {X : Type 0} (xs : List X) (k : ℕ) (x d : X) → k < length xs → table (slice_set xs k x) d ≡ at (table xs d) k x
table-set {X} xs k x d within = fun_ext (λ j. each j (eqb_tells j k))
  where
    each : (j : ℕ) → (((j == k) ≡ true) × (j ≡ k)) ⊎ (((j == k) ≡ false) × (j ≢ k)) → get_or (slice_set xs k x) j d ≡ (if j == k then x else get_or xs j d)
    each j (inl h) = rw h.0 (get_or-set_at xs k j x d h.1 within)
    each j (inr h) = rw h.0 (get_or-set_other xs k j x d h.1)

-- what the table has at a place of the list
pub table-at : {X Y : Type 0} (f : X → Y) (xs : List X) (k : ℕ) (x : X) (d : Y) → k < length xs → x ≡ get_or xs k x → table (map f xs) d k ≡ f x
table-at f xs k x d within e = get_or-map f xs k x d within ∙ ap f (sym e)

-- and past the list
pub table-past : {X : Type 0} (xs : List X) (k : ℕ) (d : X) → length xs ≤ k → table xs d k ≡ d
table-past xs k d past = get_or_past xs k d past

-- what stands at a place may be written there again
pub at-again : {X : Type 0} (f : ℕ → X) (k : ℕ) (x : X) → f k ≡ x → at f k x ≡ f
at-again {X} f k x e = fun_ext (λ j. each j (eqb_tells j k))
  where
    each : (j : ℕ) → (((j == k) ≡ true) × (j ≡ k)) ⊎ (((j == k) ≡ false) × (j ≢ k)) → (if j == k then x else f j) ≡ f j
    each j (inl h) = rw h.0 (sym e ∙ ap f (sym h.1))
    each j (inr h) = rw h.0 refl

-- a list that shows everywhere the same does so with one more that shows it
pub same-more : {X Y : Type 0} (f : X → Y) (xs : List X) (x : X) (n : ℕ) (y : Y) (more : List X) → more ≡ xs ++ x ∷ [] → map f xs ≡ replicate n y → f x ≡ y → map f more ≡ replicate (n + 1) y
same-more f xs x n y more is same one =
    ap (map f) is ∙ (map-append f xs (x ∷ []) ∙ (ap (λ ys. ys ++ f x ∷ []) same ∙ (ap (λ z. replicate n y ++ z ∷ []) one ∙ replicate_more n y)))
