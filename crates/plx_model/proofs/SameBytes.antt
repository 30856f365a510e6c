-- The test whether two lists of bytes are the same.
use Rattle.std.proofs.Common.{◌≡◌, ◌↔◌, ℕ, List, [], ◌∷◌, refl, sym, ap₂, subst, Bool, true, false, IsTrue}
use Rattle.std.specs.Prelude.{◌==◌}
use Rattle.std.proofs.lemmas.Bool.{and_parts, eqb-true}
use Rattle.plx_commands.specs.Reports.{same_bytes}
use Rattle.plx_commands.proofs.SameReports.{same-bytes}

pub same_bytes-equal : (xs ys : List ℕ) → same_bytes xs ys ≡ true → xs ≡ ys
same_bytes-equal [] [] h = refl
same_bytes-equal [] (y ∷ ys) h = cc
same_bytes-equal (x ∷ xs) [] h = cc
same_bytes-equal (x ∷ xs) (y ∷ ys) h =
    ap₂ (λ (z : ℕ) (zs : List ℕ). z ∷ zs) (eqb-true x y (and_parts (x == y) (same_bytes xs ys) h).0) (same_bytes-equal xs ys (and_parts (x == y) (same_bytes xs ys) h).1)

not_same : (t : Bool) → (t ≡ true → ⊥) → false ≡ t
not_same true n = absurd (n refl)
not_same false n = refl

-- what decides whether they are equal is that test
pub same_bytes-decided : (b : Bool) (xs ys : List ℕ) → IsTrue b ↔ (xs ≡ ys) → b ≡ same_bytes xs ys
same_bytes-decided true xs ys h = sym (subst (λ zs. same_bytes xs zs ≡ true) (h.0 refl) (same-bytes xs))
same_bytes-decided false xs ys h = not_same (same_bytes xs ys) (λ e. let n : false ≡ true = h.1 (same_bytes-equal xs ys e) in cc)
