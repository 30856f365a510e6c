-- Lists of blocks, by their numbers.
use Rattle.std.proofs.Common.{◌≡◌, ◌<◌, ◌≤◌, ◌+◌, ◌∙◌, ap, refl, ℕ, zero, suc, List, [], ◌∷◌, length, drop, get_or, arith}
use Rattle.std.proofs.Math.Seq.{drop-cons}

-- what is left of a list from one place on begins with what stands there
pub drop-next : {X : Type 0} (xs : List X) (i : ℕ) (d : X) → i < length xs → drop i xs ≡ get_or xs i d ∷ drop (i + 1) xs
drop-next xs i d less = let e : suc i ≡ i + 1 = omega arith in drop-cons xs i d less ∙ ap (λ n. get_or xs i d ∷ drop n xs) e

pub drop-past : {X : Type 0} (xs : List X) (i : ℕ) → length xs ≤ i → drop i xs ≡ []
drop-past [] zero past = refl
drop-past [] (suc i) past = refl
drop-past (x ∷ xs) zero z = absurd (omega (arith, z))
drop-past (x ∷ xs) (suc i) past = drop-past xs i (omega (arith, past))
