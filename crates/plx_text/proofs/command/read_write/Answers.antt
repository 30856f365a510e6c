use Rattle.std.proofs.Common.{◌≡◌, ℕ, List, ◌∷◌}
use Rattle.plx_text.proofs.command.read_write.Goals as goal

-- what follows one word after the first
after-one : (words one more : List (List ℕ)) (f a x : List ℕ) → words ≡ a ∷ one → f ∷ words ≡ f ∷ x ∷ more → one ≡ more
after-one words one more f a x first same = cc

pub returns-in_default-small : goal.returns-in_default-small
returns-in_default-small c = λ spells.
    c.in_default-small.ensures.none _ _ spells.0.1.1.0.1 (after-one _ _ _ _ _ _ c.in-Some.ensures.some.1 spells.1)
