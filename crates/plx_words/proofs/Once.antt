-- Words and lines that spell one value alone.
use Rattle.std.proofs.Common.{◌≡◌, ◌∙◌, List, [], ◌∷◌, Option, Some, None, refl, ap, sym, subst}
use Rattle.std.specs.Prelude.{IfSome}
use Rattle.plx_words.specs.Files.{Numbered, SpellAll}
use Rattle.plx_base.proofs.Tests.{same-some}

pub none-absurd : {A X : Type 0} (one : A) → None ≡ Some one → X
none-absurd one same = absurd (cc)

pub heads : {A : Type 0} (one other : A) (more others : List A) → one ∷ more ≡ other ∷ others → (one ≡ other) × (more ≡ others)
heads one other more others same = ((cc), (cc))

-- where the one value that can be spelled isn't, none is
pub no-value : {A : Type 0} (candidate : Option A) (P : A → Type 0) → ((a : A) → P a → candidate ≡ Some a) → IfSome candidate (λ a. ¬ P a) → (a : A) → ¬ P a
no-value candidate P found none a is = (subst (λ c. IfSome c (λ a. ¬ P a)) (found a is) none) is

-- two values that the same words spell are one
pub one-value : {A : Type 0} (candidate : Option A) (one other : A) → candidate ≡ Some one → candidate ≡ Some other → one ≡ other
one-value candidate one other here there = same-some one other (sym here ∙ there)

-- lines spell one list of values alone, where each line spells one value alone
pub lines-once : {A : Type 0} (Spells : A → Numbered → Type 0) → ((one other : A) (line : Numbered) → Spells one line → Spells other line → one ≡ other)
    → (values others : List A) (lines : List Numbered) → SpellAll Spells values lines → SpellAll Spells others lines → values ≡ others
lines-once Spells once [] [] [] here there = refl
lines-once Spells once [] (other ∷ others) [] here there = absurd there
lines-once Spells once (one ∷ values) others [] here there = absurd here
lines-once Spells once [] others (line ∷ lines) here there = absurd here
lines-once Spells once (one ∷ values) [] (line ∷ lines) here there = absurd there
lines-once Spells once (one ∷ values) (other ∷ others) (line ∷ lines) here there =
    ap (λ (v : _). v ∷ values) (once one other line here.0 there.0) ∙ ap (λ (vs : List _). other ∷ vs) (lines-once Spells once values others lines here.1 there.1)
