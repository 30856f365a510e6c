-- The first of some words, and the rest.
use Rattle.std.proofs.Common.{◌≡◌, ◌∙◌, ℕ, List, ◌∷◌, ◌++◌, sym}
use Rattle.std.proofs.lemmas.List.{append_cancel_left}
use Rattle.std.specs.Prelude.{Option, None, Some, IfNone}

pub head-same : (words : List (List ℕ)) (one other : List ℕ) (rest more : List (List ℕ)) → words ≡ one ∷ rest → words ≡ other ∷ more → one ≡ other
head-same words one other rest more same too = cc

-- what follows a name
pub name-cut : (word name digits text : List ℕ) → word ≡ name ++ digits → word ≡ name ++ text → digits ≡ text
name-cut word name digits text same too = append_cancel_left name digits text (sym same ∙ too)

-- what follows from what nothing found says
pub IfNone-map : {A P Q : Type 0} (found : Option A) → IfNone found P → (P → Q) → IfNone found Q
IfNone-map None is follows = follows is
IfNone-map (Some a) is follows = tt
