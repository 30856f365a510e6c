-- Tables of words.
use Rattle.std.proofs.Common.{◌≡◌, ℕ, List, [], ◌∷◌, Bool, true, false, Option, if◌then◌else◌}
use Rattle.std.specs.Prelude.{IfSome}
use Rattle.std.specs.Str.{bytes_eq}
use Rattle.plx_words.specs.Candidates.{by_word}

-- what holds of each row of a table of words
abbrev pub EachRow : {A : Type 0} → (A → Type 0) → List (List ℕ × Option A) → Type 0
EachRow P [] = Unit {0}
EachRow P (row ∷ rows) = IfSome row.1 P × EachRow P rows

either-row : {A : Type 0} (P : A → Type 0) (test : Bool) (one other : Option A) → IfSome one P → IfSome other P → IfSome (if test then one else other) P
either-row P true one other here there = here
either-row P false one other here there = there

pub row-of : {A : Type 0} (P : A → Type 0) (word : List ℕ) (rows : List (List ℕ × Option A)) → EachRow P rows → IfSome (by_word word rows) P
row-of P word [] each = tt
row-of P word (row ∷ rows) each = either-row P (bytes_eq word row.0) row.1 (by_word word rows) each.0 (row-of P word rows each.1)

-- what follows the first word
pub rest-same : (word first : List ℕ) (words more : List (List ℕ)) → word ∷ words ≡ first ∷ more → words ≡ more
rest-same word first words more same = cc
