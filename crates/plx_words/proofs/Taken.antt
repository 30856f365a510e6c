-- Lines that were taken from a text.
use Rattle.std.proofs.Common.{◌≡◌, ◌≢◌, ◌+◌, ◌∙◌, ◌⊎◌, inl, inr, ℕ, List, [], ◌∷◌, ◌++◌, refl, ap, sym, subst, append-nil, append_assoc}
use Rattle.plx_words.specs.Files.{Begins, Grammar, IsFirstBad, Numbered, SpellAll, contents, count, last_part}
use Rattle.plx_words.specs.Words.{split}

-- these lines were taken from the front of a text, and this is left of it after so many lines
pub record Taken (bytes : List ℕ) (Are : List Numbered → Type 0) (number : ℕ) (rest : List ℕ) : Type 0 where
  pub lines : List Numbered
  pub are : Are lines
  pub all : contents 0 (split 10 bytes) ≡ lines ++ contents number (split 10 rest)
  pub counted : count 0 (split 10 bytes) ≡ count number (split 10 rest)
  pub ended : last_part (split 10 bytes) ≡ last_part (split 10 rest)

-- a file with a bad line
pub bad-line : (grammar : Grammar) (bytes : List ℕ) (good : List Numbered) (number : ℕ) (line : List ℕ) (more : List Numbered) → Begins grammar good
    → contents 0 (split 10 bytes) ≡ good ++ (number, line) ∷ more → ¬ grammar.Goes good line → IsFirstBad grammar bytes number
bad-line grammar bytes good number line more begins parts bad = record { good = good; begins = begins; bad = inl (line, more, parts, bad) }

-- a file whose end is bad
pub bad-end : (grammar : Grammar) (bytes : List ℕ) (number : ℕ) → Begins grammar (contents 0 (split 10 bytes)) → number ≡ count 0 (split 10 bytes) + 1
    → (last_part (split 10 bytes) ≢ []) ⊎ ¬ grammar.Ends (contents 0 (split 10 bytes)) → IsFirstBad grammar bytes number
bad-end grammar bytes number begins is bad = record { good = contents 0 (split 10 bytes); begins = begins; bad = inr (refl, is, bad) }

-- a file has no bad line where it is one of the grammar
pub none-bad : (grammar : Grammar) (bytes : List ℕ) (number : ℕ) → Begins grammar (contents 0 (split 10 bytes)) → last_part (split 10 bytes) ≡ []
    → grammar.Ends (contents 0 (split 10 bytes)) → ¬ IsFirstBad grammar bytes number
none-bad grammar bytes number begins whole ends first = elim first.bad [
  | inl one ↦ one.3 (begins first.good (number, one.0) one.1 one.2)
  | inr at ↦ elim at.2 [ inl some ↦ some whole | inr missing ↦ missing (subst (λ lines. grammar.Ends lines) at.0 ends) ]
]

pub begins-none : (grammar : Grammar) → Begins grammar []
begins-none grammar = λ good line more parts. nothing good line more parts
  where
    nothing : {X : Type 0} (good : List Numbered) (line : Numbered) (more : List Numbered) → [] ≡ good ++ line ∷ more → X
    nothing [] line more parts = absurd (cc)
    nothing (one ∷ good) line more parts = absurd (cc)

-- one line more
pub taken-more : (bytes : List ℕ) (Are More : List Numbered → Type 0) (number next : ℕ) (rest after : List ℕ) (line : Numbered) → (taken : Taken bytes Are number rest)
    → contents number (split 10 rest) ≡ line ∷ contents next (split 10 after) → count next (split 10 after) ≡ count number (split 10 rest)
    → last_part (split 10 after) ≡ last_part (split 10 rest) → More (taken.lines ++ line ∷ []) → Taken bytes More next after
taken-more bytes Are More number next rest after line taken parts counts leaves are = record {
  lines = taken.lines ++ line ∷ [];
  are = are;
  all = taken.all ∙ ap (λ (lines : List Numbered). taken.lines ++ lines) parts ∙ sym (append_assoc taken.lines (line ∷ []) (contents next (split 10 after)));
  counted = taken.counted ∙ sym counts;
  ended = taken.ended ∙ sym leaves;
}

-- no line yet
abbrev pub taken-none : (bytes : List ℕ) → Taken bytes (λ lines. lines ≡ []) 0 bytes
taken-none bytes = record { lines = []; are = refl; all = refl; counted = refl; ended = refl }

-- all lines were taken
pub taken-all : (bytes : List ℕ) (Are : List Numbered → Type 0) (number : ℕ) (rest : List ℕ) (taken : Taken bytes Are number rest) → contents number (split 10 rest) ≡ []
    → contents 0 (split 10 bytes) ≡ taken.lines
taken-all bytes Are number rest taken none = taken.all ∙ (ap (λ (lines : List Numbered). taken.lines ++ lines) none ∙ append-nil taken.lines)

-- each of the lines spells one of the values
pub spelled-in : {A : Type 0} (Spells : A → Numbered → Type 0) (values : List A) (lines good : List Numbered) (line : Numbered) (more : List Numbered)
    → SpellAll Spells values lines → lines ≡ good ++ line ∷ more → (one : A) × Spells one line
spelled-in Spells [] [] [] line more spell parts = absurd (cc)
spelled-in Spells [] [] (first ∷ good) line more spell parts = absurd (cc)
spelled-in Spells [] (other ∷ lines) good line more spell parts = absurd spell
spelled-in Spells (one ∷ values) [] good line more spell parts = absurd spell
spelled-in Spells (one ∷ values) (other ∷ lines) [] line more spell parts =
    let same : other ≡ line = cc in (one, subst (λ (l : Numbered). Spells one l) same spell.0)
spelled-in Spells (one ∷ values) (other ∷ lines) (first ∷ good) line more spell parts = spelled-in Spells values lines good line more spell.1 (cc)

-- one more value
pub spelled-more : {A : Type 0} (Spells : A → Numbered → Type 0) (values : List A) (lines : List Numbered) (one : A) (line : Numbered)
    → SpellAll Spells values lines → Spells one line → SpellAll Spells (values ++ one ∷ []) (lines ++ line ∷ [])
spelled-more Spells [] [] one line spell here = (here, tt)
spelled-more Spells [] (other ∷ lines) one line spell here = absurd spell
spelled-more Spells (first ∷ values) [] one line spell here = absurd spell
spelled-more Spells (first ∷ values) (other ∷ lines) one line spell here = (spell.0, spelled-more Spells values lines one line spell.1 here)
