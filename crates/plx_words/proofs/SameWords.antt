-- A text has one line of words after another.
use Rattle.std.proofs.Common.{◌≡◌, ◌≢◌, ◌<◌, ◌∙◌, ℕ, List, [], ◌∷◌, ◌++◌, map, refl, ap, sym, arith, append-nil, append_assoc}
use Rattle.std.specs.List.{All as Each}
use Rattle.std.proofs.lemmas.List.Elements.{All-nil, All-cons, All-append}
use Rattle.std.proofs.lemmas.List.{append_cancel_right}
use Rattle.plx_words.specs.Pieces.{Piece, all_spelled}
use Rattle.plx_words.specs.Texts.{text_of}
use Rattle.plx_words.specs.Words.{line_text}
use Rattle.plx_words.specs.Words.{spaced_text, split, words_of}
use Rattle.plx_words.proofs.Clean.{All-clean, Is-clean}
use Rattle.plx_words.proofs.Spaced.{line-parts}
use Rattle.plx_words.proofs.Splits.{split-at, split-none}

-- no word has a space or a line feed
lacks : (mark : ℕ) → mark < 33 → (text : List ℕ) → Is-clean text → Each (λ (byte : ℕ). byte ≢ mark) text
lacks mark low text clean = λ k d below same. let above = clean k d below in absurd (omega arith)

-- a line without its line feed
abbrev body : List (List ℕ) → List ℕ
body [] = []
body (first ∷ others) = first ++ spaced_text others

-- each of these words may stand in a line
abbrev pub Is-line : List (List ℕ) → Type 0
Is-line [] = ⊥
Is-line (first ∷ others) = Is-clean first × All-clean others

words-body : (first : List ℕ) (others : List (List ℕ)) → Is-clean first → All-clean others → words_of (first ++ spaced_text others) ≡ first ∷ others
unfolding spaced_text
words-body first [] clean all = ap words_of (append-nil first) ∙ split-none 32 first (lacks 32 (omega arith) first clean)
words-body first (second ∷ others) clean all =
    split-at 32 _ first (second ++ spaced_text others) refl (lacks 32 (omega arith) first clean) ∙ ap (λ (words : List (List ℕ)). first ∷ words) (words-body second others all.0 all.1)

spaced-lacks : (words : List (List ℕ)) → All-clean words → Each (λ (byte : ℕ). byte ≢ 10) (spaced_text words)
unfolding spaced_text
spaced-lacks [] all = All-nil _
spaced-lacks (first ∷ words) all =
    All-append (λ (byte : ℕ). byte ≢ 10) (32 ∷ first) (spaced_text words)
    (All-cons (λ (byte : ℕ). byte ≢ 10) 32 first (λ same. omega arith) (lacks 10 (omega arith) first all.0)) (spaced-lacks words all.1)

body-words : (words : List (List ℕ)) → Is-line words → words_of (body words) ≡ words
body-words [] line = absurd line
body-words (first ∷ others) line = words-body first others line.0 line.1

body-lacks : (words : List (List ℕ)) → Is-line words → Each (λ (byte : ℕ). byte ≢ 10) (body words)
body-lacks [] line = absurd line
body-lacks (first ∷ others) line = All-append (λ (byte : ℕ). byte ≢ 10) first (spaced_text others) (lacks 10 (omega arith) first line.0) (spaced-lacks others line.1)

body-text : (words : List (List ℕ)) (rest : List ℕ) → Is-line words → line_text words ++ rest ≡ body words ++ 10 ∷ rest
body-text [] rest line = absurd line
body-text (first ∷ others) rest line = rw line-parts (simp append_assoc)

-- the lines of a text
abbrev pub Are-lines : List (List Piece) → Type 0
Are-lines [] = Unit {0}
Are-lines (line ∷ lines) = Is-line (all_spelled line) × Are-lines lines

-- the lines without their line feeds
abbrev bodies : List (List Piece) → List (List ℕ)
bodies lines = map (λ (line : List Piece). body (all_spelled line)) lines

split-text : (lines : List (List Piece)) → Are-lines lines → split 10 (text_of lines) ≡ bodies lines ++ [] ∷ []
unfolding text_of
split-text [] are = refl
split-text (line ∷ lines) are =
    split-at 10 _ (body (all_spelled line)) (text_of lines) (body-text (all_spelled line) (text_of lines) are.0) (body-lacks (all_spelled line) are.0)
    ∙ ap (λ (parts : List (List ℕ)). body (all_spelled line) ∷ parts) (split-text lines are.1)

words-bodies : (lines : List (List Piece)) → Are-lines lines → map words_of (bodies lines) ≡ map all_spelled lines
words-bodies [] are = refl
words-bodies (line ∷ lines) are = rw (body-words (all_spelled line) are.0, words-bodies lines are.1) refl

-- texts of lines are equal only where the words are
pub same-words : (lines others : List (List Piece)) → Are-lines lines → Are-lines others → text_of lines ≡ text_of others → map all_spelled lines ≡ map all_spelled others
same-words lines others are too same =
    let parts = sym (split-text lines are) ∙ (ap (split 10) same ∙ split-text others too) in
    let bodies_same = append_cancel_right (bodies lines) (bodies others) ([] ∷ []) parts in
    sym (words-bodies lines are) ∙ (ap (map words_of) bodies_same ∙ words-bodies others too)
