-- Words in a line, and lines in a text.
use Rattle.std.proofs.Common.{◌≡◌, ◌+◌, ◌<◌, ◌∙◌, ℕ, List, [], ◌∷◌, ◌++◌, length, map, take, get_or, refl, ap, sym, append-nil, append_assoc}
use Rattle.std.proofs.lemmas.List.{map-append, take_more}
use Rattle.plx_words.specs.Pieces.{AllTell, Tells, Piece, all_spelled, piece_text, word}
use Rattle.plx_words.specs.Texts.{LinesTell, text_of}
use Rattle.plx_words.specs.Written.{AddsLine, AddsLines, AddsWords}
use Rattle.plx_words.specs.Words.{line_text}
use Rattle.plx_words.specs.Words.{spaced_text}

pub spaced-append : (words others : List (List ℕ)) → spaced_text (words ++ others) ≡ spaced_text words ++ spaced_text others
unfolding spaced_text
spaced-append [] others = refl
spaced-append (first ∷ words) others = ap (λ (text : List ℕ). 32 ∷ (first ++ text)) (spaced-append words others) ∙ sym (append_assoc (32 ∷ first) (spaced_text words) (spaced_text others))

-- no word, and one more
pub spaced-none : spaced_text [] ≡ []
unfolding spaced_text
spaced-none = refl

pub spaced-one : (last : List ℕ) → spaced_text (last ∷ []) ≡ 32 ∷ last
unfolding spaced_text
spaced-one last = simp append-nil

spelled-append : (pieces others : List Piece) → all_spelled (pieces ++ others) ≡ all_spelled pieces ++ all_spelled others
spelled-append [] others = refl
spelled-append (piece ∷ pieces) others = ap (λ (words : List (List ℕ)). piece_text piece ∷ words) (spelled-append pieces others)

tell-append : (pieces others : List Piece) → AllTell pieces → AllTell others → AllTell (pieces ++ others)
tell-append [] others here there = there
tell-append (piece ∷ pieces) others here there = (here.0, tell-append pieces others here.1 there)

-- one more piece
pub spaced-more : {A : Type 0} (piece_of : A → Piece) (words : List A) (i : ℕ) (next : A) → i < length words → get_or words i next ≡ next
    → spaced_text (all_spelled (map piece_of (take (i + 1) words))) ≡ spaced_text (all_spelled (map piece_of (take i words))) ++ 32 ∷ piece_text (piece_of next)
spaced-more piece_of words i next below e = rw (take_more words i next below, e, map-append, spelled-append)
    (spaced-append (all_spelled (map piece_of (take i words))) (piece_text (piece_of next) ∷ [])
    ∙ ap (λ (text : List ℕ). spaced_text (all_spelled (map piece_of (take i words))) ++ text) (spaced-one (piece_text (piece_of next))))

pub tell-more : {A : Type 0} (piece_of : A → Piece) (words : List A) (i : ℕ) (next : A) → i < length words → get_or words i next ≡ next
    → AllTell (map piece_of (take i words)) → Tells (piece_of next) → AllTell (map piece_of (take (i + 1) words))
tell-more piece_of words i next below e before here = rw (take_more words i next below, e, map-append) (tell-append (map piece_of (take i words)) (piece_of next ∷ []) before (here, tt))

-- a line by its parts
pub line-parts : (first : List ℕ) (others : List (List ℕ)) → line_text (first ∷ others) ≡ first ++ spaced_text others ++ 10 ∷ []
unfolding line_text
line-parts first others = refl

pub text-append : (lines others : List (List Piece)) → text_of (lines ++ others) ≡ text_of lines ++ text_of others
unfolding text_of
text-append [] others = refl
text-append (line ∷ lines) others = ap (λ (text : List ℕ). line_text (all_spelled line) ++ text) (text-append lines others) ∙ sym (append_assoc (line_text (all_spelled line)) (text_of lines) (text_of others))

pub text-none : text_of [] ≡ []
unfolding text_of
text-none = refl

pub text-one : (line : List Piece) → text_of (line ∷ []) ≡ line_text (all_spelled line)
unfolding text_of
text-one line = simp append-nil

pub text-more : {A : Type 0} (line_of : A → List Piece) (values : List A) (i : ℕ) (next : A) → i < length values → get_or values i next ≡ next
    → text_of (map line_of (take (i + 1) values)) ≡ text_of (map line_of (take i values)) ++ line_text (all_spelled (line_of next))
text-more line_of values i next below e = rw (take_more values i next below, e, map-append) (text-append (map line_of (take i values)) (line_of next ∷ []) ∙ ap (λ (text : List ℕ). text_of (map line_of (take i values)) ++ text) (text-one (line_of next)))

pub lines-tell-append : (lines others : List (List Piece)) → LinesTell lines → LinesTell others → LinesTell (lines ++ others)
lines-tell-append [] others here there = there
lines-tell-append (line ∷ lines) others here there = (here.0, lines-tell-append lines others here.1 there)

-- one more line
pub lines-more : {A : Type 0} (line_of : A → List Piece) (values : List A) (i : ℕ) (next : A) (old before after : List ℕ) → i < length values → get_or values i next ≡ next
    → AddsLines old before (map line_of (take i values)) → AddsLine before after (line_of next) → AddsLines old after (map line_of (take (i + 1) values))
lines-more line_of values i next old before after below e lines line = record {
  text = rw (line.text, lines.text, text-more line_of values i next below e) (simp append_assoc);
  tells = rw (take_more values i next below, e, map-append) (lines-tell-append (map line_of (take i values)) (line_of next ∷ []) lines.tells (line.tells, tt));
}

-- the first line, others, and the last one
pub text-parts : (first : List Piece) (lines : List (List Piece)) (final : List Piece)
    → (line_text (all_spelled first) ++ text_of lines) ++ line_text (all_spelled final) ≡ text_of (first ∷ (lines ++ final ∷ []))
text-parts first lines final =
    ap (λ (text : List ℕ). (text ++ text_of lines) ++ line_text (all_spelled final)) (sym (text-one first))
    ∙ (ap (λ (text : List ℕ). text ++ line_text (all_spelled final)) (sym (text-append (first ∷ []) lines))
    ∙ (ap (λ (text : List ℕ). text_of (first ∷ lines) ++ text) (sym (text-one final)) ∙ sym (text-append (first ∷ lines) (final ∷ []))))

-- a line that was put there by its first word, some words, and others
pub line-of-parts : (old begun middle whole after first : List ℕ) (words others : List Piece) → begun ≡ old ++ first → AddsWords begun middle words → AddsWords middle whole others
    → after ≡ whole ++ 10 ∷ [] → AddsLine old after (word first ∷ (words ++ others))
line-of-parts old begun middle whole after first words others begins here there ends = record {
  text = rw (ends, there.text, here.text, begins, line-parts, spelled-append, spaced-append) (simp append_assoc);
  tells = (tt, tell-append words others here.tells there.tells);
}
