-- Words without a space and without a line feed.
use Rattle.std.proofs.Common.{◌≡◌, ◌≤◌, ◌<◌, ◌+◌, ◌%◌, ◌/◌, ◌^◌, ℕ, Bool, true, ◌&&◌, List, [], ◌∷◌, ◌++◌, get_or, codes, decimal, flat_map, refl, arith}
use Rattle.std.specs.List.{All as Each}
use Rattle.std.specs.Prelude.{leb}
use Rattle.std.proofs.lemmas.Bool.{leb-true}
use Rattle.std.proofs.lemmas.Bool.Decides.{nat_tests}
use Rattle.std.proofs.lemmas.Fmt.{decimal_by_steps_wide}
use Rattle.std.proofs.lemmas.List.Elements.{All-nil, All-cons, All-append}
use Rattle.plx_base.specs.Labels.{IsLabel}
use Rattle.plx_base.specs.declared.payload.Payload.{Payload}
use Rattle.plx_base.specs.declared.payload.Payload.TheVariants.{All, Whole}
use Rattle.plx_base.proofs.Tests.{and-parts}
use Rattle.plx_words.specs.Pieces.{AllFit, AllTell, FitsPiece, Piece, Tells, all_spelled, data_spelled, data_word, hex_byte, hex_digit, label, label_spelled, named, number, piece_text, unspelled, word}

-- each byte is printable
abbrev pub Is-clean : List ℕ → Type 0
Is-clean text = Each (λ (byte : ℕ). 33 ≤ byte) text

-- the same of a word that is written out, by a test that computes
abbrev pub clean : List ℕ → Bool
clean [] = true
clean (byte ∷ text) = leb 33 byte && clean text

pub clean-word : (text : List ℕ) → clean text ≡ true → Is-clean text
clean-word [] test = All-nil _
clean-word (byte ∷ text) test =
    let parts = and-parts (leb 33 byte) (clean text) test in
    All-cons (λ (b : ℕ). 33 ≤ b) byte text (leb-true 33 byte parts.0) (clean-word text parts.1)

clean-append : (one other : List ℕ) → Is-clean one → Is-clean other → Is-clean (one ++ other)
clean-append one other here there = All-append (λ (b : ℕ). 33 ≤ b) one other here there

clean-one : (byte : ℕ) → 33 ≤ byte → Is-clean (byte ∷ [])
clean-one byte above = All-cons (λ (b : ℕ). 33 ≤ b) byte [] above (All-nil _)

clean-decimal : (n : ℕ) → n < 10 ^ 64 → Is-clean (decimal n)
clean-decimal n fits =
    decimal_by_steps_wide (λ n digits. Is-clean digits) (λ n below. clean-one (48 + n) (omega arith))
    (λ n digits above told. clean-append digits ((48 + n % 10) ∷ []) told (clean-one (48 + n % 10) (omega arith))) n fits

clean-digit : (value : ℕ) → 33 ≤ hex_digit value
clean-digit value = grind (arith, nat_tests)

clean-byte : (byte : ℕ) → Is-clean (hex_byte byte)
clean-byte byte = clean-append (hex_digit (byte / 16) ∷ []) (hex_digit (byte % 16) ∷ []) (clean-one _ (clean-digit (byte / 16))) (clean-one _ (clean-digit (byte % 16)))

clean-bytes : (bytes : List ℕ) → Is-clean (flat_map hex_byte bytes)
clean-bytes [] = All-nil _
clean-bytes (byte ∷ bytes) = clean-append (hex_byte byte) (flat_map hex_byte bytes) (clean-byte byte) (clean-bytes bytes)

clean-data : (payload : Payload) → Is-clean (data_spelled payload)
clean-data (All byte) = clean-append (codes "all:") (hex_byte byte) (clean-word (codes "all:") refl) (clean-byte byte)
clean-data (Whole block) = clean-append (codes "hex:") (flat_map hex_byte block) (clean-word (codes "hex:") refl) (clean-bytes block)

clean-label : (bytes : List ℕ) → IsLabel bytes → Is-clean (label_spelled bytes)
clean-label [] fits = clean-word (codes "-") refl
clean-label (byte ∷ bytes) fits = λ k d below.
    let at = get_or (byte ∷ bytes) k d in
    leb-true 33 at (and-parts (leb 33 at) (leb at 126) (fits.printable k d below)).0

-- the words that are written out in a line are clean
abbrev sound : Piece → Bool
sound (word letters) = clean letters
sound (number least limit n) = true
sound (named name limit n) = clean name
sound (label name bytes) = clean name
sound (data_word payload) = true
sound unspelled = true

-- whether each piece has only its letters
abbrev pub all_sound : List Piece → Bool
all_sound [] = true
all_sound (piece ∷ pieces) = sound piece && all_sound pieces

clean-piece : (piece : Piece) → sound piece ≡ true → Tells piece → Is-clean (piece_text piece)
clean-piece (word letters) test tells = clean-word letters test
clean-piece (number least limit n) test tells = clean-decimal n tells
clean-piece (named name limit n) test tells = clean-append name (decimal n) (clean-word name test) (clean-decimal n tells)
clean-piece (label name bytes) test tells = clean-append name (label_spelled bytes) (clean-word name test) (clean-label bytes tells)
clean-piece (data_word payload) test tells = clean-data payload
clean-piece unspelled test tells = absurd tells

-- each of these words is clean
abbrev pub All-clean : List (List ℕ) → Type 0
All-clean [] = Unit {0}
All-clean (text ∷ texts) = Is-clean text × All-clean texts

pub clean-line : (pieces : List Piece) → all_sound pieces ≡ true → AllTell pieces → All-clean (all_spelled pieces)
clean-line [] test tells = tt
clean-line (piece ∷ pieces) test tells =
    let parts = and-parts (sound piece) (all_sound pieces) test in
    (clean-piece piece parts.0 tells.0, clean-line pieces parts.1 tells.1)

-- the numbers of a line have at most 64 digits, by their limits
abbrev has_bounded_numbers : Piece → Bool
has_bounded_numbers (number least limit n) = leb limit (10 ^ 64)
has_bounded_numbers (named name limit n) = leb limit (10 ^ 64)
has_bounded_numbers other = true

-- whether each piece is within its limits
abbrev pub all_bounded : List Piece → Bool
all_bounded [] = true
all_bounded (piece ∷ pieces) = has_bounded_numbers piece && all_bounded pieces

fits-tells : (piece : Piece) → has_bounded_numbers piece ≡ true → FitsPiece piece → Tells piece
fits-tells (word letters) test fits = tt
fits-tells (number least limit n) test fits = let low = leb-true limit (10 ^ 64) test in omega arith
fits-tells (named name limit n) test fits = let low = leb-true limit (10 ^ 64) test in omega arith
fits-tells (label name bytes) test fits = fits
fits-tells (data_word payload) test fits = fits
fits-tells unspelled test fits = fits

-- a line within such limits tells its values
pub line-tells : (pieces : List Piece) → all_bounded pieces ≡ true → AllFit pieces → AllTell pieces
line-tells [] test fits = tt
line-tells (piece ∷ pieces) test fits =
    let parts = and-parts (has_bounded_numbers piece) (all_bounded pieces) test in
    (fits-tells piece parts.0 fits.0, line-tells pieces parts.1 fits.1)
