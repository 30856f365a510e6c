-- A word that was spelled has its value.
use Rattle.std.proofs.Common.{◌≡◌, ◌<◌, ◌^◌, ◌+◌, ◌*◌, ◌/◌, ◌%◌, ℕ, Bool, true, false, nat_eq, lit<, List, [], ◌∷◌, codes, decimal, flat_map, refl, ap, arith}
use Rattle.std.proofs.lemmas.Bool.Decides.{nat_tests}
use Rattle.std.proofs.lemmas.Fmt.{decimal_is_IsNumeral_wide}
use Rattle.std.proofs.lemmas.List.Elements.{All-head, All-tail}
use Rattle.std.proofs.lemmas.Slice.Eq.{bytes_eq-Decides}
use Rattle.std.specs.List.{All as Each}
use Rattle.std.specs.Prelude.{if◌then◌else◌}
use Rattle.std.specs.Str.{bytes_eq}
use Rattle.std.specs.Str.Parse.{digits_value}
use Rattle.plx_base.specs.Labels.{IsLabel}
use Rattle.plx_base.specs.declared.payload.Payload.{Payload}
use Rattle.plx_base.specs.declared.payload.Payload.TheVariants.{All, Whole}
use Rattle.plx_words.proofs.Clean.{all_bounded, line-tells}
use Rattle.plx_words.specs.Candidates.{data_of, digit_of, hex_bytes, label_in}
use Rattle.plx_words.specs.Pieces.{AllTell, IsData, Piece, Spell, all_spelled, data_spelled, flag, hex_byte, hex_digit, label_spelled}

-- a number
pub value : (n : ℕ) → n < 10 ^ 64 → digits_value 10 (decimal n) ≡ n
value n fits = (decimal_is_IsNumeral_wide n fits).1

-- 1 or 0
pub bit-value : (bit : Bool) → nat_eq (digits_value 10 (decimal (flag bit))) 1 ≡ bit
bit-value true = rw (value 1 (lit< tt)) refl
bit-value false = rw (value 0 (lit< tt)) refl

-- a digit, a byte and bytes
digit-value : (digit : ℕ) → digit < 16 → digit_of (hex_digit digit) ≡ digit
digit-value digit fits = grind (arith, nat_tests)

byte-value : (byte : ℕ) → byte < 256 → 16 * digit_of (hex_digit (byte / 16)) + digit_of (hex_digit (byte % 16)) ≡ byte
byte-value byte fits = rw (digit-value (byte / 16) (omega arith), digit-value (byte % 16) (omega arith)) (omega arith)

bytes-value : (bytes : List ℕ) → Each (λ (byte : ℕ). byte < 256) bytes → hex_bytes (flat_map hex_byte bytes) ≡ bytes
bytes-value [] fits = refl
bytes-value (byte ∷ bytes) fits =
    rw (byte-value byte (All-head (λ (b : ℕ). b < 256) byte bytes fits), bytes-value bytes (All-tail (λ (b : ℕ). b < 256) byte bytes fits)) refl

-- the bytes of a block
pub data-value : (payload : Payload) → IsData payload → data_of (data_spelled payload) ≡ payload
data-value (All byte) fits = ap (λ b. All b) (byte-value byte fits)
data-value (Whole block) fits = ap (λ b. Whole b) (bytes-value block fits.1)

by_false : {A : Type 0} (test : Bool) (one other : A) → (test ≡ true → ⊥) → (if test then one else other) ≡ other
by_false true one other told = absurd (told refl)
by_false false one other told = refl

-- a label
pub label-value : (bytes : List ℕ) → IsLabel bytes → label_in (label_spelled bytes) ≡ bytes
label-value [] fits = refl
label-value (byte ∷ bytes) fits =
    by_false (bytes_eq (byte ∷ bytes) (codes "-")) [] (byte ∷ bytes) (λ told. fits.no_hyphen ((bytes_eq-Decides (byte ∷ bytes) (codes "-")).0 told))

-- words that tell the values of these pieces
abbrev pub Tell : List Piece → List (List ℕ) → Type 0
Tell pieces words = AllTell pieces × (words ≡ all_spelled pieces)

-- words within limits that are bounded do
pub spells-tell : (pieces : List Piece) (words : List (List ℕ)) → all_bounded pieces ≡ true → Spell pieces words → Tell pieces words
spells-tell pieces words test spells = (line-tells pieces test spells.0, spells.1)
