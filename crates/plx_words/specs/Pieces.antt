-- The pieces of which lines are made. Each is one word.
use Rattle.std.specs.Prelude.{◌≡◌, ◌≤◌, ◌<◌, ◌^◌, ◌+◌, ◌/◌, ◌%◌, nat_lt, if◌then◌else◌, ℕ, Bool, true, false, List, [], ◌∷◌, ◌++◌, length, codes, decimal, flat_map}
use Rattle.std.specs.List.{All as Each}
use Rattle.plx_base.specs.Labels.{IsLabel}
use Rattle.plx_base.specs.declared.payload.Payload.{Payload}
use Rattle.plx_base.specs.declared.payload.Payload.TheVariants.{All, Whole}

-- a word that stands for itself; a number from a least one on and below a limit; a name and a number below a limit;
-- a name and a label; the bytes of a block; what no word spells
pub data Piece : Type 0 where
  word : List ℕ → Piece
  number : ℕ → ℕ → ℕ → Piece
  named : List ℕ → ℕ → ℕ → Piece
  label : List ℕ → List ℕ → Piece
  data_word : Payload → Piece
  unspelled : Piece

-- a number below 2^32
abbrev pub small : ℕ → Piece
small n = number 0 (2 ^ 32) n

-- 1 where something holds, else 0
abbrev pub flag : Bool → ℕ
flag true = 1
flag false = 0

-- a digit of base 16, 0 to 9 and a to f
abbrev pub hex_digit : ℕ → ℕ
hex_digit digit = if nat_lt digit 10 then 48 + digit else 87 + digit

-- a byte as two digits
abbrev pub hex_byte : ℕ → List ℕ
hex_byte byte = hex_digit (byte / 16) ∷ hex_digit (byte % 16) ∷ []

-- one byte throughout, or all bytes
abbrev pub data_spelled : Payload → List ℕ
data_spelled (All byte) = codes "all:" ++ hex_byte byte
data_spelled (Whole block) = codes "hex:" ++ flat_map hex_byte block

-- the limits of what a block holds
abbrev pub IsData : Payload → Type 0
IsData (All byte) = byte < 256
IsData (Whole block) = (length block ≡ 4096) × Each (λ byte. byte < 256) block

-- a label: a hyphen where it is empty
abbrev pub label_spelled : List ℕ → List ℕ
label_spelled [] = codes "-"
label_spelled (byte ∷ bytes) = byte ∷ bytes

-- the limits of a piece
abbrev pub FitsPiece : Piece → Type 0
FitsPiece (word letters) = Unit {0}
FitsPiece (number least limit n) = (least ≤ n) × (n < limit)
FitsPiece (named name limit n) = n < limit
FitsPiece (label name bytes) = IsLabel bytes
FitsPiece (data_word payload) = IsData payload
FitsPiece unspelled = ⊥

-- its word
abbrev pub piece_text : Piece → List ℕ
piece_text (word letters) = letters
piece_text (number least limit n) = decimal n
piece_text (named name limit n) = name ++ decimal n
piece_text (label name bytes) = name ++ label_spelled bytes
piece_text (data_word payload) = data_spelled payload
piece_text unspelled = []

-- its word tells its value: a number has at most 64 digits, a label is one, and so is a block
abbrev pub Tells : Piece → Type 0
Tells (word letters) = Unit {0}
Tells (number least limit n) = n < 10 ^ 64
Tells (named name limit n) = n < 10 ^ 64
Tells (label name bytes) = IsLabel bytes
Tells (data_word payload) = IsData payload
Tells unspelled = ⊥

-- the words of all pieces tell their values
abbrev pub AllTell : List Piece → Type 0
AllTell [] = Unit {0}
AllTell (piece ∷ pieces) = Tells piece × AllTell pieces

-- all pieces are within their limits
abbrev pub AllFit : List Piece → Type 0
AllFit [] = Unit {0}
AllFit (piece ∷ pieces) = FitsPiece piece × AllFit pieces

-- the words of the pieces
abbrev pub all_spelled : List Piece → List (List ℕ)
all_spelled [] = []
all_spelled (piece ∷ pieces) = piece_text piece ∷ all_spelled pieces

-- these words spell the pieces
abbrev pub Spell : List Piece → List (List ℕ) → Type 0
Spell pieces words = AllFit pieces × (words ≡ all_spelled pieces)
