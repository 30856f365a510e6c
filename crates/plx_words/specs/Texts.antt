-- Texts of several lines.
use Rattle.std.specs.Prelude.{ℕ, List, [], ◌∷◌, flat_map}
use Rattle.plx_words.specs.Pieces.{AllTell, Piece, all_spelled}
use Rattle.plx_words.specs.Words.{line_text}

-- the text of lines, by their pieces
unfoldable pub text_of : List (List Piece) → List ℕ
text_of lines = flat_map (λ line. line_text (all_spelled line)) lines

-- the words of the lines tell their values
abbrev pub LinesTell : List (List Piece) → Type 0
LinesTell [] = Unit {0}
LinesTell (line ∷ lines) = AllTell line × LinesTell lines
