-- The words that are written.
use Rattle.std.specs.Prelude.{◌≡◌, ℕ, ◌^◌, List, ◌++◌}
use Rattle.plx_base.specs.Canonical.{payload_of}
use Rattle.plx_base.specs.Payload.{bytes_of}
use Rattle.plx_words.specs.Pieces.{AllTell, Piece, all_spelled, data_word, flag, label, named, number, word}
use Rattle.plx_words.specs.Texts.{LinesTell, text_of}
use Rattle.plx_words.specs.Words.{line_text, spaced_text}
use Rattle.plx_words.specs.declared.text.Word.{Word}
use Rattle.plx_words.specs.declared.text.Word.TheVariants as written

-- the piece that a word to be written is. Data is written by one byte exactly where all bytes are equal
abbrev pub piece_of : Word → Piece
piece_of (written.Plain letters) = word letters.now
piece_of (written.Number n) = number 0 (2 ^ 64) n
piece_of (written.Small n) = number 0 (2 ^ 32) n
piece_of (written.Named name n) = named name.now (2 ^ 64) n
piece_of (written.NamedSmall name n) = named name.now (2 ^ 32) n
piece_of (written.NamedWide name n) = named name.now (2 ^ 128) n
piece_of (written.Flag name bit) = named name.now 2 (flag bit)
piece_of (written.Label name label') = label name.now label'.now
piece_of (written.Data payload) = data_word (payload_of (bytes_of payload.now))

-- these words were put at the end of a text, each after a space, and they tell their values
pub record AddsWords (old new : List ℕ) (pieces : List Piece) : Type 0 where
  pub text : new ≡ old ++ spaced_text (all_spelled pieces)
  pub tells : AllTell pieces

-- this line was put at the end of a text, and its words tell their values
pub record AddsLine (old new : List ℕ) (pieces : List Piece) : Type 0 where
  pub text : new ≡ old ++ line_text (all_spelled pieces)
  pub tells : AllTell pieces

-- these lines were put at the end of a text, and their words tell their values
pub record AddsLines (old new : List ℕ) (lines : List (List Piece)) : Type 0 where
  pub text : new ≡ old ++ text_of lines
  pub tells : LinesTell lines
