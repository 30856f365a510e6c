-- Which bytes are a label.
use Rattle.std.specs.Prelude.{◌≡◌, ◌≤◌, ℕ, Bool, ◌&&◌, not, leb, nat_le, List, [], ◌∷◌, length}
use Rattle.std.specs.List.{AllPass, list_all}
use Rattle.std.specs.Str.{bytes_eq}

-- whether a byte is printable and no blank
abbrev pub is_label_byte : ℕ → Bool
is_label_byte byte = leb 33 byte && leb byte 126

-- at most 32 such bytes, and not a lone hyphen
pub record IsLabel (bytes : List ℕ) : Type 0 where
  pub short : length bytes ≤ 32
  pub printable : AllPass is_label_byte bytes
  pub no_hyphen : ¬ (bytes ≡ 45 ∷ [])

-- bytes are a label, tested
abbrev pub is_label : List ℕ → Bool
is_label bytes =
    nat_le (length bytes) 32 && (list_all is_label_byte bytes && not (bytes_eq bytes (45 ∷ [])))
