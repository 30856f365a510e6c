-- The words of a line.
use Rattle.std.specs.Prelude.{ℕ, nat_eq, List, [], ◌∷◌, ◌++◌, flat_map, Option, Some, None}
use Rattle.std.specs.List.{slice_split}
use denote.Ref.{Bor}

-- a text is cut at each such byte
abbrev pub split : ℕ → List ℕ → List (List ℕ)
split mark text = slice_split (λ byte. nat_eq byte mark) text

-- the words of a line: it is cut at each space
abbrev pub words_of : List ℕ → List (List ℕ)
words_of line = split 32 line

-- the words of what is left of a line
abbrev pub words_left : Option (Bor (List ℕ)) → List (List ℕ)
words_left None = []
words_left (Some text) = words_of text.now

-- words, each after a space
unfoldable pub spaced_text : List (List ℕ) → List ℕ
spaced_text words = flat_map (λ word. 32 ∷ word) words

-- words with single spaces between them, and a line feed at the end
unfoldable pub line_text : List (List ℕ) → List ℕ
line_text [] = 10 ∷ []
line_text (first ∷ others) = first ++ spaced_text others ++ 10 ∷ []
