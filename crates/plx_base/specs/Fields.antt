-- Numbers as bytes, the lowest byte first.
use Rattle.std.specs.Prelude.{ℕ, zero, suc, ◌+◌, ◌*◌, ◌/◌, ◌%◌, List, [], ◌∷◌, slice_index}

-- the lowest bytes of a number, as many as the width says
unfoldable pub little : (width number : ℕ) → List ℕ
little zero number = []
little (suc width) number = number % 256 ∷ little width (number / 256)

-- the number of that width which stands at that place of the bytes
unfoldable pub number_at : (width place : ℕ) → List ℕ → ℕ
number_at zero place bytes = 0
number_at (suc width) place bytes =
    slice_index bytes place + 256 * number_at width (suc place) bytes
