-- The map of an extent of which no block is taken.
use Rattle.std.proofs.Common.{◌≡◌, ℕ, zero, suc, ◌+◌, ◌≤◌, List, [], ◌∷◌, get_or, take, drop, replicate, refl, ap, ◌∙◌, arith, Bool, true, false}
use Rattle.std.proofs.lemmas.List.{get_or-drop, length-replicate}
use Rattle.plx_extent.specs.Maps.{IsMap, bytes_of_bits, empty_bits, map_bytes, binary_number}

-- no bit is set
abbrev AreClear : List Bool → Type 0
AreClear bits = (i : ℕ) → get_or bits i false ≡ false

clear-replicate : (n : ℕ) → AreClear (replicate n false)
clear-replicate zero i = refl
clear-replicate (suc n) zero = refl
clear-replicate (suc n) (suc i) = clear-replicate n i

clear-take : (n : ℕ) (bits : List Bool) → AreClear bits → AreClear (take n bits)
clear-take zero bits h i = refl
clear-take (suc n) [] h i = refl
clear-take (suc n) (bit ∷ bits) h zero = h zero
clear-take (suc n) (bit ∷ bits) h (suc i) = clear-take n bits (λ j. h (suc j)) i

binary_number-clear : (bits : List Bool) → AreClear bits → binary_number bits ≡ 0
binary_number-clear [] h = refl
binary_number-clear (bit ∷ bits) h = rw (h zero, binary_number-clear bits (λ i. h (suc i))) refl

bytes_of_bits-clear : (count : ℕ) (bits : List Bool) → AreClear bits → bytes_of_bits count bits ≡ replicate count 0
unfolding bytes_of_bits
bytes_of_bits-clear zero bits h = refl
bytes_of_bits-clear (suc count) bits h =
    rw (binary_number-clear (take 8 bits) (clear-take 8 bits h), bytes_of_bits-clear count (drop 8 bits) (λ i. get_or-drop 8 bits i false ∙ h (8 + i))) refl

bytes_of_bits-empty : (count blocks : ℕ) → bytes_of_bits (suc count) (true ∷ replicate blocks false) ≡ 1 ∷ replicate count 0
unfolding bytes_of_bits
bytes_of_bits-empty count blocks =
    let rest = replicate blocks false in
    let clear = clear-replicate blocks in
    rw (binary_number-clear (take 7 rest) (clear-take 7 rest clear), bytes_of_bits-clear count (drop 7 rest) (λ i. get_or-drop 7 rest i false ∙ clear (7 + i))) refl

-- its spelling is a byte with the lowest bit, and zeros
pub map_bytes-empty : (blocks : ℕ) → 1 ≤ blocks → map_bytes (empty_bits blocks) ≡ 1 ∷ replicate 4095 0
unfolding map_bytes
map_bytes-empty zero h = absurd (omega arith)
map_bytes-empty (suc blocks) h = bytes_of_bits-empty 4095 blocks

pub is_map-empty : (blocks : ℕ) → 1 ≤ blocks → IsMap blocks (empty_bits blocks)
is_map-empty zero h = absurd (omega arith)
is_map-empty (suc blocks) h = record { long = ap suc (length-replicate {A = Bool} blocks false); own = refl }
