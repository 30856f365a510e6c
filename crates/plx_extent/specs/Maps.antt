-- Maps of extents: a bit for each block of an extent, set where the block is taken, and how they are spelled.
use Rattle.std.specs.Prelude.{◌≡◌, ◌+◌, ◌*◌, ◌/◌, ◌%◌, ◌^◌, ◌≤◌, ◌==◌, ◌&&◌, ◌||◌, ℕ, zero, suc, List, [], ◌∷◌, take, drop, length, replicate, Bool, true, false, Some, slice_get, slice_index, count_by, if◌then◌else◌}

-- the number whose binary digits these bits are, the lowest first
abbrev pub binary_number : List Bool → ℕ
binary_number [] = 0
binary_number (bit ∷ bits) = (if bit then 1 else 0) + 2 * binary_number bits

-- so many bytes that hold bits, eight bits a byte, the lowest first; where the bits are over, the rest is clear
unfoldable pub bytes_of_bits : (count : ℕ) → List Bool → List ℕ
bytes_of_bits zero bits = []
bytes_of_bits (suc count) bits = binary_number (take 8 bits) ∷ bytes_of_bits count (drop 8 bits)

-- the block that spells a map
unfoldable pub map_bytes : List Bool → List ℕ
map_bytes bits = bytes_of_bits 4096 bits

-- the bits are a map of so many blocks: one for each block, and that of the first, which is the map's own, is set
pub record IsMap (blocks : ℕ) (bits : List Bool) : Type 0 where
  pub long : length bits ≡ blocks
  pub own : slice_get bits 0 ≡ Some true

-- a bit of bytes, counted from the lowest bit of the first byte
abbrev pub bit_of : List ℕ → ℕ → Bool
bit_of bytes bit = slice_index bytes (bit / 8) / 2 ^ (bit % 8) % 2 == 1

-- so many bits of bytes, from that one on
unfoldable pub bits_from : (count from : ℕ) → List ℕ → List Bool
bits_from zero from bytes = []
bits_from (suc count) from bytes = bit_of bytes from ∷ bits_from count (suc from) bytes

-- the bits that a block has for an extent of so many blocks
abbrev pub bits_of : (blocks : ℕ) → List ℕ → List Bool
bits_of blocks bytes = bits_from blocks 0 bytes

-- how many blocks are taken beside the map's own
abbrev pub allocated_count : List Bool → ℕ
allocated_count bits = count_by (λ bit. bit) (drop 1 bits)

-- whether a bit stays set where only marked blocks stay taken: it is marked, or the map's own
abbrev pub is_kept : (is_marked : ℕ → Bool) → ℕ → Bool
is_kept is_marked bit = (bit == 0) || is_marked bit

-- bits from that one on, of which only those stay set that are marked or the map's own
unfoldable pub kept_bits : (is_marked : ℕ → Bool) (from : ℕ) → List Bool → List Bool
kept_bits is_marked from [] = []
kept_bits is_marked from (bit ∷ bits) = (bit && is_kept is_marked from) ∷ kept_bits is_marked (suc from) bits

-- a map in which only marked blocks stay taken, and the map's own
abbrev pub kept_map : (is_marked : ℕ → Bool) → List Bool → List Bool
kept_map is_marked bits = kept_bits is_marked 0 bits

-- the map of an extent of which no block is taken
abbrev pub empty_bits : (blocks : ℕ) → List Bool
empty_bits zero = []
empty_bits (suc blocks) = true ∷ replicate blocks false

-- bytes hold a map of so many blocks: they spell the bits that they have for it
pub record HoldsMap (blocks : ℕ) (bytes : List ℕ) : Type 0 where
  pub most : blocks ≤ 32768
  pub is : IsMap blocks (bits_of blocks bytes)
  pub spelled : bytes ≡ map_bytes (bits_of blocks bytes)
