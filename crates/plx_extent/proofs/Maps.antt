-- Maps as bits and as bytes: each spelling is of one map, and each map has one.
use Rattle.std.proofs.Common.{◌≡◌, ◌⊎◌, inl, inr, ℕ, zero, suc, ◌+◌, ◌-◌, ◌*◌, ◌/◌, ◌%◌, ◌≤◌, ◌<◌, List, [], ◌∷◌, ◌++◌, length, get_or, take, drop, refl, ap, sym, ◌∙◌, subst, arith, Bool, false}
use Rattle.std.specs.Prelude.{◌==◌, slice_index}
use Rattle.std.proofs.lemmas.List.{get_or-take, get_or-drop, get_or_past, ext_get_or, length-take}
use Rattle.std.proofs.lemmas.Bool.{cases_lt}
use Rattle.std.proofs.lemmas.Grind.{same_number_lists}
use Rattle.std.proofs.lemmas.Nat.Bits.{bit_at-zero}
use Rattle.plx_extent.proofs.Bits.{bit_of-at, binary_number-bit, binary_number-lt, same_numbers}
use Rattle.plx_extent.specs.Maps.{HoldsMap, IsMap, bit_of, bits_from, bits_of, bytes_of_bits, map_bytes, binary_number}

-- ---- bytes of bits

pub length-bytes_of_bits : (count : ℕ) (bits : List Bool) → length (bytes_of_bits count bits) ≡ count
unfolding bytes_of_bits
length-bytes_of_bits zero bits = refl
length-bytes_of_bits (suc count) bits = ap suc (length-bytes_of_bits count (drop 8 bits))

-- each is a byte
pub bytes_of_bits-lt : (count : ℕ) (bits : List Bool) (k : ℕ) → slice_index (bytes_of_bits count bits) k < 256
unfolding bytes_of_bits
bytes_of_bits-lt zero bits k = omega arith
bytes_of_bits-lt (suc count) bits zero = binary_number-lt (take 8 bits) 8 (simp length-take (omega arith))
bytes_of_bits-lt (suc count) bits (suc k) = bytes_of_bits-lt count (drop 8 bits) k

-- a bit after the first byte
bit_of-next : (byte : ℕ) (bytes : List ℕ) (i : ℕ) → 8 ≤ i → bit_of (byte ∷ bytes) i ≡ bit_of bytes (i - 8)
bit_of-next byte bytes i h =
    let d : i / 8 ≡ suc ((i - 8) / 8) = omega arith in
    let m : i % 8 ≡ (i - 8) % 8 = omega arith in
    rw (d, m) refl

-- each bit stands at its place
pub bytes_of_bits-bit : (count : ℕ) (bits : List Bool) (i : ℕ) → i < 8 * count → bit_of (bytes_of_bits count bits) i ≡ get_or bits i false
unfolding bytes_of_bits
bytes_of_bits-bit zero bits i h = absurd (omega arith)
bytes_of_bits-bit (suc count) bits i h = go (cases_lt i 8) (λ j less. bytes_of_bits-bit count (drop 8 bits) j less)
  where
    go : (i < 8) ⊎ (8 ≤ i) → ((j : ℕ) → j < 8 * count → bit_of (bytes_of_bits count (drop 8 bits)) j ≡ get_or (drop 8 bits) j false) →
        bit_of (binary_number (take 8 bits) ∷ bytes_of_bits count (drop 8 bits)) i ≡ get_or bits i false
    go (inl low) ih =
        bit_of-at (binary_number (take 8 bits) ∷ bytes_of_bits count (drop 8 bits)) 0 i i (omega arith) low
        ∙ (binary_number-bit (take 8 bits) i ∙ get_or-take 8 bits i false low)
    go (inr high) ih =
        let e : 8 + (i - 8) ≡ i = omega arith in
        bit_of-next (binary_number (take 8 bits)) (bytes_of_bits count (drop 8 bits)) i high
        ∙ (ih (i - 8) (omega arith) ∙ (get_or-drop 8 bits (i - 8) false ∙ ap (λ j. get_or bits j false) e))

-- a bit past the end is clear
pub bit_of-past : (bytes : List ℕ) (i : ℕ) → 8 * length bytes ≤ i → bit_of bytes i ≡ false
bit_of-past bytes i h =
    let none : slice_index bytes (i / 8) ≡ 0 = get_or_past bytes (i / 8) 0 (omega arith) in
    rw none (ap (λ n. n == 1) (bit_at-zero (i % 8)))

-- bytes with the same bits are the same
pub bytes-by-bits : (xs ys : List ℕ) → length xs ≡ length ys → ((k : ℕ) → slice_index xs k < 256) → ((k : ℕ) → slice_index ys k < 256) →
    ((i : ℕ) → i < 8 * length xs → bit_of xs i ≡ bit_of ys i) → xs ≡ ys
bytes-by-bits xs ys long hx hy same = same_number_lists xs ys long (λ k below. at k below)
  where
    at : (k : ℕ) → k < length xs → slice_index xs k ≡ slice_index ys k
    at k below =
        same_numbers 8 (slice_index xs k) (slice_index ys k) (hx k) (hy k)
        (λ i less. sym (bit_of-at xs k i (8 * k + i) refl less) ∙ (same (8 * k + i) (omega arith) ∙ bit_of-at ys k i (8 * k + i) refl less))

-- ---- bits of bytes

pub length-bits_from : (count from : ℕ) (bytes : List ℕ) → length (bits_from count from bytes) ≡ count
unfolding bits_from
length-bits_from zero from bytes = refl
length-bits_from (suc count) from bytes = ap suc (length-bits_from count (suc from) bytes)

pub get_or-bits_from : (count from : ℕ) (bytes : List ℕ) (i : ℕ) → i < count → get_or (bits_from count from bytes) i false ≡ bit_of bytes (from + i)
unfolding bits_from
get_or-bits_from zero from bytes i h = absurd (omega arith)
get_or-bits_from (suc count) from bytes zero h = let e : from ≡ from + 0 = omega arith in ap (bit_of bytes) e
get_or-bits_from (suc count) from bytes (suc i) h =
    let e : suc from + i ≡ from + suc i = omega arith in
    get_or-bits_from count (suc from) bytes i (omega arith) ∙ ap (bit_of bytes) e

pub get_or-bits_of : (blocks : ℕ) (bytes : List ℕ) (i : ℕ) → i < blocks → get_or (bits_of blocks bytes) i false ≡ bit_of bytes i
get_or-bits_of blocks bytes i h =
    let e : 0 + i ≡ i = omega arith in
    get_or-bits_from blocks 0 bytes i h ∙ ap (bit_of bytes) e

-- bits in two parts
pub bits_from-add : (m n from : ℕ) (bytes : List ℕ) → bits_from (m + n) from bytes ≡ bits_from m from bytes ++ bits_from n (from + m) bytes
unfolding bits_from
bits_from-add zero n from bytes =
    let a : 0 + n ≡ n = omega arith in
    let b : from ≡ from + 0 = omega arith in
    ap (λ k. bits_from k from bytes) a ∙ ap (λ k. bits_from n k bytes) b
bits_from-add (suc m) n from bytes =
    let a : suc m + n ≡ suc (m + n) = omega arith in
    let b : suc from + m ≡ from + suc m = omega arith in
    ap (λ k. bits_from k from bytes) a
    ∙ ap (λ xs. bit_of bytes from ∷ xs) (bits_from-add m n (suc from) bytes ∙ ap (λ k. bits_from m (suc from) bytes ++ bits_from n k bytes) b)

-- ---- maps

pub length-map_bytes : (bits : List Bool) → length (map_bytes bits) ≡ 4096
unfolding map_bytes
length-map_bytes bits = length-bytes_of_bits 4096 bits

pub map_bytes-lt : (bits : List Bool) (k : ℕ) → slice_index (map_bytes bits) k < 256
unfolding map_bytes
map_bytes-lt bits k = bytes_of_bits-lt 4096 bits k

-- a bit of the block that spells a map
pub map_bytes-bit : (bits : List Bool) (i : ℕ) → length bits ≤ 32768 → bit_of (map_bytes bits) i ≡ get_or bits i false
unfolding map_bytes
map_bytes-bit bits i most = go (cases_lt i 32768)
  where
    go : (i < 32768) ⊎ (32768 ≤ i) → bit_of (bytes_of_bits 4096 bits) i ≡ get_or bits i false
    go (inl low) = bytes_of_bits-bit 4096 bits i low
    go (inr high) = bit_of-past (bytes_of_bits 4096 bits) i (rw (length-bytes_of_bits 4096 bits) high) ∙ sym (get_or_past bits i false (omega arith))

-- a map is read back from its spelling
pub bits-back : (bits : List Bool) (blocks : ℕ) → length bits ≡ blocks → blocks ≤ 32768 → bits_of blocks (map_bytes bits) ≡ bits
bits-back bits blocks long most =
    let full = length-bits_from blocks 0 (map_bytes bits) in
    ext_get_or false (bits_of blocks (map_bytes bits)) bits (full ∙ sym long)
    (λ i less. get_or-bits_of blocks (map_bytes bits) i (omega (arith, full, less)) ∙ map_bytes-bit bits i (omega arith))

-- a block whose bits past the extent are clear is spelled by those before
pub bytes-back : (blocks : ℕ) (bytes : List ℕ) → blocks ≤ 32768 → length bytes ≡ 4096 → ((k : ℕ) → slice_index bytes k < 256) →
    ((i : ℕ) → blocks ≤ i → bit_of bytes i ≡ false) → bytes ≡ map_bytes (bits_of blocks bytes)
bytes-back blocks bytes most full small past =
    bytes-by-bits bytes (map_bytes bits) (full ∙ sym (length-map_bytes bits)) small (map_bytes-lt bits) (λ i less. at i (cases_lt i blocks))
  where
    bits : List Bool
    bits = bits_of blocks bytes

    long : length bits ≡ blocks
    long = length-bits_from blocks 0 bytes

    at : (i : ℕ) → (i < blocks) ⊎ (blocks ≤ i) → bit_of bytes i ≡ bit_of (map_bytes bits) i
    at i (inl low) = sym (map_bytes-bit bits i (omega (arith, long)) ∙ get_or-bits_of blocks bytes i low)
    at i (inr high) = past i high ∙ sym (map_bytes-bit bits i (omega (arith, long)) ∙ get_or_past bits i false (omega (arith, long)))

-- the bits of bytes that spell a map
pub has-map : (blocks : ℕ) (bits : List Bool) (bytes : List ℕ) → blocks ≤ 32768 → IsMap blocks bits → bytes ≡ map_bytes bits → bits_of blocks bytes ≡ bits
has-map blocks bits bytes most is same = ap (bits_of blocks) same ∙ bits-back bits blocks is.long most

-- and what such bytes keep true
pub holds-map : (blocks : ℕ) (bits : List Bool) (bytes : List ℕ) → blocks ≤ 32768 → IsMap blocks bits → bytes ≡ map_bytes bits → HoldsMap blocks bytes
holds-map blocks bits bytes most is same =
    let back = has-map blocks bits bytes most is same in
    let P : List Bool → Type 0 = λ xs. IsMap blocks xs in
    record { most = most; is = subst P (sym back) is; spelled = same ∙ ap map_bytes (sym back) }

-- a map has a block, its own
pub map-least : (blocks : ℕ) (bits : List Bool) → IsMap blocks bits → 1 ≤ blocks
map-least blocks [] h = let bad = h.own in cc
map-least blocks (own ∷ bits) h = let long = h.long in omega arith

-- two maps that are spelled alike are one
pub same-maps : (blocks : ℕ) (xs ys : List Bool) → blocks ≤ 32768 → IsMap blocks xs → IsMap blocks ys → map_bytes xs ≡ map_bytes ys → xs ≡ ys
same-maps blocks xs ys most hx hy same = sym (bits-back xs blocks hx.long most) ∙ (ap (bits_of blocks) same ∙ bits-back ys blocks hy.long most)

-- past the extent no bit is set of bytes that spell its map
pub past-clear : (blocks : ℕ) (bits : List Bool) (bytes : List ℕ) → blocks ≤ 32768 → IsMap blocks bits → bytes ≡ map_bytes bits → (bit : ℕ) → blocks ≤ bit → bit_of bytes bit ≡ false
past-clear blocks bits bytes most is same bit high =
    let long = is.long in
    ap (λ xs. bit_of xs bit) same ∙ (map_bytes-bit bits bit (omega arith) ∙ get_or_past bits bit false (omega arith))
