-- Changes of a map: a bit is set or cleared, or only marked blocks stay taken.
use Rattle.std.proofs.Common.{◌≡◌, ◌≢◌, ◌⊎◌, inl, inr, ℕ, zero, suc, ◌+◌, ◌*◌, ◌/◌, ◌%◌, ◌^◌, ◌≤◌, ◌<◌, List, [], ◌∷◌, length, get_or, refl, ap, sym, ◌∙◌, arith, Bool, true, false, Some}
use Rattle.std.specs.Prelude.{◌==◌, ◌&&◌, slice_index, slice_set, bit_and, bit_or}
use Rattle.std.specs.Int.{bit_at, bit_not, w8}
use Rattle.std.proofs.Math.Nat.{mod-lt}
use Rattle.std.proofs.lemmas.Bool.{cases_eq, cases_lt}
use Rattle.std.proofs.lemmas.List.{get_or-set_same, get_or-set_other, length-set, set_past}
use Rattle.std.proofs.lemmas.Nat.{and_le_l, or_lt}
use Rattle.std.proofs.lemmas.Nat.Bits.{bit_at_set_same, bit_at_set_other, bit_at_clear_same, bit_at_clear_other}
use Rattle.plx_extent.proofs.Maps.{has-map, holds-map, length-bits_from, length-map_bytes, map_bytes-bit, map_bytes-lt, bytes-by-bits}
use Rattle.plx_extent.specs.Landing.{OnlyBit}
use Rattle.plx_extent.specs.Maps.{HoldsMap, IsMap, bit_of, bits_of, is_kept, kept_bits, kept_map, map_bytes}

-- ---- one bit is changed

-- a byte with one bit changed changes that bit of the bytes alone
pub bit_of-set : (bytes : List ℕ) (k byte : ℕ) → k / 8 < length bytes → bit_of (slice_set bytes (k / 8) byte) k ≡ (bit_at byte (k % 8) == 1)
bit_of-set bytes k byte within = rw (get_or-set_same bytes (k / 8) byte 0 within) refl

pub only-bit : (bytes : List ℕ) (k byte : ℕ) → k / 8 < length bytes →
    ((i : ℕ) → i < 8 → i ≢ k % 8 → (bit_at byte i == 1) ≡ (bit_at (slice_index bytes (k / 8)) i == 1)) → OnlyBit k (slice_set bytes (k / 8) byte) bytes
only-bit bytes k byte within others i apart = go (cases_eq (i / 8) (k / 8))
  where
    go : (i / 8 ≡ k / 8) ⊎ (i / 8 ≢ k / 8) → bit_of (slice_set bytes (k / 8) byte) i ≡ bit_of bytes i
    go (inl same) =
        rw (same, get_or-set_same bytes (k / 8) byte 0 within) (others (i % 8) (omega arith) (λ e. apart (omega (arith, e, same))))
    go (inr other) = rw (get_or-set_other bytes (k / 8) (i / 8) byte 0 other) refl

-- a byte of bytes of which one was changed
set-lt : (bytes : List ℕ) (k byte : ℕ) → ((j : ℕ) → slice_index bytes j < 256) → byte < 256 → (j : ℕ) → slice_index (slice_set bytes k byte) j < 256
set-lt bytes k byte h small j = go (cases_eq j k) (cases_lt k (length bytes))
  where
    go : (j ≡ k) ⊎ (j ≢ k) → (k < length bytes) ⊎ (length bytes ≤ k) → slice_index (slice_set bytes k byte) j < 256
    go (inr other) within = rw (get_or-set_other bytes k j byte 0 other) (h j)
    go (inl same) (inl within) = rw (same, get_or-set_same bytes k byte 0 within) small
    go (inl same) (inr past) = rw (set_past bytes k byte past) (h j)

-- the spellings of two maps that differ in one bit differ in that bit
pub map_bytes-only : (bits : List Bool) (k : ℕ) (b : Bool) → length bits ≤ 32768 → OnlyBit k (map_bytes (slice_set bits k b)) (map_bytes bits)
map_bytes-only bits k b most i apart =
    map_bytes-bit (slice_set bits k b) i (rw (length-set bits k b) most)
    ∙ (get_or-set_other bits k i b false apart ∙ sym (map_bytes-bit bits i most))

-- a bit is changed in its byte
pub map_bytes-set : (bits : List Bool) (k byte : ℕ) (b : Bool) → k < length bits → length bits ≤ 32768 → byte < 256 → (bit_at byte (k % 8) == 1) ≡ b →
    ((i : ℕ) → i < 8 → i ≢ k % 8 → (bit_at byte i == 1) ≡ (bit_at (slice_index (map_bytes bits) (k / 8)) i == 1)) →
    slice_set (map_bytes bits) (k / 8) byte ≡ map_bytes (slice_set bits k b)
map_bytes-set bits k byte b below most small here others =
    bytes-by-bits (slice_set (map_bytes bits) (k / 8) byte) (map_bytes (slice_set bits k b))
    (length-set (map_bytes bits) (k / 8) byte ∙ (full ∙ sym (length-map_bytes (slice_set bits k b))))
    (set-lt (map_bytes bits) (k / 8) byte (map_bytes-lt bits) small) (map_bytes-lt (slice_set bits k b))
    (λ i less. at i (cases_eq i k))
  where
    full : length (map_bytes bits) ≡ 4096
    full = length-map_bytes bits

    within : k / 8 < length (map_bytes bits)
    within = omega (arith, full)

    at : (i : ℕ) → (i ≡ k) ⊎ (i ≢ k) → bit_of (slice_set (map_bytes bits) (k / 8) byte) i ≡ bit_of (map_bytes (slice_set bits k b)) i
    at i (inl same) =
        rw same
        (bit_of-set (map_bytes bits) k byte within
        ∙ (here ∙ sym (map_bytes-bit (slice_set bits k b) k (rw (length-set bits k b) most) ∙ get_or-set_same bits k b false below)))
    at i (inr apart) = only-bit (map_bytes bits) k byte within others i apart ∙ sym (map_bytes-only bits k b most i apart)

-- a map stays one while its own bit isn't changed
pub is_map-set : (blocks : ℕ) (bits : List Bool) (k : ℕ) (b : Bool) → IsMap blocks bits → 1 ≤ k → IsMap blocks (slice_set bits k b)
is_map-set blocks [] k b h least = record { long = h.long; own = h.own }
is_map-set blocks (own ∷ bits) zero b h least = absurd (omega arith)
is_map-set blocks (own ∷ bits) (suc k) b h least = record { long = length-set (own ∷ bits) (suc k) b ∙ h.long; own = h.own }

-- ---- only marked blocks stay taken

pub length-kept_bits : (marked : ℕ → Bool) (from : ℕ) (bits : List Bool) → length (kept_bits marked from bits) ≡ length bits
unfolding kept_bits
length-kept_bits marked from [] = refl
length-kept_bits marked from (bit ∷ bits) = ap suc (length-kept_bits marked (suc from) bits)

pub get_or-kept_bits : (marked : ℕ → Bool) (from : ℕ) (bits : List Bool) (i : ℕ) → get_or (kept_bits marked from bits) i false ≡ (get_or bits i false && is_kept marked (from + i))
unfolding kept_bits
get_or-kept_bits marked from [] i = refl
get_or-kept_bits marked from (bit ∷ bits) zero = let e : from ≡ from + 0 = omega arith in ap (λ n. bit && is_kept marked n) e
get_or-kept_bits marked from (bit ∷ bits) (suc i) =
    let e : suc from + i ≡ from + suc i = omega arith in
    get_or-kept_bits marked (suc from) bits i ∙ ap (λ n. get_or bits i false && is_kept marked n) e

-- a bit of a map in which only marked blocks stay taken
pub get_or-kept_map : (marked : ℕ → Bool) (bits : List Bool) (i : ℕ) → get_or (kept_map marked bits) i false ≡ (get_or bits i false && is_kept marked i)
get_or-kept_map marked bits i = let e : 0 + i ≡ i = omega arith in get_or-kept_bits marked 0 bits i ∙ ap (λ n. get_or bits i false && is_kept marked n) e

pub is_map-kept_map : (blocks : ℕ) (bits : List Bool) (marked : ℕ → Bool) → IsMap blocks bits → IsMap blocks (kept_map marked bits)
unfolding kept_bits
is_map-kept_map blocks [] marked h = record { long = h.long; own = h.own }
is_map-kept_map blocks (own ∷ bits) marked h = record { long = length-kept_bits marked 0 (own ∷ bits) ∙ h.long; own = first own h.own }
  where
    first : (own : Bool) → Some own ≡ Some true → Some (own && is_kept marked 0) ≡ Some true
    first true e = refl
    first false e = cc

-- bytes that have those bits spell it
pub map_bytes-kept_map : (bits : List Bool) (marked : ℕ → Bool) (bytes : List ℕ) → length bits ≤ 32768 → length bytes ≡ 4096 → ((k : ℕ) → slice_index bytes k < 256) →
    ((i : ℕ) → i < 32768 → bit_of bytes i ≡ (bit_of (map_bytes bits) i && is_kept marked i)) → bytes ≡ map_bytes (kept_map marked bits)
map_bytes-kept_map bits marked bytes most full small h =
    bytes-by-bits bytes (map_bytes (kept_map marked bits)) (full ∙ sym (length-map_bytes (kept_map marked bits))) small (map_bytes-lt (kept_map marked bits))
    (λ i less. h i (omega (arith, full))
    ∙ (ap (λ b. b && is_kept marked i) (map_bytes-bit bits i most)
    ∙ sym (map_bytes-bit (kept_map marked bits) i (rw (length-kept_bits marked 0 bits) most) ∙ get_or-kept_map marked bits i)))

-- ---- a map held in bytes

-- the bytes after a change spell the map after it
pub record SpellsMap (blocks : ℕ) (bytes : List ℕ) (bits : List Bool) : Type 0 where
  pub holds : HoldsMap blocks bytes
  pub has : bits_of blocks bytes ≡ bits

-- one byte is changed in one bit
byte-spells : (blocks : ℕ) (bytes : List ℕ) (k byte : ℕ) (b : Bool) → HoldsMap blocks bytes → 1 ≤ k → k < blocks → byte < 256 → (bit_at byte (k % 8) == 1) ≡ b →
    ((i : ℕ) → i < 8 → i ≢ k % 8 → (bit_at byte i == 1) ≡ (bit_at (slice_index bytes (k / 8)) i == 1)) →
    SpellsMap blocks (slice_set bytes (k / 8) byte) (slice_set (bits_of blocks bytes) k b)
byte-spells blocks bytes k byte b h least below small here others = record {
  holds = holds-map blocks (slice_set bits k b) (slice_set bytes (k / 8) byte) most (is_map-set blocks bits k b h.is least) spelled;
  has = has-map blocks (slice_set bits k b) (slice_set bytes (k / 8) byte) most (is_map-set blocks bits k b h.is least) spelled;
}
  where
    bits : List Bool
    bits = bits_of blocks bytes

    most : blocks ≤ 32768
    most = h.most

    long : length bits ≡ blocks
    long = length-bits_from blocks 0 bytes

    spelled : slice_set bytes (k / 8) byte ≡ map_bytes (slice_set bits k b)
    spelled =
        ap (λ xs. slice_set xs (k / 8) byte) h.spelled
        ∙ map_bytes-set bits k byte b (omega (arith, long)) (omega (arith, long)) small here
        (λ i less apart. others i less apart ∙ ap (λ xs. bit_at (slice_index xs (k / 8)) i == 1) h.spelled)

byte-lt : (blocks : ℕ) (bytes : List ℕ) (k : ℕ) → HoldsMap blocks bytes → slice_index bytes k < 256
byte-lt blocks bytes k h = rw h.spelled (map_bytes-lt (bits_of blocks bytes) k)

-- a bit is set
pub set-spells : (blocks : ℕ) (bytes : List ℕ) (k : ℕ) → HoldsMap blocks bytes → 1 ≤ k → k < blocks →
    SpellsMap blocks (slice_set bytes (k / 8) (bit_or (slice_index bytes (k / 8)) (1 * 2 ^ (k % 8) % 2 ^ 8))) (slice_set (bits_of blocks bytes) k true)
set-spells blocks bytes k h least below =
    let x = slice_index bytes (k / 8) in
    let within : k % 8 < 8 = omega arith in
    byte-spells blocks bytes k (bit_or x (1 * 2 ^ (k % 8) % 2 ^ 8)) true h least below
    (or_lt 8 x (1 * 2 ^ (k % 8) % 2 ^ 8) (byte-lt blocks bytes (k / 8) h) (mod-lt (1 * 2 ^ (k % 8)) (omega arith)))
    (rw (bit_at_set_same w8 x (k % 8) within) refl)
    (λ i less apart. ap (λ n. n == 1) (bit_at_set_other w8 x (k % 8) within i apart))

-- a bit is cleared
pub clear-spells : (blocks : ℕ) (bytes : List ℕ) (k : ℕ) → HoldsMap blocks bytes → 1 ≤ k → k < blocks →
    SpellsMap blocks (slice_set bytes (k / 8) (bit_and (slice_index bytes (k / 8)) (bit_not w8 (1 * 2 ^ (k % 8) % 2 ^ 8)))) (slice_set (bits_of blocks bytes) k false)
clear-spells blocks bytes k h least below =
    let x = slice_index bytes (k / 8) in
    let within : k % 8 < 8 = omega arith in
    let small = byte-lt blocks bytes (k / 8) h in
    let least_and = and_le_l x (bit_not w8 (1 * 2 ^ (k % 8) % 2 ^ 8)) in
    byte-spells blocks bytes k (bit_and x (bit_not w8 (1 * 2 ^ (k % 8) % 2 ^ 8))) false h least below (omega (arith, small, least_and))
    (rw (bit_at_clear_same w8 x (k % 8) within) refl)
    (λ i less apart. ap (λ n. n == 1) (bit_at_clear_other w8 x (k % 8) within i less apart))

-- only marked blocks stay taken
pub kept-spells : (blocks : ℕ) (old new : List ℕ) (marked : ℕ → Bool) → HoldsMap blocks old → new ≡ map_bytes (kept_map marked (bits_of blocks old)) →
    SpellsMap blocks new (kept_map marked (bits_of blocks old))
kept-spells blocks old new marked h spelled =
    let is = is_map-kept_map blocks (bits_of blocks old) marked h.is in
    record { holds = holds-map blocks (kept_map marked (bits_of blocks old)) new h.most is spelled; has = has-map blocks (kept_map marked (bits_of blocks old)) new h.most is spelled }
