-- Whether a block spells a map: its first bit is set, and no bit past the extent is.
use Rattle.std.proofs.Common.{◌≡◌, ◌≢◌, ◌⊎◌, inl, inr, ℕ, zero, suc, ◌+◌, ◌-◌, ◌*◌, ◌/◌, ◌%◌, ◌^◌, ◌≤◌, ◌<◌, List, length, take, drop, get_or, Some, refl, ap, sym, ◌∙◌, arith, Bool, true, false}
use Rattle.std.specs.Prelude.{◌==◌, ◌↔◌, IsTrue, All, slice_get, slice_index}
use Rattle.std.proofs.lemmas.Option.{get_or_from_slice_get}
use Rattle.std.proofs.lemmas.List.{get_or_default, get_or_past, get_or-drop, length-drop, take_rest}
use Rattle.std.specs.Int.{bit_at}
use Rattle.std.proofs.lemmas.Bool.{cases_eq, cases_lt}
use Rattle.std.proofs.lemmas.Bool.Decides.{nat_tests}
use Rattle.std.proofs.lemmas.Nat.{mod_below, pow_pos, shr-shr, shr_le, shr_split}
use Rattle.std.proofs.lemmas.Nat.Bits.{bit_at_lowest, bit_at-zero, bit_at_above}
use Rattle.plx_extent.proofs.Bits.{bit_of-at, same_numbers}
use Rattle.plx_extent.proofs.Maps.{bytes-back, length-bits_from, map_bytes-bit}
use Rattle.plx_extent.specs.Maps.{HoldsMap, IsMap, bit_of, bits_from, bits_of, map_bytes}

clear-bit : (n i : ℕ) → bit_at n i ≡ 0 → (bit_at n i == 1) ≡ false
clear-bit n i e = rw e refl

-- the byte in which the bit stands has no higher bit, and the bytes after it are zeros
pub record ZeroFrom (bytes : List ℕ) (from : ℕ) : Type 0 where
  pub first : slice_index bytes (from / 8) / 2 ^ (from % 8) ≡ 0
  pub others : (k : ℕ) → from / 8 < k → slice_index bytes k ≡ 0

pub zero-clear : (bytes : List ℕ) (from : ℕ) → ZeroFrom bytes from → (bit : ℕ) → from ≤ bit → bit_of bytes bit ≡ false
zero-clear bytes from h bit above = go (cases_eq (bit / 8) (from / 8))
  where
    byte : ℕ
    byte = slice_index bytes (from / 8)

    below : byte < 2 ^ (from % 8)
    below =
        let e : byte / 2 ^ (from % 8) * 2 ^ (from % 8) + byte % 2 ^ (from % 8) ≡ byte = shr_split byte (from % 8) in
        let f : byte / 2 ^ (from % 8) * 2 ^ (from % 8) ≡ 0 = rw h.first (omega arith) in
        let g = mod_below byte (2 ^ (from % 8)) (pow_pos (from % 8)) in
        omega (arith, e, f, g)

    go : (bit / 8 ≡ from / 8) ⊎ (bit / 8 ≢ from / 8) → bit_of bytes bit ≡ false
    go (inl same) = rw same (clear-bit byte (bit % 8) (bit_at_above byte (from % 8) (bit % 8) below (omega (arith, same))))
    go (inr apart) = rw (h.others (bit / 8) (omega (arith, apart))) (clear-bit 0 (bit % 8) (bit_at-zero (bit % 8)))

pub clear-zero : (bytes : List ℕ) (from : ℕ) → ((k : ℕ) → slice_index bytes k < 256) → ((bit : ℕ) → from ≤ bit → bit_of bytes bit ≡ false) → ZeroFrom bytes from
clear-zero bytes from small h = record {
  first = same_numbers 8 (byte / 2 ^ r) 0 (omega (arith, shr_le byte r, small (from / 8))) (omega arith)
      (λ i less. ap (λ n. n % 2 == 1) (shr-shr byte r i) ∙ (high (r + i) (omega arith) (cases_lt (r + i) 8) ∙ sym (clear-bit 0 i (bit_at-zero i))));
  others = λ k later. same_numbers 8 (slice_index bytes k) 0 (small k) (omega arith)
      (λ i less. sym (bit_of-at bytes k i (8 * k + i) refl less) ∙ (h (8 * k + i) (omega arith) ∙ sym (clear-bit 0 i (bit_at-zero i))));
}
  where
    byte : ℕ
    byte = slice_index bytes (from / 8)

    r : ℕ
    r = from % 8

    high : (i : ℕ) → r ≤ i → (i < 8) ⊎ (8 ≤ i) → (bit_at byte i == 1) ≡ false
    high i above (inl less) = sym (bit_of-at bytes (from / 8) i (8 * (from / 8) + i) refl less) ∙ h (8 * (from / 8) + i) (omega arith)
    high i above (inr past) = clear-bit byte i (bit_at_above byte 8 i (small (from / 8)) past)

-- the tests of the byte and of those after it tell
pub tells-clear : (bytes : List ℕ) (from : ℕ) (is_zero : Bool) → slice_index bytes (from / 8) / 2 ^ (from % 8) ≡ 0 → ((k : ℕ) → slice_index bytes k < 256) → from / 8 < length bytes →
    (IsTrue is_zero ↔ All (λ b. b ≡ 0) (take (length bytes - (from / 8 + 1)) (drop (from / 8 + 1) bytes))) →
    IsTrue is_zero ↔ ((bit : ℕ) → from ≤ bit → bit_of bytes bit ≡ false)
tells-clear bytes from is_zero first small within iff = (
  (λ yes. zero-clear bytes from record { first = first; others = λ k later. after k later (iff.0 yes) (cases_lt k (length bytes)) }),
  (λ clear. iff.1 (λ k d below. rest k d below (clear-zero bytes from small clear))),
)
  where
    next : ℕ
    next = from / 8 + 1

    tail : List ℕ
    tail = take (length bytes - next) (drop next bytes)

    long : length tail ≡ length bytes - next
    long = ap length (take_rest bytes next) ∙ length-drop next bytes

    after : (k : ℕ) → from / 8 < k → All (λ b. b ≡ 0) tail → (k < length bytes) ⊎ (length bytes ≤ k) → slice_index bytes k ≡ 0
    after k later all (inr past) = get_or_past bytes k 0 past
    after k later all (inl below) =
        let e : next + (k - next) ≡ k = omega arith in
        ap (slice_index bytes) (sym e) ∙ (sym (ap (λ xs. slice_index xs (k - next)) (take_rest bytes next) ∙ get_or-drop next bytes (k - next) 0)
        ∙ all (k - next) 0 (omega (arith, long)))

    rest : (k : ℕ) (d : ℕ) → k < length tail → ZeroFrom bytes from → get_or tail k d ≡ 0
    rest k d below zero_from =
        get_or_default tail k d 0 below
        ∙ (ap (λ xs. slice_index xs k) (take_rest bytes next) ∙ (get_or-drop next bytes k 0 ∙ zero_from.others (next + k) (omega arith)))

-- where the byte itself has a higher bit, not all are clear
pub tells-set : (bytes : List ℕ) (from : ℕ) → ((k : ℕ) → slice_index bytes k < 256) → slice_index bytes (from / 8) / 2 ^ (from % 8) ≢ 0 →
    IsTrue (slice_index bytes (from / 8) / 2 ^ (from % 8) == 0) ↔ ((bit : ℕ) → from ≤ bit → bit_of bytes bit ≡ false)
tells-set bytes from small not_zero = (
  (λ yes. absurd (not_zero (zero-of (slice_index bytes (from / 8) / 2 ^ (from % 8)) yes))),
  (λ clear. absurd (not_zero (clear-zero bytes from small clear).first)),
)
  where
    zero-of : (n : ℕ) → IsTrue (n == 0) → n ≡ 0
    zero-of n h = grind (arith, nat_tests)

-- bit 0 is the lowest of the first byte
first-bit : (bytes : List ℕ) → bit_of bytes 0 ≡ (slice_index bytes 0 % 2 == 1)
first-bit bytes = bit_of-at bytes 0 0 0 refl (omega arith) ∙ ap (λ n. n == 1) (bit_at_lowest (slice_index bytes 0))

-- the first bit of a map's block is set
pub own-bit-set : (blocks : ℕ) (bits : List Bool) → blocks ≤ 32768 → IsMap blocks bits → bit_of (map_bytes bits) 0 ≡ true
own-bit-set blocks bits most is =
    let long = is.long in
    map_bytes-bit bits 0 (omega arith) ∙ get_or_from_slice_get bits 0 true false is.own

-- a bit that is clear isn't the map's own
pub clear-above : (blocks : ℕ) (bytes : List ℕ) (bit : ℕ) → HoldsMap blocks bytes → bit_of bytes bit ≡ false → 1 ≤ bit
clear-above blocks bytes zero h clear =
    let set : bit_of bytes 0 ≡ true = ap (λ xs. bit_of xs 0) h.spelled ∙ own-bit-set blocks (bits_of blocks bytes) h.most h.is in
    cc
clear-above blocks bytes (suc bit) h clear = omega arith

-- bytes whose first bit is clear spell no map
pub even-none : (blocks : ℕ) (bits : List Bool) (bytes : List ℕ) → blocks ≤ 32768 → IsMap blocks bits → bytes ≡ map_bytes bits → slice_index bytes 0 % 2 ≡ 0 → ⊥
even-none blocks bits bytes most is same even =
    let set : bit_of bytes 0 ≡ true = ap (λ xs. bit_of xs 0) same ∙ own-bit-set blocks bits most is in
    let clear : bit_of bytes 0 ≡ false = first-bit bytes ∙ rw even refl in
    cc

-- the bit of the map's own block is the first of the bytes
pub own-is : (blocks : ℕ) (bytes : List ℕ) → 1 ≤ blocks → slice_get (bits_of blocks bytes) 0 ≡ Some (bit_of bytes 0)
unfolding bits_from
own-is zero bytes least = absurd (omega arith)
own-is (suc blocks) bytes least = refl

-- a block that passes both tests spells a map
pub odd-holds : (blocks : ℕ) (bytes : List ℕ) → 1 ≤ blocks → blocks ≤ 32768 → length bytes ≡ 4096 → ((k : ℕ) → slice_index bytes k < 256) → slice_index bytes 0 % 2 ≢ 0 →
    ((bit : ℕ) → blocks ≤ bit → bit_of bytes bit ≡ false) → HoldsMap blocks bytes
odd-holds blocks bytes least most full small odd clear = record {
  most = most;
  is = record { long = length-bits_from blocks 0 bytes; own = own-is blocks bytes least ∙ ap (λ b. Some b) (first-bit bytes ∙ one (slice_index bytes 0 % 2) (omega arith) odd) };
  spelled = bytes-back blocks bytes most full small clear;
}
  where
    one : (n : ℕ) → n < 2 → n ≢ 0 → (n == 1) ≡ true
    one zero h k = absurd (k refl)
    one (suc zero) h k = refl
    one (suc (suc n)) h k = absurd (omega arith)
