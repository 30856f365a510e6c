-- Words of 64 bits of a block.
use Rattle.std.proofs.Common.{◌≡◌, ◌≢◌, ◌⊎◌, inl, inr, ℕ, ◌+◌, ◌-◌, ◌*◌, ◌^◌, ◌≤◌, ◌<◌, List, ◌++◌, length, get_or, refl, ap, sym, ◌∙◌, arith, Bool, true, false, Some, None}
use Rattle.std.proofs.lemmas.Bool.{cases_lt}
use Rattle.std.specs.Prelude.{◌==◌, slice_index, position}
use Rattle.std.proofs.lemmas.List.Sums.{position_or_len_is}
use Rattle.std.specs.Int.{bit_at, trailing_ones, w64}
use Rattle.std.specs.Int.Count.{ones}
use Rattle.std.proofs.lemmas.Nat.Bits.{bit_at-trailing_ones, bit_at_ones}
use Rattle.plx_base.specs.Fields.{number_at}
use Rattle.plx_base.proofs.Fields.{number_at-lt}
use Rattle.plx_extent.proofs.Bits.{number_at-bit, binary_number-bit, binary_number-lt, ones-binary_number, same_numbers}
use Rattle.plx_extent.proofs.Counts.{set_count, set_count-append}
use Rattle.plx_extent.proofs.Maps.{bits_from-add, get_or-bits_from, length-bits_from}
use Rattle.plx_extent.specs.Maps.{bit_of, bits_from, bits_of, binary_number}
use Rattle.plx_base.proofs.Tests.{nat_lt-false, nat_lt-true}

-- a bit of a word is that of the block
pub word-bit : (bytes : List ℕ) (index i : ℕ) → ((k : ℕ) → slice_index bytes k < 256) → i < 64 → (bit_at (number_at 8 (8 * index) bytes) i == 1) ≡ bit_of bytes (64 * index + i)
word-bit bytes index i small below =
    let e : 8 * (8 * index) + i ≡ 64 * index + i = omega arith in
    number_at-bit 8 (8 * index) bytes i small (omega arith) ∙ ap (bit_of bytes) e

-- a word is the number of its bits
pub word-is : (bytes : List ℕ) (index : ℕ) → ((k : ℕ) → slice_index bytes k < 256) → number_at 8 (8 * index) bytes ≡ binary_number (bits_from 64 (64 * index) bytes)
word-is bytes index small =
    let long = length-bits_from 64 (64 * index) bytes in
    same_numbers 64 (number_at 8 (8 * index) bytes) (binary_number (bits_from 64 (64 * index) bytes)) (number_at-lt 8 (8 * index) bytes small)
    (binary_number-lt (bits_from 64 (64 * index) bytes) 64 (omega (arith, long)))
    (λ i below. word-bit bytes index i small below ∙ sym (binary_number-bit (bits_from 64 (64 * index) bytes) i ∙ get_or-bits_from 64 (64 * index) bytes i below))

-- the bits that are set, one word more
pub count-more : (bytes : List ℕ) (index : ℕ) → ((k : ℕ) → slice_index bytes k < 256) →
    set_count (bits_of (64 * index) bytes) + ones (number_at 8 (8 * index) bytes) ≡ set_count (bits_of (64 * (index + 1)) bytes)
count-more bytes index small =
    let e : 64 * (index + 1) ≡ 64 * index + 64 = omega arith in
    let f : 0 + 64 * index ≡ 64 * index = omega arith in
    let word : ones (number_at 8 (8 * index) bytes) ≡ set_count (bits_from 64 (64 * index) bytes) =
    ap ones (word-is bytes index small) ∙ ones-binary_number (bits_from 64 (64 * index) bytes) in
    sym (ap (λ n. set_count (bits_of n bytes)) e
    ∙ (ap set_count (bits_from-add (64 * index) 64 0 bytes ∙ ap (λ n. bits_of (64 * index) bytes ++ bits_from 64 n bytes) f)
    ∙ (set_count-append (bits_of (64 * index) bytes) (bits_from 64 (64 * index) bytes) ∙ omega (arith, word))))

bit-true : (n : ℕ) → n ≡ 1 → (n == 1) ≡ true
bit-true n e = rw e refl

bit-false : (n : ℕ) → n ≡ 0 → (n == 1) ≡ false
bit-false n e = rw e refl

-- a word of ones
pub full-word : (bytes : List ℕ) (index : ℕ) → ((k : ℕ) → slice_index bytes k < 256) → number_at 8 (8 * index) bytes ≡ 2 ^ 64 - 1 →
    ((i : ℕ) → i < 64 * index → bit_of bytes i ≡ true) → (i : ℕ) → i < 64 * (index + 1) → bit_of bytes i ≡ true
full-word bytes index small full before i below = go (cases_lt i (64 * index))
  where
    go : (i < 64 * index) ⊎ (64 * index ≤ i) → bit_of bytes i ≡ true
    go (inl low) = before i low
    go (inr high) =
        let e : 64 * index + (i - 64 * index) ≡ i = omega arith in
        ap (bit_of bytes) (sym e)
        ∙ (sym (word-bit bytes index (i - 64 * index) small (omega arith))
        ∙ (ap (λ n. bit_at n (i - 64 * index) == 1) full ∙ bit-true (bit_at (2 ^ 64 - 1) (i - 64 * index)) (bit_at_ones 64 (i - 64 * index) (omega arith))))

-- the first bit that is clear in a word that isn't all ones
pub record IsFirstClear (bytes : List ℕ) (at : ℕ) : Type 0 where
  pub set : (i : ℕ) → i < at → bit_of bytes i ≡ true
  pub clear : bit_of bytes at ≡ false
  pub high : at < 32768

pub first-clear : (bytes : List ℕ) (index word : ℕ) → ((k : ℕ) → slice_index bytes k < 256) → index < 512 → word ≡ number_at 8 (8 * index) bytes → word ≢ 2 ^ 64 - 1 →
    ((i : ℕ) → i < 64 * index → bit_of bytes i ≡ true) → IsFirstClear bytes (64 * index + trailing_ones w64 word)
first-clear bytes index word small within is not_full before =
    let less : word < 2 ^ 64 = rw is (number_at-lt 8 (8 * index) bytes small) in
    let told = bit_at-trailing_ones w64 word (omega (arith, less, not_full)) in
    let t = trailing_ones w64 word in
    let short : t < 64 = told.0 in
    record {
      set = λ i below. at t short told.2 i (cases_lt i (64 * index)) below;
      clear = sym (word-bit bytes index t small short) ∙ (ap (λ n. bit_at n t == 1) (sym is) ∙ bit-false (bit_at word t) told.1);
      high = omega (arith, short);
    }
  where
    at : (t : ℕ) → t < 64 → ((i : ℕ) → i < t → bit_at word i ≡ 1) → (i : ℕ) → (i < 64 * index) ⊎ (64 * index ≤ i) → i < 64 * index + t → bit_of bytes i ≡ true
    at t short ones_below i (inl low) below = before i low
    at t short ones_below i (inr high) below =
        let e : 64 * index + (i - 64 * index) ≡ i = omega arith in
        let j = i - 64 * index in
        ap (bit_of bytes) (sym e)
        ∙ (sym (word-bit bytes index j small (omega (arith, short)))
        ∙ (ap (λ n. bit_at n j == 1) (sym is) ∙ bit-true (bit_at word j) (ones_below j (omega arith))))

-- the least place at which a test passes
pub position-at : {A : Type 0} (p : A → Bool) (xs : List A) (d : A) (i : ℕ) → i < length xs → p (get_or xs i d) ≡ true → ((k : ℕ) → k < i → p (get_or xs k d) ≡ false) → position p xs ≡ Some i
position-at p xs d i below here before =
    let e = position_or_len_is p xs i d (omega arith) before (λ _. here) in
    rw (e, nat_lt-true i (length xs) below) refl

-- and none
pub position-none : {A : Type 0} (p : A → Bool) (xs : List A) (d : A) → ((k : ℕ) → k < length xs → p (get_or xs k d) ≡ false) → position p xs ≡ None
position-none p xs d h =
    let e = position_or_len_is p xs (length xs) d (omega arith) h (λ less. absurd (omega (arith, less))) in
    rw (e, nat_lt-false (length xs) (length xs) (omega arith)) refl
