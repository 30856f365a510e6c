-- Bits of numbers and of bytes.
use Rattle.std.proofs.Common.{◌≡◌, ◌⊎◌, inl, inr, ℕ, zero, suc, ◌+◌, ◌-◌, ◌*◌, ◌/◌, ◌%◌, ◌^◌, ◌≤◌, ◌<◌, List, [], ◌∷◌, length, get_or, refl, ap, sym, ◌∙◌, arith, Bool, true, false, cond, zero-add, Fits, w8}
use Rattle.std.proofs.Math.Facts.{Fits-lt-pow}
use Rattle.std.proofs.lemmas.List.Recursion.{is_count_by}
use Rattle.std.proofs.lemmas.Bool.{cases_lt}
use Rattle.std.specs.Prelude.{◌==◌, count_by, slice_index}
use Rattle.std.specs.Int.{bit_at}
use Rattle.std.specs.Int.Count.{ones, ones_step, ones-le}
use Rattle.std.proofs.Math.Nat.{pow-succ'}
use Rattle.std.proofs.lemmas.Nat.Bits.{bit_at_lowest, bit_at-suc, bit_at-zero, bit_at-lt, bit_at_cat_low, bit_at_cat_high, same_from_bits_below}
use Rattle.plx_base.specs.Fields.{number_at}
use Rattle.plx_extent.specs.Maps.{bit_of, binary_number}

-- what the type of bytes says
pub bytes-lt : (bytes : List ℕ) → ((k : ℕ) → Fits w8 (get_or bytes k 0)) → (k : ℕ) → slice_index bytes k < 256
bytes-lt bytes h k = Fits-lt-pow (h k)

-- a digit is told by the test for 1
same_digit : (a b : ℕ) → a < 2 → b < 2 → (a == 1) ≡ (b == 1) → a ≡ b
same_digit zero zero ha hb e = refl
same_digit zero (suc zero) ha hb e = cc
same_digit zero (suc (suc b)) ha hb e = absurd (omega arith)
same_digit (suc zero) zero ha hb e = cc
same_digit (suc zero) (suc zero) ha hb e = refl
same_digit (suc zero) (suc (suc b)) ha hb e = absurd (omega arith)
same_digit (suc (suc a)) b ha hb e = absurd (omega arith)

-- two numbers of so many bits with the same bits are one
pub same_numbers : (width a b : ℕ) → a < 2 ^ width → b < 2 ^ width → ((i : ℕ) → i < width → (bit_at a i == 1) ≡ (bit_at b i == 1)) → a ≡ b
same_numbers width a b ha hb h =
    same_from_bits_below width a b ha hb (λ i below. same_digit (bit_at a i) (bit_at b i) (bit_at-lt a i) (bit_at-lt b i) (h i below))

-- a bit of the number whose digits are these
pub binary_number-bit : (bits : List Bool) (i : ℕ) → (bit_at (binary_number bits) i == 1) ≡ get_or bits i false
binary_number-bit [] i = ap (λ n. n == 1) (bit_at-zero i)
binary_number-bit (true ∷ bits) zero =
    ap (λ n. n == 1) (bit_at_lowest (1 + 2 * binary_number bits) ∙ (let e : (1 + 2 * binary_number bits) % 2 ≡ 1 = omega arith in e))
binary_number-bit (false ∷ bits) zero =
    ap (λ n. n == 1) (bit_at_lowest (0 + 2 * binary_number bits) ∙ (let e : (0 + 2 * binary_number bits) % 2 ≡ 0 = omega arith in e))
binary_number-bit (true ∷ bits) (suc i) =
    let e : (1 + 2 * binary_number bits) / 2 ≡ binary_number bits = omega arith in
    ap (λ n. n == 1) (bit_at-suc (1 + 2 * binary_number bits) i ∙ ap (λ n. bit_at n i) e) ∙ binary_number-bit bits i
binary_number-bit (false ∷ bits) (suc i) =
    let e : (0 + 2 * binary_number bits) / 2 ≡ binary_number bits = omega arith in
    ap (λ n. n == 1) (bit_at-suc (0 + 2 * binary_number bits) i ∙ ap (λ n. bit_at n i) e) ∙ binary_number-bit bits i

-- it is below the power of their number
pub binary_number-lt : (bits : List Bool) (width : ℕ) → length bits ≤ width → binary_number bits < 2 ^ width
binary_number-lt [] zero h = omega arith
binary_number-lt [] (suc width) h = let ih = binary_number-lt [] width (omega arith) in rw (pow-succ' 2 width) (omega arith)
binary_number-lt (bit ∷ bits) zero h = absurd (omega arith)
binary_number-lt (true ∷ bits) (suc width) h = let ih = binary_number-lt bits width (omega arith) in rw (pow-succ' 2 width) (omega arith)
binary_number-lt (false ∷ bits) (suc width) h = let ih = binary_number-lt bits width (omega arith) in rw (pow-succ' 2 width) (omega arith)

-- and has as many digits set
pub ones-binary_number : (bits : List Bool) → ones (binary_number bits) ≡ count_by (λ bit. bit) bits
ones-binary_number bits = is_count_by (λ xs. ones (binary_number xs)) (λ bit. bit) none next bits
  where
    none : ones 0 ≡ 0
    none = omega (arith, ones-le 0 0 (omega arith))

    next : (bit : Bool) (xs : List Bool) → ones (binary_number (bit ∷ xs)) ≡ cond bit (1 + ones (binary_number xs)) (ones (binary_number xs))
    next true xs =
        let e : (1 + 2 * binary_number xs) / 2 ≡ binary_number xs = omega arith in
        let d : (1 + 2 * binary_number xs) % 2 ≡ 1 = omega arith in
        ones_step (1 + 2 * binary_number xs) ∙ rw (e, d) refl
    next false xs =
        let e : (0 + 2 * binary_number xs) / 2 ≡ binary_number xs = omega arith in
        let d : (0 + 2 * binary_number xs) % 2 ≡ 0 = omega arith in
        ones_step (0 + 2 * binary_number xs) ∙ rw (e, d) (zero-add (ones (binary_number xs)))

-- a bit of bytes, by its byte
pub bit_of-at : (bytes : List ℕ) (place i j : ℕ) → j ≡ 8 * place + i → i < 8 → bit_of bytes j ≡ (bit_at (slice_index bytes place) i == 1)
bit_of-at bytes place i j e below =
    let d : j / 8 ≡ place = omega arith in
    let m : j % 8 ≡ i = omega arith in
    rw (d, m) refl

-- a bit of a number that stands in bytes
pub number_at-bit : (width place : ℕ) (bytes : List ℕ) (i : ℕ) → ((k : ℕ) → slice_index bytes k < 256) → i < 8 * width →
    (bit_at (number_at width place bytes) i == 1) ≡ bit_of bytes (8 * place + i)
unfolding number_at
number_at-bit zero place bytes i h below = absurd (omega arith)
number_at-bit (suc width) place bytes i h below = go (cases_lt i 8) (λ j less. number_at-bit width (suc place) bytes j h less)
  where
    rest : ℕ
    rest = number_at width (suc place) bytes

    turned : slice_index bytes place + 256 * rest ≡ rest * 2 ^ 8 + slice_index bytes place
    turned = omega arith

    go : (i < 8) ⊎ (8 ≤ i) → ((j : ℕ) → j < 8 * width → (bit_at rest j == 1) ≡ bit_of bytes (8 * suc place + j)) →
        (bit_at (slice_index bytes place + 256 * rest) i == 1) ≡ bit_of bytes (8 * place + i)
    go (inl low) ih =
        ap (λ n. bit_at n i == 1) turned
        ∙ (ap (λ n. n == 1) (bit_at_cat_low rest 8 (slice_index bytes place) i low)
        ∙ sym (bit_of-at bytes place i (8 * place + i) refl low))
    go (inr high) ih =
        let e : 8 * suc place + (i - 8) ≡ 8 * place + i = omega arith in
        ap (λ n. bit_at n i == 1) turned
        ∙ (ap (λ n. n == 1) (bit_at_cat_high rest 8 (slice_index bytes place) i (h place) high)
        ∙ (ih (i - 8) (omega arith) ∙ ap (bit_of bytes) e))
