-- Words of which only marked bits stay set.
use Rattle.std.proofs.Common.{◌≡◌, ◌≢◌, ◌⊎◌, inl, inr, ℕ, ◌+◌, ◌-◌, ◌*◌, ◌/◌, ◌%◌, ◌^◌, ◌≤◌, ◌<◌, List, length, refl, ap, sym, ◌∙◌, subst, arith, Bool, true, false}
use Rattle.std.specs.Prelude.{◌==◌, ◌&&◌, slice_index, bit_and}
use Rattle.std.specs.Int.{bit_at, bit_not, w64}
use Rattle.std.proofs.lemmas.Bool.{cases_eq, cases_lt}
use Rattle.std.proofs.lemmas.Nat.{one_shl, pow_pos}
use Rattle.std.proofs.lemmas.Nat.Bits.{and_pow, bit_at-lt, bit_at_clear_same, bit_at_clear_other}
use Rattle.plx_base.specs.Blocks.{with_bytes_at}
use Rattle.plx_base.specs.Fields.{little, number_at}
use Rattle.plx_base.proofs.Fields.{length-little, number_at-written}
use Rattle.plx_base.proofs.Written.{length-written, written-before, written-after}
use Rattle.plx_extent.proofs.WordBits.{word-bit}
use Rattle.plx_extent.specs.Maps.{bit_of, is_kept}
use Rattle.plx_base.proofs.Tests.{and-no}

-- the bits of a word below that one stay where they are marked, those from it on as they were
pub record KeptBelow (marked : ℕ → Bool) (first word at now : ℕ) : Type 0 where
  pub before : (i : ℕ) → i < at → (bit_at now i == 1) ≡ ((bit_at word i == 1) && is_kept marked (first + i))
  pub after : (i : ℕ) → at ≤ i → i < 64 → (bit_at now i == 1) ≡ (bit_at word i == 1)

and-true : (a b : Bool) → b ≡ true → (a && b) ≡ a
and-true true b e = e
and-true false b e = refl

-- the next one is cleared
pub next-cleared : (marked : ℕ → Bool) (first word at now : ℕ) → at < 64 → is_kept marked (first + at) ≡ false → KeptBelow marked first word at now →
    KeptBelow marked first word (at + 1) (bit_and now (bit_not w64 (1 * 2 ^ at % 2 ^ 64)))
next-cleared marked first word at now within gone h = record {
  before = λ i below. go i below (cases_eq i at);
  after = λ i above less. other i less (λ e. omega (arith, e, above)) ∙ h.after i (omega arith) less;
}
  where
    new : ℕ
    new = bit_and now (bit_not w64 (1 * 2 ^ at % 2 ^ 64))

    other : (i : ℕ) → i < 64 → i ≢ at → (bit_at new i == 1) ≡ (bit_at now i == 1)
    other i less apart = ap (λ n. n == 1) (bit_at_clear_other w64 now at within i less apart)

    go : (i : ℕ) → i < at + 1 → (i ≡ at) ⊎ (i ≢ at) → (bit_at new i == 1) ≡ ((bit_at word i == 1) && is_kept marked (first + i))
    go i below (inl same) =
        rw same (ap (λ n. n == 1) (bit_at_clear_same w64 now at within) ∙ sym (and-no (bit_at word at == 1) (is_kept marked (first + at)) gone))
    go i below (inr apart) = other i (omega arith) apart ∙ h.before i (omega (arith, apart))

-- the next one is left as it was
pub next-left : (marked : ℕ → Bool) (first word at now : ℕ) → at < 64 → ((bit_at word at == 1) ≡ false) ⊎ (is_kept marked (first + at) ≡ true) →
    KeptBelow marked first word at now → KeptBelow marked first word (at + 1) now
next-left marked first word at now within why h = record {
  before = λ i below. go i below (cases_eq i at);
  after = λ i above less. h.after i (omega arith) less;
}
  where
    same_and : ((bit_at word at == 1) ≡ false) ⊎ (is_kept marked (first + at) ≡ true) → (bit_at word at == 1) ≡ ((bit_at word at == 1) && is_kept marked (first + at))
    same_and (inl clear) = rw clear refl
    same_and (inr stay) = sym (and-true (bit_at word at == 1) (is_kept marked (first + at)) stay)

    go : (i : ℕ) → i < at + 1 → (i ≡ at) ⊎ (i ≢ at) → (bit_at now i == 1) ≡ ((bit_at word i == 1) && is_kept marked (first + i))
    go i below (inl same) = rw same (h.after at (omega arith) within ∙ same_and why)
    go i below (inr apart) = h.before i (omega (arith, apart))

-- a test of a bit
pub test-clear : (word at : ℕ) → at < 64 → bit_and word (1 * 2 ^ at % 2 ^ 64) ≡ 0 → (bit_at word at == 1) ≡ false
test-clear word at within none =
    let e : bit_at word at * 2 ^ at ≡ 0 = sym (and_pow word at) ∙ (ap (bit_and word) (sym (one_shl at 64 within)) ∙ none) in
    let p = pow_pos at in
    let d = bit_at-lt word at in
    let zero_bit : bit_at word at ≡ 0 = grind arith in
    rw zero_bit refl

-- the words of bytes before that one keep only marked bits, the others are as they were
pub record WordsKept (marked : ℕ → Bool) (old : List ℕ) (index : ℕ) (now : List ℕ) : Type 0 where
  pub long : length now ≡ 4096
  pub small : (k : ℕ) → slice_index now k < 256
  pub before : (i : ℕ) → i < 64 * index → bit_of now i ≡ (bit_of old i && is_kept marked i)
  pub after : (i : ℕ) → 64 * index ≤ i → bit_of now i ≡ bit_of old i

-- one more word
pub word-kept : (marked : ℕ → Bool) (old : List ℕ) (index word : ℕ) (now new : List ℕ) → index < 512 →
    ((k : ℕ) → slice_index new k < 256) → word < 2 ^ 64 →
    new ≡ with_bytes_at (8 * index) (little 8 word) now →
    ((i : ℕ) → i < 64 → (bit_at word i == 1) ≡ ((bit_at (number_at 8 (8 * index) now) i == 1) && is_kept marked (64 * index + i))) →
    WordsKept marked old index now → WordsKept marked old (index + 1) new
word-kept marked old index word now new within small less is word_bits h = record {
  long = ap length is ∙ (length-written (8 * index) (little 8 word) now (omega (arith, long, full)) ∙ full);
  small = small;
  before = λ i below. before i below (cases_lt i (64 * index));
  after = λ i above. after i above ∙ h.after i (omega arith);
}
  where
    full : length now ≡ 4096
    full = h.long

    long : length (little 8 word) ≡ 8
    long = length-little 8 word

    after : (i : ℕ) → 64 * (index + 1) ≤ i → bit_of new i ≡ bit_of now i
    after i above =
        let e : slice_index new (i / 8) ≡ slice_index now (i / 8) =
        ap (λ xs. slice_index xs (i / 8)) is ∙ written-after (8 * index) (little 8 word) now (i / 8) (omega (arith, full)) (omega (arith, long, above)) in
        rw e refl

    reads : number_at 8 (8 * index) new ≡ word
    reads = ap (number_at 8 (8 * index)) is ∙ number_at-written 8 (8 * index) word now (omega (arith, full)) less

    inside : (j : ℕ) → j < 64 → bit_of new (64 * index + j) ≡ (bit_of old (64 * index + j) && is_kept marked (64 * index + j))
    inside j short =
        sym (word-bit new index j small short)
        ∙ (ap (λ n. bit_at n j == 1) reads
        ∙ (word_bits j short
        ∙ ap (λ b. b && is_kept marked (64 * index + j)) (word-bit now index j h.small short ∙ h.after (64 * index + j) (omega arith))))

    before : (i : ℕ) → i < 64 * (index + 1) → (i < 64 * index) ⊎ (64 * index ≤ i) → bit_of new i ≡ (bit_of old i && is_kept marked i)
    before i below (inl low) =
        let e : slice_index new (i / 8) ≡ slice_index now (i / 8) =
        ap (λ xs. slice_index xs (i / 8)) is ∙ written-before (8 * index) (little 8 word) now (i / 8) (omega (arith, full)) (omega (arith, low)) in
        let f : bit_of new i ≡ bit_of now i = rw e refl in
        f ∙ h.before i low
    before i below (inr high) =
        let e : 64 * index + (i - 64 * index) ≡ i = omega arith in
        subst (λ n. bit_of new n ≡ (bit_of old n && is_kept marked n)) e (inside (i - 64 * index) (omega arith))
