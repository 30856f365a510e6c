-- Numbers as bytes: reading gives what was written, and writing gives what was read.
use Rattle.std.proofs.Common.{◌≡◌, ℕ, zero, suc, ◌+◌, ◌-◌, ◌*◌, ◌/◌, ◌%◌, ◌^◌, ◌≤◌, ◌<◌, List, [], ◌∷◌, ◌++◌, length, take, drop, refl, ap, sym, ◌∙◌, arith, length-drop}
use Rattle.std.proofs.Math.Nat.{pow-suc, pow-succ', div-add-mod', mod-lt, div-one, div-div-eq-div-mul}
use Rattle.std.proofs.lemmas.List.{get_or-drop, drop-drop, take_all, drop_all, append-nil}
use borrow.Rule.Slice.PartMut.{put_mid}
use Rattle.std.specs.Prelude.{slice_index}
use Rattle.std.specs.Int.{byte_at, bytes_low_first}
use Rattle.byteorder.specs.Endian.{little_from}
use Rattle.plx_base.specs.Blocks.{with_bytes_at}
use Rattle.plx_base.specs.Fields.{little, number_at}
use Rattle.plx_base.specs.Sectors.{with_landed_sector}
use Rattle.plx_base.proofs.Landed.{landed-inside, landed-before, landed-after}
use Rattle.plx_base.proofs.Written.{written-before, written-inside, written-after, written-again, written-parts}

-- a number has as many bytes as its width says
pub length-little : (width number : ℕ) → length (little width number) ≡ width
unfolding little
length-little zero number = refl
length-little (suc width) number = ap suc (length-little width (number / 256))

-- each of them is a byte
pub little-lt : (width number k : ℕ) → slice_index (little width number) k < 256
unfolding little
little-lt zero number k = omega arith
little-lt (suc width) number zero = mod-lt number (omega arith)
little-lt (suc width) number (suc k) = little-lt width (number / 256) k

-- a number is read from its own bytes alone
pub number_at-along : (width p q : ℕ) (xs ys : List ℕ) → ((k : ℕ) → k < width → slice_index xs (p + k) ≡ slice_index ys (q + k)) →
    number_at width p xs ≡ number_at width q ys
unfolding number_at
number_at-along zero p q xs ys h = refl
number_at-along (suc width) p q xs ys h =
    let first : slice_index xs p ≡ slice_index ys q =
    let a : p + 0 ≡ p = omega arith in
    let b : q + 0 ≡ q = omega arith in
    rw (← a, ← b) (h 0 (omega arith)) in
    let rest = number_at-along width (suc p) (suc q) xs ys
    (λ k below. let a : suc p + k ≡ p + suc k = omega arith in
    let b : suc q + k ≡ q + suc k = omega arith in
    rw (a, b) (h (suc k) (omega arith))) in
    rw (first, rest) refl

-- below the power of its width, where each byte is below 256
pub number_at-lt : (width place : ℕ) (bytes : List ℕ) → ((k : ℕ) → slice_index bytes k < 256) → number_at width place bytes < 256 ^ width
unfolding number_at
number_at-lt zero place bytes h = omega arith
number_at-lt (suc width) place bytes h =
    let byte = h place in
    let rest = number_at-lt width (suc place) bytes h in
    rw (pow-succ' 256 width) (omega arith)

-- the bytes of a number read back as it
pub number_at-little : (width number : ℕ) → number < 256 ^ width → number_at width 0 (little width number) ≡ number
unfolding number_at little
number_at-little zero number h = omega arith
number_at-little (suc width) number h =
    let power : 256 ^ suc width ≡ 256 * 256 ^ width = pow-succ' 256 width in
    let small : number / 256 < 256 ^ width = grind (arith, div-add-mod' number 256, mod-lt number, power) in
    let rest : number_at width 1 (number % 256 ∷ little width (number / 256)) ≡ number / 256 =
    number_at-along width 1 0 (number % 256 ∷ little width (number / 256)) (little width (number / 256))
    (λ k below. let a : 1 + k ≡ suc k = omega arith in let b : 0 + k ≡ k = omega arith in rw (a, b) refl)
    ∙ number_at-little width (number / 256) small in
    rw rest (omega (arith, div-add-mod' number 256))

-- the first byte and what follows it
take-suc-drop : (n p : ℕ) (bytes : List ℕ) → p < length bytes → take (suc n) (drop p bytes) ≡ slice_index bytes p ∷ take n (drop (suc p) bytes)
take-suc-drop n p [] h = absurd (omega arith)
take-suc-drop n zero (x ∷ xs) h = refl
take-suc-drop n (suc p) (x ∷ xs) h = take-suc-drop n p xs (omega arith)

-- the bytes of a number that was read are the bytes that were there
pub little-number_at : (width place : ℕ) (bytes : List ℕ) → ((k : ℕ) → slice_index bytes k < 256) → place + width ≤ length bytes →
    little width (number_at width place bytes) ≡ take width (drop place bytes)
unfolding number_at little
little-number_at zero place bytes h within = refl
little-number_at (suc width) place bytes h within =
    let byte = h place in
    let low : (slice_index bytes place + 256 * number_at width (suc place) bytes) % 256 ≡ slice_index bytes place = omega arith in
    let high : (slice_index bytes place + 256 * number_at width (suc place) bytes) / 256 ≡ number_at width (suc place) bytes = omega arith in
    let rest = little-number_at width (suc place) bytes h (omega arith) in
    rw (low, high, take-suc-drop width place bytes (omega arith)) (ap (λ xs. slice_index bytes place ∷ xs) rest)

-- what was written reads back
pub number_at-written : (width place number : ℕ) (bytes : List ℕ) → place ≤ length bytes → number < 256 ^ width →
    number_at width place (with_bytes_at place (little width number) bytes) ≡ number
number_at-written width place number bytes h small =
    number_at-along width place 0 (with_bytes_at place (little width number) bytes) (little width number)
    (λ k below. let a : 0 + k ≡ k = omega arith in
    rw a (written-inside place (little width number) bytes k h (rw (length-little width number) below)))
    ∙ number_at-little width number small

-- writing what was read changes nothing
pub written-number_at : (width place : ℕ) (bytes : List ℕ) → ((k : ℕ) → slice_index bytes k < 256) → place + width ≤ length bytes →
    with_bytes_at place (little width (number_at width place bytes)) bytes ≡ bytes
written-number_at width place bytes h within =
    rw (little-number_at width place bytes h within) (written-again place width bytes within)

-- a field before the place of a write stays
pub number_at-before : (width place at : ℕ) (new bytes : List ℕ) → at ≤ length bytes → place + width ≤ at →
    number_at width place (with_bytes_at at new bytes) ≡ number_at width place bytes
number_at-before width place at new bytes h below =
    number_at-along width place place (with_bytes_at at new bytes) bytes (λ k less. written-before at new bytes (place + k) h (omega arith))

-- a field after a write stays
pub number_at-after : (width place at : ℕ) (new bytes : List ℕ) → at ≤ length bytes → at + length new ≤ place →
    number_at width place (with_bytes_at at new bytes) ≡ number_at width place bytes
number_at-after width place at new bytes h above =
    number_at-along width place place (with_bytes_at at new bytes) bytes (λ k less. written-after at new bytes (place + k) h (omega arith))

-- a byte of a number by its place, as a quotient
byte_at-is : (i number : ℕ) → byte_at i number ≡ number / 256 ^ i % 256
byte_at-is zero number = ap (λ x. x % 256) (sym (div-one number))
byte_at-is (suc i) number = refl

little-above : (width i number : ℕ) → little width (number / 256 ^ i) ≡ bytes_low_first i width number
unfolding little
little-above zero i number = refl
little-above (suc width) i number =
    let next : number / 256 ^ i / 256 ≡ number / 256 ^ suc i = div-div-eq-div-mul number (256 ^ i) 256 ∙ ap (λ p. number / p) (sym (pow-suc 256 i)) in
    rw (byte_at-is i number, next) (ap (λ xs. number / 256 ^ i % 256 ∷ xs) (little-above width (suc i) number))

-- the bytes that the crate of byte orders writes
pub little-is : (width number : ℕ) → bytes_low_first 0 width number ≡ little width number
little-is width number = sym (little-above width 0 number) ∙ ap (little width) (div-one number)

little_from-is : (width place : ℕ) (bytes : List ℕ) → little_from place width bytes ≡ number_at width place bytes
unfolding number_at
little_from-is zero place bytes = refl
little_from-is (suc width) place bytes = ap (λ n. slice_index bytes place + 256 * n) (little_from-is width (suc place) bytes)

-- all that stands from a place on
rest-is : (place : ℕ) (bytes : List ℕ) → take (length bytes - place) (drop place bytes) ≡ drop place bytes
rest-is place bytes = take_all (length bytes - place) (drop place bytes) (rw (length-drop place bytes) (omega arith))

-- the number that it reads from that place on
pub number_at-is : (width place : ℕ) (bytes : List ℕ) → little_from 0 width (take (length bytes - place) (drop place bytes)) ≡ number_at width place bytes
number_at-is width place bytes =
    ap (little_from 0 width) (rest-is place bytes)
    ∙ (little_from-is width 0 (drop place bytes)
    ∙ number_at-along width 0 place (drop place bytes) bytes (λ k below. let a : 0 + k ≡ k = omega arith in rw a (get_or-drop place bytes k 0)))

-- the bytes after it wrote a number from that place on
pub written-little : (width place number : ℕ) (bytes : List ℕ) → place + width ≤ length bytes →
    put_mid place (length bytes - place) bytes (bytes_low_first 0 width number ++ drop width (take (length bytes - place) (drop place bytes)))
    ≡ with_bytes_at place (little width number) bytes
written-little width place number bytes h =
    let none : drop (length bytes - place) (drop place bytes) ≡ [] = drop_all (length bytes - place) (drop place bytes) (rw (length-drop place bytes) (omega arith)) in
    rw (rest-is place bytes, none, little-is width number, written-parts place (little width number) bytes, length-little width number, drop-drop width place bytes)
    (ap (λ xs. take place bytes ++ xs) (append-nil (little width number ++ drop (place + width) bytes)))

-- a field in the sector that landed is the new one
pub number_at-landed : (width place sector : ℕ) (new old : List ℕ) → 512 * sector + 512 ≤ length new → 512 * sector ≤ length old →
    512 * sector ≤ place → place + width ≤ 512 * sector + 512 → number_at width place (with_landed_sector sector new old) ≡ number_at width place new
number_at-landed width place sector new old hn ho low high =
    number_at-along width place place (with_landed_sector sector new old) new
    (λ k less. landed-inside sector new old (place + k) hn ho (omega arith) (omega arith))

-- a field before that sector is the old one
pub number_at-landed_after : (width place sector : ℕ) (new old : List ℕ) → 512 * sector + 512 ≤ length new → 512 * sector ≤ length old →
    place + width ≤ 512 * sector → number_at width place (with_landed_sector sector new old) ≡ number_at width place old
number_at-landed_after width place sector new old hn ho below =
    number_at-along width place place (with_landed_sector sector new old) old
    (λ k less. landed-before sector new old (place + k) hn ho (omega arith))

-- a field after that sector is the old one
pub number_at-landed_before : (width place sector : ℕ) (new old : List ℕ) → 512 * sector + 512 ≤ length new → 512 * sector ≤ length old →
    512 * sector + 512 ≤ place → number_at width place (with_landed_sector sector new old) ≡ number_at width place old
number_at-landed_before width place sector new old hn ho above =
    number_at-along width place place (with_landed_sector sector new old) old
    (λ k less. landed-after sector new old (place + k) hn ho (omega arith))
