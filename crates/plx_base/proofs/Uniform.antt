-- Blocks of one byte throughout.
use Rattle.std.proofs.Common.{◌≡◌, ◌<◌, ◌+◌, ◌↔◌, ◌&&◌, ℕ, Bool, Some, zero, suc, List, [], ◌∷◌, ◌++◌, length, replicate, take, IsTrue, nat_eq, slice_index_or, refl, ap, sym, arith, subst}
use Rattle.std.specs.List.{All}
use Rattle.std.specs.Prelude.{slice_index}
use Rattle.std.proofs.lemmas.List.{length-replicate}
use Rattle.std.proofs.lemmas.List.Elements.{All-more, All-pop}
use Rattle.std.proofs.Math.Seq.{take-suc}
use Rattle.std.proofs.lemmas.Bool.Decides.{Decides-and, Decides-eqb}
use native.Mathlib.Numerals.{unary_clauses}
use Rattle.plx_base.specs.Blocks.{filled}
use Rattle.plx_base.specs.Payload.{IsUniform}

-- a list whose elements are all one byte
pub replicate-All : (byte n : ℕ) (xs : List ℕ) → length xs ≡ n → All (λ b. b ≡ byte) xs → xs ≡ replicate n byte
replicate-All byte zero [] e h = refl
replicate-All byte (suc n) [] e h = absurd (omega arith)
replicate-All byte zero (x ∷ xs) e h = absurd (omega arith)
replicate-All byte (suc n) (x ∷ xs) e h =
    let first : x ≡ byte = h 0 0 (omega arith) in
    let rest = replicate-All byte n xs (omega arith) (λ k d below. h (suc k) d (omega arith)) in
    rw first (ap (λ ys. byte ∷ ys) rest)

-- each of so many copies
pub All-replicate : (byte n : ℕ) → All (λ b. b ≡ byte) (replicate n byte)
All-replicate byte zero k d below = absurd (omega arith)
All-replicate byte (suc n) zero d below = refl
All-replicate byte (suc n) (suc k) d below = All-replicate byte n k d (omega arith)

-- where none has differed, none has with one byte more exactly if that byte doesn't
pub none-differs-more : (byte : ℕ) (xs : List ℕ) (i : ℕ) (same : Bool) → i < length xs →
    IsTrue same ↔ All (λ b. b ≡ byte) (take i xs) →
    IsTrue (same && nat_eq (slice_index_or xs i 0) byte) ↔ All (λ b. b ≡ byte) (take (i + 1) xs)
none-differs-more byte xs i same below h =
    let P : ℕ → Type 0 = λ b. b ≡ byte in
    let x = slice_index_or xs i 0 in
    let one : take (i + 1) xs ≡ take i xs ++ (x ∷ []) = simp unary_clauses (take-suc xs i 0 below) in
    let both = Decides-and same (nat_eq x byte) h (Decides-eqb x byte) in (
      (λ told. let each = both.0 told in All-more P xs i 0 below each.0 each.1),
      λ all. both.1 (All-pop P (take (i + 1) xs) (take i xs) (Some x) one all),
    )

-- a block whose bytes are all one byte is that byte throughout
pub filled-All : (byte : ℕ) (xs : List ℕ) → length xs ≡ 4096 → All (λ b. b ≡ byte) xs → xs ≡ filled byte
unfolding filled
filled-All byte xs e h = replicate-All byte 4096 xs e h

-- and the other way round
pub All-filled : (byte : ℕ) (xs : List ℕ) → xs ≡ filled byte → All (λ b. b ≡ byte) xs
unfolding filled
All-filled byte xs e = subst (All (λ b. b ≡ byte)) (sym e) (All-replicate byte 4096)

-- a block of one byte has a block's length
pub length-filled : (byte : ℕ) → length (filled byte) ≡ 4096
unfolding filled
length-filled byte = length-replicate 4096 byte

-- a block of one byte throughout is its first byte throughout
pub IsUniform-first : (xs : List ℕ) → length xs ≡ 4096 → IsUniform xs → xs ≡ filled (slice_index xs 0)
IsUniform-first xs e h =
    let first : slice_index xs 0 ≡ h.0 = All-filled h.0 xs h.1 0 0 (omega (arith, e)) in
    rw first h.1
