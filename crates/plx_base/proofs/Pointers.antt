-- Pointers with and without their mark.
use Rattle.std.proofs.Common.{◌≡◌, ◌^◌, ◌<◌, ◌≤◌, ℕ, Bool, true, false, refl, inl, inr, arith}
use Rattle.std.proofs.lemmas.Bool.Decides.{nat_tests, Decides-eqb}
use Rattle.std.specs.Prelude.{◌==◌, ◌||◌, ◌&&◌, nat_le, nat_lt}
use Rattle.plx_base.specs.Pointers.{IsMarked, IsPointer, is_pointer, with_mark, without_mark}

-- a number below the mark is its own block
pub unmarked-same : (block : ℕ) → block < 2 ^ 63 → without_mark block ≡ block
unmarked-same block h = omega arith

-- the block of a marked pointer
pub unmarked-marked : (block : ℕ) → block < 2 ^ 63 → without_mark (with_mark block) ≡ block
unmarked-marked block h = omega arith

-- a pointer with the mark is its block with the mark
pub marked-unmarked : (pointer : ℕ) → pointer < 2 ^ 64 → IsMarked pointer → with_mark (without_mark pointer) ≡ pointer
marked-unmarked pointer h mark = omega arith

-- the mark is taken off once
pub unmarked-unmarked : (pointer : ℕ) → without_mark (without_mark pointer) ≡ without_mark pointer
unmarked-unmarked pointer = omega arith

-- a pointer has 64 bits
pub IsPointer-lt : (pointer : ℕ) → IsPointer pointer → pointer < 2 ^ 64
IsPointer-lt pointer (inl hole) = omega arith
IsPointer-lt pointer (inr block) = block.0

-- without the mark it is a pointer still
pub IsPointer-unmarked : (pointer : ℕ) → IsPointer pointer → IsPointer (without_mark pointer)
IsPointer-unmarked pointer (inl hole) = inl (omega arith)
IsPointer-unmarked pointer (inr block) =
    let same = unmarked-unmarked pointer in
    inr (omega arith, omega arith, omega arith)

-- a block's frozen pointer
pub IsPointer-frozen : (block : ℕ) → 1 ≤ block → block < 2 ^ 26 → IsPointer block
IsPointer-frozen block low high = inr (omega arith, omega arith, omega arith)

-- a block's writable pointer
pub IsPointer-marked : (block : ℕ) → 1 ≤ block → block < 2 ^ 26 → IsPointer (with_mark block)
IsPointer-marked block low high = inr (omega arith, omega arith, omega arith)

-- the test of a pointer tells
pub is_pointer-true : (number : ℕ) → IsPointer number → is_pointer number ≡ true
is_pointer-true number (inl hole) = grind (arith, nat_tests)
is_pointer-true number (inr block) = let a = block.0 in let b = block.1 in let c = block.2 in grind (arith, nat_tests)

pub true-is_pointer : (number : ℕ) → is_pointer number ≡ true → IsPointer number
true-is_pointer number h = by_cases (number == 0) ((Decides-eqb number 0).0) h
  where
    by_cases : (b : Bool) → (b ≡ true → number ≡ 0) →
        (b || (nat_lt number (2 ^ 64) && (nat_le 1 (without_mark number) && nat_lt (without_mark number) (2 ^ 26)))) ≡ true → IsPointer number
    by_cases true zero h = inl (zero refl)
    by_cases false zero h = inr (grind (arith, nat_tests), grind (arith, nat_tests), grind (arith, nat_tests))
