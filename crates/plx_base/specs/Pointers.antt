-- Pointers as numbers.
use Rattle.std.specs.Prelude.{◌≡◌, ◌<◌, ◌≤◌, ◌+◌, ◌^◌, ◌%◌, ◌⊎◌, ◌==◌, ◌||◌, ◌&&◌, nat_le, nat_lt}
use Rattle.std.specs.Prelude.{ℕ, Bool}

-- a pointer without its mark: a block number, or 0 for a hole
abbrev pub without_mark : ℕ → ℕ
without_mark pointer = pointer % 2 ^ 63

-- a pointer carries the mark in bit 63
abbrev pub IsMarked : ℕ → Type 0
IsMarked pointer = 2 ^ 63 ≤ pointer

-- the pointer to a block with the mark
abbrev pub with_mark : ℕ → ℕ
with_mark block = block + 2 ^ 63

-- a hole, or a block from 1 to 2 ^ 26 - 1 with or without the mark
abbrev pub IsPointer : ℕ → Type 0
IsPointer number =
    (number ≡ 0) ⊎ ((number < 2 ^ 64) × (1 ≤ without_mark number) × (without_mark number < 2 ^ 26))

-- a number is a pointer, tested
abbrev pub is_pointer : ℕ → Bool
is_pointer number =
    (number == 0)
    || (nat_lt number (2 ^ 64)
    && (nat_le 1 (without_mark number) && nat_lt (without_mark number) (2 ^ 26)))
