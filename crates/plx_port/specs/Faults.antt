-- Counts of faults, which never fall.
use Rattle.std.specs.Prelude.{ℕ, ◌+◌, ◌-◌, ◌^◌, ◌<◌, min}

-- the count rose, or stood at the end of its type, where it counts as risen
abbrev pub Rose : ℕ → ℕ → Type 0
Rose before after = before < 2 ^ 64 - 1 → before < after

-- one more, up to the end of the type
abbrev pub next_count : ℕ → ℕ
next_count count = min (count + 1) (2 ^ 64 - 1)
