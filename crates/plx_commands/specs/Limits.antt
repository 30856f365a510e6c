-- The last values of the counts, and the greatest image.
use Rattle.std.specs.Prelude.{ℕ, ◌-◌, ◌^◌}

-- how often an image can be made in one slot
abbrev pub last_generation : ℕ
last_generation = 2 ^ 32 - 1

-- the number of an image's last write
abbrev pub last_write : ℕ
last_write = 2 ^ 48 - 1

-- how many claims a boot can begin
abbrev pub last_claim : ℕ
last_claim = 2 ^ 40 - 1

-- the most blocks that an image has
abbrev pub greatest_size : ℕ
greatest_size = 2 ^ 27
