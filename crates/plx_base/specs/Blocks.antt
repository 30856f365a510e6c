-- Blocks as lists of bytes.
use Rattle.std.specs.Prelude.{ℕ, ◌+◌, List, ◌++◌, length, take, drop, replicate}

-- a block of zeros
unfoldable pub zeros : List ℕ
zeros = replicate 4096 0

-- a block of one byte throughout
unfoldable pub filled : ℕ → List ℕ
filled byte = replicate 4096 byte

-- old bytes after new ones were written over them from that place on
unfoldable pub with_bytes_at : ℕ → List ℕ → List ℕ → List ℕ
with_bytes_at at new old = take at old ++ new ++ drop (at + length new) old
