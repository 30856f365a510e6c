-- The writes that a journal holds, by where their bytes lie.
use Rattle.std.specs.Prelude.{◌<◌, ◌*◌, ℕ, List, take, drop, map, All, Option, Some, None}
use Rattle.plx_base.specs.Blocks.{zeros}
use Rattle.plx_rules.specs.Journaled.{Journaled}
use Rattle.plx_session.specs.declared.journal.PlacedWrite.{PlacedWrite}

-- the block at a place among blocks that lie one after another
unfoldable pub block_in : List ℕ → (place : ℕ) → List ℕ
block_in bytes place = take 4096 (drop (4096 * place) bytes)

-- the block at a place, if there is one, and zeros otherwise
abbrev pub block_or_zeros : List ℕ → Option ℕ → List ℕ
block_or_zeros bytes None = zeros
block_or_zeros bytes (Some place) = block_in bytes place

-- a write, with its bytes out of all blocks
abbrev pub write_in : List ℕ → PlacedWrite → Journaled
write_in bytes write = record { number = write.number; vblock = write.vblock; block = block_in bytes write.place }

-- these writes, each with its bytes
unfoldable pub writes_in : List ℕ → List PlacedWrite → List Journaled
writes_in bytes writes = map (write_in bytes) writes

-- each write has its bytes in one of so many blocks
abbrev pub AreWithinBlocks : ℕ → List PlacedWrite → Type 0
AreWithinBlocks count writes = All (λ write. write.place < count) writes
