-- A write that an image's journal holds.
use Rattle.std.specs.Prelude.{ℕ, List}

-- its number within its image, counted from 1, the virtual block that was written, and the bytes
pub record Journaled : Type 0 where
  pub number : ℕ
  pub vblock : ℕ
  pub block : List ℕ
