-- What is seen of a stream in memory.
use Rattle.std.specs.Prelude.{ℕ, List}

-- a source: what is left, the most bytes a call, the numbers of the calls that fail, the number of the next call, and
-- how many calls have failed
pub record Incoming : Type 0 where
  pub left : List ℕ
  pub piece : ℕ
  pub fails : List ℕ
  pub calls : ℕ
  pub faults : ℕ

-- a sink: what it holds, the most bytes a call, the most bytes in all, the numbers of the calls that fail, the number of
-- the next call, and how many calls have failed
pub record Outgoing : Type 0 where
  pub held : List ℕ
  pub piece : ℕ
  pub room : ℕ
  pub fails : List ℕ
  pub calls : ℕ
  pub faults : ℕ
