-- What is taken of a source, where it tells what is left.
use Rattle.std.specs.Prelude.{◌≡◌, ◌≤◌, ◌<◌, ℕ, List, [], Option, None, Some, Result, MatchResult, length, take, drop, ⊤}
use Rattle.std.specs.Io.KnownBytes.{Consumes, IsAtEnd, Keeps}

-- a read took the bytes that it gave, none only where none was left or none was asked for, and none where it failed
abbrev pub Gives : {E : Type 0} → Option (List ℕ) → Option (List ℕ) → Result ℕ E → List ℕ → Type 0
Gives old new result into = MatchResult result
    (λ n. Consumes old new (take n into) × (n ≡ 0 → 0 < length into → IsAtEnd old))
    (λ _. Keeps old new)

-- these bytes are all that was left, and nothing is left
abbrev pub ReadsToEnd : Option (List ℕ) → Option (List ℕ) → List ℕ → Type 0
ReadsToEnd None new bytes = ⊤
ReadsToEnd (Some left) new bytes = (bytes ≡ left) × (new ≡ Some [])

-- this many bytes were taken
abbrev pub TakesCount : Option (List ℕ) → Option (List ℕ) → ℕ → Type 0
TakesCount None new count = ⊤
TakesCount (Some left) new count = (count ≤ length left) × (new ≡ Some (drop count left))
