-- What a link changes.
use Rattle.std.specs.Prelude.{ℕ, ◌+◌, ◌≤◌, ◌≡◌, ◌≢◌, ◌⊎◌, true, List, [], ◌∷◌, length}
use Rattle.plx_radix.specs.Paths.{Pointer, To, Trees, end, Unreachable, Shared}

-- the whole path, whose upper part is ds and whose lower digits are post from above
abbrev pub down : List ℕ → List ℕ → List ℕ
down [] ds = ds
down (d ∷ post) ds = down post (d ∷ ds)

-- the fresh nodes below the path ds are copies of what stands there, but for the path's own entries. fresh k
-- is the fresh block with k digits to go
abbrev pub Copies : Trees → ℕ → (ℕ → ℕ) → List ℕ → List ℕ → Type 0
Copies w r fresh [] ds = Unit {0}
Copies w r fresh (d ∷ post) ds =
    (w.node (fresh (length (d ∷ post))) d ≡ To (fresh (length post)) true)
    × ((i : ℕ) → i ≢ d → w.node (fresh (length (d ∷ post))) i ≡ end w r (i ∷ ds))
    × Copies w r fresh post (d ∷ ds)

-- fresh blocks may be linked at the place `at`: they are apart, no path reaches them, they are copies of what
-- stands there, and what stands there isn't at the end of a marked path
pub record CanLink (w : Trees) (r : ℕ) (fresh : ℕ → ℕ) (post at : List ℕ) : Type 0 where
  pub whole : length post + length at ≡ 3
  pub apart : (j k : ℕ) → j ≤ length post → k ≤ length post → fresh j ≡ fresh k → j ≡ k
  pub unreachable : (j : ℕ) → j ≤ length post → Unreachable w (fresh j)
  pub copies : Copies w r fresh post at
  pub unowned : (b : ℕ) → end w r at ≢ To b true

-- from w to v no path changes
abbrev pub SamePaths : Trees → Trees → Type 0
SamePaths w v = (q : ℕ) (ds : List ℕ) → length ds ≤ 3 → end v q ds ≡ end w q ds

-- from w to v one pointer of one node changes
pub record NodeLinked (w v : Trees) (b d : ℕ) (new : Pointer) : Type 0 where
  pub roots : (q : ℕ) → v.root q ≡ w.root q
  pub entry : v.node b d ≡ new
  pub entries : (e : ℕ) → e ≢ d → v.node b e ≡ w.node b e
  pub others : (c e : ℕ) → c ≢ b → v.node c e ≡ w.node c e

-- from w to v one root changes, which stands in block x
pub record RootLinked (w v : Trees) (r x : ℕ) (new : Pointer) : Type 0 where
  pub root : v.root r ≡ new
  pub roots : (q : ℕ) → q ≢ r → v.root q ≡ w.root q
  pub others : (c e : ℕ) → c ≢ x → v.node c e ≡ w.node c e

-- what a link changes: the place `at`, and below it the chain of fresh blocks
pub record LinkChanges (w v : Trees) (r : ℕ) (fresh : ℕ → ℕ) (post at : List ℕ) : Type 0 where
  pub can : CanLink w r fresh post at
  pub roots : (q : ℕ) →
      ((q ≡ r) × ([] ≡ at) × (v.root r ≡ To (fresh (length post)) true)) ⊎ (v.root q ≡ w.root q)
  pub entries : (q : ℕ) (ds : List ℕ) (d : ℕ) → length ds ≤ 2 → end v q ds ≡ end w q ds →
      ((q ≡ r) × (d ∷ ds ≡ at) × (end v r (d ∷ ds) ≡ To (fresh (length post)) true))
      ⊎ (end v q (d ∷ ds) ≡ end w q (d ∷ ds))
  pub chain : (k d : ℕ) → k ≤ length post → v.node (fresh k) d ≡ w.node (fresh k) d

-- a link of a node keeps what is shared
abbrev pub LinksKeep : Type 0
LinksKeep = (w v : Trees) (r : ℕ) (fresh : ℕ → ℕ) (post : List ℕ) (d : ℕ) (above : List ℕ) (b : ℕ) → Shared w →
    end w r above ≡ To b true → CanLink w r fresh post (d ∷ above) →
    NodeLinked w v b d (To (fresh (length post)) true) → Shared v
