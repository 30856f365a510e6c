-- Trees of three levels of nodes, shared by several roots, and the paths in them.
use Rattle.std.specs.Prelude.{ℕ, ◌≤◌, ◌≡◌, ◌≢◌, Bool, true, false, List, [], ◌∷◌, length}

-- a pointer: a hole, or a block with or without the mark
pub data Pointer : Type 0 where
  Hole : Pointer
  To : (block : ℕ) (mark : Bool) → Pointer

-- what the blocks say when they are read as nodes, and the roots
pub record Trees : Type 0 where
  pub root : ℕ → Pointer
  pub node : ℕ → ℕ → Pointer

-- ---- paths by the bytes alone

-- the pointer at a digit of the node behind a pointer
abbrev pub hop : (ℕ → ℕ → Pointer) → Pointer → ℕ → Pointer
hop node Hole d = Hole
hop node (To b m) d = node b d

-- the pointer at the end of a path from a root. The last digit of a path comes first
abbrev pub path : Trees → ℕ → List ℕ → Pointer
path w r [] = w.root r
path w r (d ∷ ds) = hop w.node (path w r ds) d

-- a pointer carries the mark
abbrev pub Carries : Pointer → Type 0
Carries Hole = ⊥
Carries (To b m) = m ≡ true

-- a path is marked: every pointer down to its end carries the mark
abbrev pub AllMarked : Trees → ℕ → List ℕ → Type 0
AllMarked w r [] = Carries (path w r [])
AllMarked w r (d ∷ ds) = AllMarked w r ds × Carries (path w r (d ∷ ds))

-- a block stands on a path: a root leads to it by these digits, three at most
pub record StandsOnPath (w : Trees) (root : ℕ) (digits : List ℕ) (block : ℕ) : Type 0 where
  pub short : length digits ≤ 3
  pub mark : Bool
  pub there : path w root digits ≡ To block mark

-- a block is reachable where it stands on a path from a root
pub record IsReachable (w : Trees) (block : ℕ) : Type 0 where
  pub root : ℕ
  pub digits : List ℕ
  pub stands : StandsOnPath w root digits block

-- ---- the same with the marks and-ed on the way down

-- a pointer without its mark
abbrev pub unmarked : Pointer → Pointer
unmarked Hole = Hole
unmarked (To b m) = To b false

-- the pointer at d below p, where a pointer below an unmarked one counts as unmarked
abbrev pub child : (ℕ → ℕ → Pointer) → Pointer → ℕ → Pointer
child node Hole d = Hole
child node (To b true) d = node b d
child node (To b false) d = unmarked (node b d)

-- the pointer at the end of a path, with the mark where all pointers on the way carry it
abbrev pub end : Trees → ℕ → List ℕ → Pointer
end w r [] = w.root r
end w r (d ∷ ds) = child w.node (end w r ds) d

-- no path reaches a block
abbrev pub Unreachable : Trees → ℕ → Type 0
Unreachable w b = (r : ℕ) (ds : List ℕ) (m : Bool) → length ds ≤ 3 → end w r ds ≢ To b m

-- a block at the end of a marked path ends no other path, and each block has one level
pub record Shared (w : Trees) : Type 0 where
  pub single : (r q : ℕ) (ds es : List ℕ) (b : ℕ) (m : Bool) → length ds ≤ 3 → length es ≤ 3 →
      end w r ds ≡ To b true → end w q es ≡ To b m → (q ≡ r) × (es ≡ ds)
  pub level : (r q : ℕ) (ds es : List ℕ) (b : ℕ) (m n : Bool) → length ds ≤ 3 → length es ≤ 3 →
      end w r ds ≡ To b m → end w q es ≡ To b n → length ds ≡ length es

-- both ways to walk lead to one block, and the and-ed mark says whether the path is marked
pub record WalksAgree (w : Trees) (r : ℕ) (ds : List ℕ) : Type 0 where
  pub leads : (b : ℕ) (m : Bool) → path w r ds ≡ To b m → (n : Bool) × (end w r ds ≡ To b n)
  pub comes : (b : ℕ) (n : Bool) → end w r ds ≡ To b n → (m : Bool) × (path w r ds ≡ To b m)
  pub marked : (b : ℕ) → end w r ds ≡ To b true → AllMarked w r ds
  pub unmarked : (b : ℕ) → end w r ds ≡ To b false → AllMarked w r ds → ⊥

-- they do in all trees
abbrev pub PathsAgree : Type 0
PathsAgree = (w : Trees) (r : ℕ) (ds : List ℕ) → WalksAgree w r ds
