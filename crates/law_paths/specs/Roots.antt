-- Changes of roots alone: snapshots, clones, drops and deletes.
use Rattle.std.specs.Prelude.{ℕ, ◌≤◌, ◌≡◌, ◌≢◌, ◌⊎◌, Bool, true, List, length}
use Rattle.plx_radix.specs.Paths.{Hole, To, Trees, unmarked, end, Shared}

-- a root after the change is as it was, or an unmarked copy of a root that has no mark from then on, or a hole
abbrev pub RootAfter : Trees → Trees → ℕ → Type 0
RootAfter w v q =
    (v.root q ≡ w.root q)
    ⊎ ((s : ℕ) × (v.root q ≡ unmarked (w.root s)) × ((b : ℕ) → v.root s ≢ To b true))
    ⊎ (v.root q ≡ Hole)

-- each root is so, and the nodes on all paths stay
pub record RootsTurn (w v : Trees) : Type 0 where
  pub each : (q : ℕ) → RootAfter w v q
  pub nodes : (r : ℕ) (ds : List ℕ) (b : ℕ) (m : Bool) (d : ℕ) → length ds ≤ 2 → end w r ds ≡ To b m →
      v.node b d ≡ w.node b d

-- such a change keeps what is shared
abbrev pub RootsKeep : Type 0
RootsKeep = (w v : Trees) → Shared w → RootsTurn w v → Shared v

-- and reaches nothing new
abbrev pub RootsReach : Type 0
RootsReach = (w v : Trees) → RootsTurn w v → (q : ℕ) (ds : List ℕ) (b : ℕ) (m : Bool) → length ds ≤ 3 →
    end v q ds ≡ To b m → (s : ℕ) × (n : Bool) × (end w s ds ≡ To b n)
