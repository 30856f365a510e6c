-- What holds of the trees on the device in every world that events lead to.
use Rattle.std.specs.Prelude.{◌≡◌, ℕ, List, length, true}
use Rattle.plx_radix.specs.Paths.{Trees, AllMarked, StandsOnPath, IsReachable}
use Rattle.plx_rules.specs.Pools.{is_allocated}
use Rattle.plx_rules.specs.Trees.{trees_of, InPool}
use Rattle.plx_rules.specs.World.{World, Reached}

-- the trees on the device of a world
abbrev pub trees_in : World → Trees
trees_in w = trees_of w.geometry w.surface.device

-- each reachable block is one of the pool, and allocated
abbrev pub AreReachedAllocated : World → Type 0
AreReachedAllocated w = (block : ℕ) → IsReachable (trees_in w) block →
    InPool w.geometry block × (is_allocated w.geometry w.surface.device block ≡ true)

-- each has one level: all paths on which it stands have as many digits
abbrev pub HaveOneLevel : World → Type 0
HaveOneLevel w = (r q : ℕ) (ds es : List ℕ) (block : ℕ) →
    StandsOnPath (trees_in w) r ds block →
    StandsOnPath (trees_in w) q es block → length ds ≡ length es

-- a block on a marked path is on no other path: it may be written in place
abbrev pub HaveOnePath : World → Type 0
HaveOnePath w = (r q : ℕ) (ds es : List ℕ) (block : ℕ) →
    StandsOnPath (trees_in w) r ds block →
    AllMarked (trees_in w) r ds → StandsOnPath (trees_in w) q es block →
    (q ≡ r) × (es ≡ ds)

-- reachable blocks are allocated in every world that events lead to
abbrev pub ReachableAllocated : Type 0
ReachableAllocated = (w : World) → Reached w → AreReachedAllocated w

-- they have one level in every such world
abbrev pub OneLevel : Type 0
OneLevel = (w : World) → Reached w → HaveOneLevel w

-- blocks on marked paths are on no other path in every such world
abbrev pub OnePath : Type 0
OnePath = (w : World) → Reached w → HaveOnePath w
