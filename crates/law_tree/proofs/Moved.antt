-- What a landing makes of the paths, and what it leaves alone.
use Rattle.std.proofs.Common.{◌≡◌, ◌≢◌, ℕ, ◌<◌, ◌≤◌, ◌⊎◌, inl, inr, List, length, Bool, true, ap, sym, ◌∙◌, subst}
use Rattle.plx_base.specs.Sectors.{Device}
use Rattle.plx_commands.specs.Replies.{is_in}
use Rattle.plx_geom.specs.Geometry.{Geometry, image_lease, extent_lease}
use Rattle.plx_radix.specs.Paths.{To, end, Unreachable, Shared}
use Rattle.plx_rules.specs.Pools.{is_allocated}
use Rattle.plx_rules.specs.Rests.{extent_of}
use Rattle.law_paths.specs.Links.{SamePaths, LinkChanges}
use Rattle.law_paths.specs.Roots.{RootsTurn}
use Rattle.law_paths.proofs.Kept.{same-kept, link-kept, link-back, link-others}
use Rattle.law_paths.proofs.Roots.{roots-keep, roots-reach, ends-same}
use Rattle.plx_rules.specs.Trees.{lease_of_root, trees_of, InPool, IsRooted}
use Rattle.law_tree.proofs.Roots.{lease-live}

-- a block that a link makes reachable: it is allocated, the link rests on the lease of its extent, and it is one of those that the link names
pub record IsNamedBlock (g : Geometry) (d : Device) (rests : List ℕ) (names : ℕ → Type 0) (block : ℕ) : Type 0 where
  pub pool : InPool g block
  pub allocated : is_allocated g d block ≡ true
  pub under : is_in (extent_lease g (extent_of g block)) rests ≡ true
  pub named : names block

-- by the landing of a write that rests on these leases: no path changes, or a link is made of the image whose lease is among them, or roots of such images turn
pub data Moved (g : Geometry) (d e : Device) (rests : List ℕ) (names : ℕ → Type 0) : Type 0 where
  same : SamePaths (trees_of g d) (trees_of g e) → Moved g d e rests names
  made : (image : ℕ) → image < g.images → is_in (image_lease image) rests ≡ true → (fresh : ℕ → ℕ) (post at : List ℕ) → LinkChanges (trees_of g d) (trees_of g e) image fresh post at →
      ((j : ℕ) → j ≤ length post → IsNamedBlock g d rests names (fresh j)) → ((b : ℕ) → InPool g b → is_allocated g e b ≡ is_allocated g d b) → Moved g d e rests names
  turned : RootsTurn (trees_of g d) (trees_of g e) → ((q : ℕ) → ((trees_of g e).root q ≡ (trees_of g d).root q) ⊎ (is_in (lease_of_root g q) rests ≡ true)) → Moved g d e rests names

module _ (g : Geometry) (d e : Device) (rests : List ℕ) (names : ℕ → Type 0) where
  -- levels and marked paths stay unique
  pub moved-shared : Shared (trees_of g d) → Moved g d e rests names → Shared (trees_of g e)
  moved-shared shared (same paths) = same-kept (trees_of g d) (trees_of g e) shared paths
  moved-shared shared (made image within under fresh post at changes named maps) = link-kept (trees_of g d) (trees_of g e) image fresh post at shared changes
  moved-shared shared (turned turn own) = roots-keep (trees_of g d) (trees_of g e) shared turn

  -- the paths of a root stay on whose lease the write doesn't rest
  pub moved-other : Moved g d e rests names → (q : ℕ) → (is_in (lease_of_root g q) rests ≡ true → ⊥) → (ds : List ℕ) → length ds ≤ 3 → end (trees_of g e) q ds ≡ end (trees_of g d) q ds
  moved-other (same paths) q away ds le = paths q ds le
  moved-other (made image within under fresh post at changes named maps) q away ds le =
      link-others (trees_of g d) (trees_of g e) image fresh post at changes q ds le
      (λ is. away (subst (λ (l : ℕ). is_in l rests ≡ true) (sym (ap (lease_of_root g) is ∙ lease-live g image within)) under))
  moved-other (turned turn own) q away ds le = ends-same (trees_of g d) (trees_of g e) q turn (elim (own q) [ inl is ↦ is | inr under ↦ absurd (away under) ]) ds le

  -- a block that no path reaches stays so, unless the link names it
  pub moved-off : Moved g d e rests names → (c : ℕ) → (IsNamedBlock g d rests names c → ⊥) → Unreachable (trees_of g d) c → Unreachable (trees_of g e) c
  moved-off (same paths) c free off = λ q ds m le at. off q ds m le (sym (paths q ds le) ∙ at)
  moved-off (made image within under fresh post at changes named maps) c free off = λ q ds m le there.
      elim (link-back (trees_of g d) (trees_of g e) image fresh post at changes q ds c m le there) [
        | inl before ↦ off q ds m le before
        | inr new ↦ free (subst (λ (b : ℕ). IsNamedBlock g d rests names b) new.1.2 (named new.1.0 new.1.1))
      ]
  moved-off (turned turn own) c free off = λ q ds m le there. (let x = roots-reach (trees_of g d) (trees_of g e) turn q ds c m le there in off x.0 ds x.1 le x.2)

  -- what is reached is of the pool and allocated, where what was reached stays allocated
  pub moved-rooted : IsRooted g d → Moved g d e rests names →
      ((q : ℕ) (ds : List ℕ) (b : ℕ) (m : Bool) → length ds ≤ 3 → end (trees_of g d) q ds ≡ To b m → is_allocated g d b ≡ true → is_allocated g e b ≡ true) → IsRooted g e
  moved-rooted rooted (same paths) bits q ds b m le there =
      let was = sym (paths q ds le) ∙ there in
      let r = rooted q ds b m le was in
      (r.0, bits q ds b m le was r.1)
  moved-rooted rooted (made image within under fresh post at changes named maps) bits q ds b m le there =
      elim (link-back (trees_of g d) (trees_of g e) image fresh post at changes q ds b m le there) [
        | inl before ↦ (let r = rooted q ds b m le before in (r.0, bits q ds b m le before r.1))
        | inr is ↦ (let n = subst (λ (x : ℕ). IsNamedBlock g d rests names x) is.1.2 (named is.1.0 is.1.1) in (n.pool, maps b n.pool ∙ n.allocated))
      ]
  moved-rooted rooted (turned turn own) bits q ds b m le there =
      let x = roots-reach (trees_of g d) (trees_of g e) turn q ds b m le there in
      let r = rooted x.0 ds b x.1 le x.2 in
      (r.0, bits x.0 ds b x.1 le x.2 r.1)

-- where a write is written that rests on these leases: to a block that is none of the pool, to a fresh one, or to the end of a marked path
pub data WritesTree (g : Geometry) (d : Device) (rests : List ℕ) (block : ℕ) : Type 0 where
  fixed : ((b : ℕ) → InPool g b → b ≢ block) → WritesTree g d rests block
  free : is_in (extent_lease g (extent_of g block)) rests ≡ true → Unreachable (trees_of g d) block → WritesTree g d rests block
  owned : (image : ℕ) → image < g.images → is_in (image_lease image) rests ≡ true → (at : List ℕ) → length at ≤ 3 → end (trees_of g d) image at ≡ To block true → WritesTree g d rests block

module _ (g : Geometry) (d : Device) (rests : List ℕ) (block : ℕ) where
  -- a block on a path isn't written by a write that doesn't rest on its image's lease
  pub apart-path : Shared (trees_of g d) → IsRooted g d → WritesTree g d rests block → (q : ℕ) (ds : List ℕ) (c : ℕ) (m : Bool) → length ds ≤ 3 → end (trees_of g d) q ds ≡ To c m →
      (is_in (lease_of_root g q) rests ≡ true → ⊥) → c ≢ block
  apart-path shared rooted (fixed out) q ds c m le at away = out c (rooted q ds c m le at).0
  apart-path shared rooted (free under off) q ds c m le at away = λ is. off q ds m le (at ∙ ap (λ (b : ℕ). To b m) is)
  apart-path shared rooted (owned image within under above low mine) q ds c m le at away = λ is.
      (let one = shared.single image q above ds block m low le mine (at ∙ ap (λ (b : ℕ). To b m) is) in
      away (subst (λ (l : ℕ). is_in l rests ≡ true) (sym (ap (lease_of_root g) one.0 ∙ lease-live g image within)) under))

  -- nor is a block that no path reaches, by one that doesn't rest on its extent's lease
  pub apart-free : WritesTree g d rests block → (c : ℕ) → InPool g c → Unreachable (trees_of g d) c → (is_in (extent_lease g (extent_of g c)) rests ≡ true → ⊥) → c ≢ block
  apart-free (fixed out) c pool off away = out c pool
  apart-free (free under free') c pool off away = λ is. away (subst (λ (b : ℕ). is_in (extent_lease g (extent_of g b)) rests ≡ true) (sym is) under)
  apart-free (owned image within under above low mine) c pool off away = λ is. off image above true low (mine ∙ ap (λ (b : ℕ). To b true) (sym is))
