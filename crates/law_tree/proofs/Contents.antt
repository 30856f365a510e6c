-- What a virtual block's path leads to, and which contents a landing changes.
use Rattle.std.proofs.Common.{◌≡◌, ◌≢◌, ℕ, ◌*◌, ◌^◌, ◌≤◌, ◌⊎◌, inl, inr, List, [], ◌∷◌, length, Bool, true, false, refl, ap, ◌∙◌, arith}
use Rattle.std.specs.Prelude.{◌==◌, leb}
use Rattle.plx_base.specs.Blocks.{zeros}
use Rattle.plx_base.specs.Fields.{number_at}
use Rattle.plx_base.specs.Pointers.{without_mark}
use Rattle.plx_base.specs.Sectors.{Device}
use Rattle.plx_geom.specs.Geometry.{Geometry}
use Rattle.plx_radix.specs.Nodes.{pointer_of, pointer_at}
use Rattle.plx_radix.specs.Paths.{Pointer, Hole, To, end, hop, Shared}
use Rattle.plx_rules.specs.Stored.{all_of, Holds, leads_to}
use Rattle.law_paths.specs.Links.{SamePaths, LinkChanges, down}
use Rattle.law_paths.proofs.Kept.{link-leaves, chain-reaches}
use Rattle.plx_rules.specs.Trees.{trees_of}

-- what stands behind a pointer
abbrev pub behind : Device → Pointer → List ℕ
behind d Hole = zeros
behind d (To b m) = d b

-- ---- the definition of the stored image reads the same

-- a pointer as a number is a hole or a block
pub pointer-cases : (n : ℕ) → (((without_mark n == 0) ≡ true) × (pointer_of n ≡ Hole)) ⊎ (((without_mark n == 0) ≡ false) × (pointer_of n ≡ To (without_mark n) (leb (2 ^ 63) n)))
unfolding pointer_of
pointer-cases n = by_test (without_mark n == 0) refl
  where
    by_test : (t : Bool) → (without_mark n == 0) ≡ t → (((without_mark n == 0) ≡ true) × (pointer_of n ≡ Hole)) ⊎ (((without_mark n == 0) ≡ false) × (pointer_of n ≡ To (without_mark n) (leb (2 ^ 63) n)))
    by_test true e = inl (e, rw e refl)
    by_test false e = inr (e, rw e refl)

-- the pointers below one, by digits in the order of the way
abbrev pub walk : Device → Pointer → List ℕ → Pointer
walk d p [] = p
walk d p (x ∷ digits) = walk d (hop (λ b k. pointer_at (d b) k) p x) digits

walk-hole : (d : Device) (digits : List ℕ) → walk d Hole digits ≡ Hole
walk-hole d [] = refl
walk-hole d (x ∷ digits) = walk-hole d digits

pub leads-walk : (d : Device) (n : ℕ) (digits : List ℕ) → leads_to (all_of d) n digits ≡ Holds (behind d (walk d (pointer_of n) digits))
leads-walk d n [] = elim (pointer-cases n) [
  | inl hole ↦ rw (hole.0, hole.1) refl
  | inr to ↦ rw (to.0, to.1) refl
]
leads-walk d n (x ∷ digits) = elim (pointer-cases n) [
  | inl hole ↦ rw (hole.0, hole.1, walk-hole d digits) refl
  | inr to ↦ rw (to.0, to.1) (leads-walk d (number_at 8 (8 * x) (d (without_mark n))) digits)
]

-- ---- which contents change

module _ (g : Geometry) (d e : Device) (block : ℕ) (others : (c : ℕ) → c ≢ block → e c ≡ d c) where
  behind-same : (p : Pointer) → ((m : Bool) → p ≢ To block m) → behind e p ≡ behind d p
  behind-same Hole ne = refl
  behind-same (To b m) ne = others b (λ is. ne m (ap (λ (x : ℕ). To x m) is))

  -- where no path changes, those whose data block isn't written stay
  pub content-same : SamePaths (trees_of g d) (trees_of g e) → (q : ℕ) (ds : List ℕ) → length ds ≡ 3 → ((m : Bool) → end (trees_of g d) q ds ≢ To block m) →
      behind e (end (trees_of g e) q ds) ≡ behind d (end (trees_of g d) q ds)
  content-same paths q ds three ne = ap (behind e) (paths q ds (omega (arith, three))) ∙ behind-same (end (trees_of g d) q ds) ne

  -- where a link is made, all but that of its own virtual block do
  pub content-linked : Shared (trees_of g d) → (image : ℕ) (fresh : ℕ → ℕ) (post at : List ℕ) → LinkChanges (trees_of g d) (trees_of g e) image fresh post at →
      ((q : ℕ) (ds : List ℕ) (m : Bool) → length ds ≡ 3 → end (trees_of g d) q ds ≢ To block m) →
      (q : ℕ) (ds : List ℕ) → length ds ≡ 3 → ((q ≡ image) × (ds ≡ down post at) → ⊥) → behind e (end (trees_of g e) q ds) ≡ behind d (end (trees_of g d) q ds)
  content-linked shared image fresh post at changes off q ds three own =
      ap (behind e) (link-leaves (trees_of g d) (trees_of g e) image fresh post at changes q ds three own) ∙ behind-same (end (trees_of g d) q ds) (λ m. off q ds m three)

  -- and that one is what stands in the fresh data block
  pub content-own : (image : ℕ) (fresh : ℕ → ℕ) (post at : List ℕ) → LinkChanges (trees_of g d) (trees_of g e) image fresh post at → end (trees_of g e) image at ≡ To (fresh (length post)) true →
      behind e (end (trees_of g e) image (down post at)) ≡ e (fresh 0)
  content-own image fresh post at changes top = ap (behind e) (chain-reaches (trees_of g d) (trees_of g e) image fresh post at changes post at (omega arith) changes.can.copies top)

-- a node that a marked path reaches is no data block
pub node-off : (g : Geometry) (d : Device) → Shared (trees_of g d) → (image : ℕ) (above : List ℕ) (block : ℕ) → length above ≤ 2 → end (trees_of g d) image above ≡ To block true →
    (q : ℕ) (ds : List ℕ) (m : Bool) → length ds ≡ 3 → end (trees_of g d) q ds ≢ To block m
node-off g d shared image above block low owned q ds m three at =
    let e = shared.level image q above ds block true m (omega (arith, low)) (omega (arith, three)) owned at in
    omega (arith, e, low, three)
