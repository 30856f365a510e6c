-- A link as it is asked, by the paths of its image on the device and by the bytes with which its blocks were filled.
use Rattle.std.proofs.Common.{◌≡◌, ◌≢◌, ℕ, ◌+◌, ◌≤◌, List, [], ◌∷◌, length, true, ap, sym, ◌∙◌, arith}
use Rattle.plx_base.specs.Sectors.{Device}
use Rattle.plx_commands.specs.Replies.{is_in}
use Rattle.plx_geom.specs.Geometry.{Geometry, extent_lease}
use Rattle.plx_radix.specs.Nodes.{pointer_at}
use Rattle.plx_radix.specs.Paths.{To, Trees, end}
use Rattle.plx_rules.specs.Pools.{is_allocated}
use Rattle.plx_rules.specs.Rests.{extent_of}
use Rattle.law_paths.specs.Links.{Copies}
use Rattle.plx_rules.specs.Trees.{trees_of}
use Rattle.law_tree.proofs.ByKind.{Chain}
use Rattle.law_tree.proofs.Treed.{IsFree}

-- bytes are copies of what stands below a path, but for the path's own entries
abbrev pub CopiesOf : Trees → ℕ → (fresh : ℕ → ℕ) → (filled : ℕ → List ℕ) → List ℕ → List ℕ → Type 0
CopiesOf w r fresh filled [] ds = Unit {0}
CopiesOf w r fresh filled (x ∷ post) ds =
    (pointer_at (filled (length (x ∷ post))) x ≡ To (fresh (length post)) true)
    × ((i : ℕ) → i ≢ x → pointer_at (filled (length (x ∷ post))) i ≡ end w r (i ∷ ds))
    × CopiesOf w r fresh filled post (x ∷ ds)

-- the link: it speaks of the paths of its image alone, which the image's lease keeps
pub record AsksLink (w : Trees) (image : ℕ) (fresh : ℕ → ℕ) (filled : ℕ → List ℕ) (post at : List ℕ) : Type 0 where
  pub whole : length post + length at ≡ 3
  pub apart : (j k : ℕ) → j ≤ length post → k ≤ length post → fresh j ≡ fresh k → j ≡ k
  pub copies : CopiesOf w image fresh filled post at
  pub unowned : (b : ℕ) → end w image at ≢ To b true

copies-of-move : (w v : Trees) (r : ℕ) (fresh : ℕ → ℕ) (filled : ℕ → List ℕ) (post ds : List ℕ) → ((es : List ℕ) → length es ≤ 3 → end v r es ≡ end w r es) → length post + length ds ≡ 3 →
    CopiesOf w r fresh filled post ds → CopiesOf v r fresh filled post ds
copies-of-move w v r fresh filled [] ds ends whole copies = tt
copies-of-move w v r fresh filled (x ∷ post) ds ends whole copies = (
  copies.0,
  (λ i ne. copies.1 i ne ∙ sym (ends (i ∷ ds) (omega (arith, whole)))),
  copies-of-move w v r fresh filled post (x ∷ ds) ends (omega (arith, whole)) copies.2,
)

-- so it stays where those paths stay
pub asks-link-moves : (w v : Trees) (image : ℕ) (fresh : ℕ → ℕ) (filled : ℕ → List ℕ) (post at : List ℕ) → ((es : List ℕ) → length es ≤ 3 → end v image es ≡ end w image es) →
    AsksLink w image fresh filled post at → AsksLink v image fresh filled post at
asks-link-moves w v image fresh filled post at ends asks =
    let whole = asks.whole in
    record {
      whole = asks.whole;
      apart = asks.apart;
      copies = copies-of-move w v image fresh filled post at ends asks.whole asks.copies;
      unowned = λ b e. asks.unowned b (sym (ends at (omega (arith, whole))) ∙ e);
    }

copies-stand : (g : Geometry) (d : Device) (r : ℕ) (fresh : ℕ → ℕ) (filled : ℕ → List ℕ) (post ds : List ℕ) → ((j : ℕ) → j ≤ length post → d (fresh j) ≡ filled j) →
    CopiesOf (trees_of g d) r fresh filled post ds → Copies (trees_of g d) r fresh post ds
copies-stand g d r fresh filled [] ds stand copies = tt
copies-stand g d r fresh filled (x ∷ post) ds stand copies = (
  ap (λ (y : List ℕ). pointer_at y x) (stand (length (x ∷ post)) (omega arith)) ∙ copies.0,
  (λ i ne. ap (λ (y : List ℕ). pointer_at y i) (stand (length (x ∷ post)) (omega arith)) ∙ copies.1 i ne),
  copies-stand g d r fresh filled post (x ∷ ds) (λ j le. stand j (omega (arith, le))) copies.2,
)

-- where all claims stand, its blocks are free, allocated, and hold what they were filled with: then it is a chain
pub chain-asked : (g : Geometry) (d : Device) (rests : List ℕ) (names : ℕ → Type 0) (image : ℕ) (fresh : ℕ → ℕ) (filled : ℕ → List ℕ) (post at : List ℕ) → AsksLink (trees_of g d) image fresh filled post at →
    ((j : ℕ) → j ≤ length post → IsFree g d (fresh j) × (is_allocated g d (fresh j) ≡ true) × (d (fresh j) ≡ filled j) × (is_in (extent_lease g (extent_of g (fresh j))) rests ≡ true) × names (fresh j)) →
    Chain g d rests names image fresh post at
chain-asked g d rests names image fresh filled post at asks facts = record {
  can = record {
    whole = asks.whole;
    apart = asks.apart;
    unreachable = λ j le. (facts j le).0.off;
    copies = copies-stand g d image fresh filled post at (λ j le. (facts j le).2) asks.copies;
    unowned = asks.unowned;
  };
  named = λ j le. (let f = facts j le in record { pool = f.0.pool; allocated = f.1; under = f.3; named = f.4 });
}
