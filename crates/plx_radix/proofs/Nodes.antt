-- One pointer of a node is written.
use Rattle.std.proofs.Common.{ℕ, ◌*◌, ◌/◌, ◌^◌, ◌<◌, ◌≤◌, ◌≡◌, ◌≢◌, ◌⊎◌, inl, inr, true, false, List, length, refl, ◌∙◌, ap, arith}
use Rattle.std.specs.Prelude.{◌==◌, leb}
use Rattle.std.proofs.lemmas.Bool.Decides.{eqb_tells, leb_tells}
use Rattle.plx_base.proofs.Fields.{length-little, number_at-written, number_at-before, number_at-after}
use Rattle.plx_base.proofs.Spelling.{only-written}
use Rattle.plx_base.specs.Fields.{little, number_at}
use Rattle.plx_base.specs.Pointers.{with_mark, without_mark}
use Rattle.plx_base.specs.Spelling.{OnlySector}
use Rattle.plx_radix.specs.Nodes.{pointer_of, pointer_at, with_pointer}
use Rattle.plx_radix.specs.Paths.{Hole, To}

-- a hole, and the marked pointer to a block
pub pointer-hole : pointer_of 0 ≡ Hole
unfolding pointer_of
pointer-hole = refl

pub pointer-marked : (b : ℕ) → 1 ≤ b → b < 2 ^ 26 → pointer_of (with_mark b) ≡ To b true
unfolding pointer_of
pointer-marked b low high = go (eqb_tells (without_mark (with_mark b)) 0) (leb_tells (2 ^ 63) (with_mark b))
  where
    same : without_mark (with_mark b) ≡ b
    same = omega arith

    go : (((without_mark (with_mark b) == 0) ≡ true) × (without_mark (with_mark b) ≡ 0)) ⊎ (((without_mark (with_mark b) == 0) ≡ false) × (without_mark (with_mark b) ≢ 0)) →
        ((leb (2 ^ 63) (with_mark b) ≡ true) × (2 ^ 63 ≤ with_mark b)) ⊎ ((leb (2 ^ 63) (with_mark b) ≡ false) × (with_mark b < 2 ^ 63)) → pointer_of (with_mark b) ≡ To b true
    go (inl h) k = absurd (omega (arith, same, h.1))
    go (inr h) (inr k) = absurd (omega (arith, k.1))
    go (inr h) (inl k) = rw (h.0, k.0, same) refl

-- it stands there, the others stay, and one sector tells
pub pointer-written : (d b : ℕ) (node : List ℕ) → length node ≡ 4096 → d < 512 → 1 ≤ b → b < 2 ^ 26 → pointer_at (with_pointer d (with_mark b) node) d ≡ To b true
pointer-written d b node long lt low high = ap pointer_of (number_at-written 8 (8 * d) (with_mark b) node (omega arith) (omega arith)) ∙ pointer-marked b low high

pub pointer-others : (d n : ℕ) (node : List ℕ) → length node ≡ 4096 → d < 512 → (e : ℕ) → e ≢ d → pointer_at (with_pointer d n node) e ≡ pointer_at node e
pointer-others d n node long lt e ne = ap pointer_of (go (order e d))
  where
    order : (a b : ℕ) → (a < b) ⊎ (a ≡ b) ⊎ (b < a)
    order a b = grind arith

    go : (e < d) ⊎ (e ≡ d) ⊎ (d < e) → number_at 8 (8 * e) (with_pointer d n node) ≡ number_at 8 (8 * e) node
    go (inl h) = number_at-before 8 (8 * e) (8 * d) (little 8 n) node (omega arith) (omega arith)
    go (inr (inl h)) = absurd (ne h)
    go (inr (inr h)) = number_at-after 8 (8 * e) (8 * d) (little 8 n) node (omega arith) (let l = length-little 8 n in omega (arith, l))

pub pointer-only : (d n : ℕ) (node : List ℕ) → length node ≡ 4096 → d < 512 → OnlySector (d / 64) (with_pointer d n node) node
pointer-only d n node long lt = let l = length-little 8 n in only-written (d / 64) (8 * d) (little 8 n) node (omega arith) (omega (arith, l)) (omega arith)
