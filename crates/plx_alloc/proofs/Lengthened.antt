-- A lease that is held up to a later moment.
use Rattle.std.proofs.Common.{◌≡◌, ap, refl, ℕ, List, Bool, inl, inr}
use Rattle.std.specs.Prelude.{filter}
use Rattle.std.proofs.Math.Path.{fun_ext}
use Rattle.std.proofs.lemmas.Bool.Decides.{eqb_tells}
use Rattle.plx_commands.specs.Places.{at as with_hold}
use Rattle.plx_geom.specs.Geometry.{Geometry}
use Rattle.plx_lease.specs.Renewing.{longer_hold}
use Rattle.plx_rules.specs.Hands.{is_held}
use Rattle.plx_rules.specs.Holds.{Hold, Nothing, Seen, Wrote, Waited, Held}
use Rattle.plx_rules.specs.Rests.{extent_of}
use Rattle.plx_alloc.specs.Tables.{held_hand}

-- of two changes of one place the later one counts
pub at-twice : {X : Type 0} (table : ℕ → X) (place : ℕ) (one other : X) → with_hold (with_hold table place one) place other ≡ with_hold table place other
at-twice table place one other = fun_ext (λ k. elim (eqb_tells k place) [ inl same ↦ rw same.0 refl | inr apart ↦ rw apart.0 refl ])

-- it is held before and after, or neither
pub longer-held : (end : ℕ) (hold : Hold) → is_held (longer_hold end hold) ≡ is_held hold
longer-held end Nothing = refl
longer-held end (Seen sample) = refl
longer-held end (Wrote claim until) = refl
longer-held end (Waited claim until) = refl
longer-held end (Held claim until) = refl

-- the same blocks lie in extents whose leases are held
pub longer-hand : (g : Geometry) (leases : ℕ → Hold) (extent end : ℕ) (hand : List ℕ) →
    held_hand g (with_hold leases extent (longer_hold end (leases extent))) hand ≡ held_hand g leases hand
longer-hand g leases extent end hand = ap (λ (p : ℕ → Bool). filter p hand) (fun_ext (λ block. same (extent_of g block)))
  where
    same : (k : ℕ) → is_held (with_hold leases extent (longer_hold end (leases extent)) k) ≡ is_held (leases k)
    same k = elim (eqb_tells k extent) [
      | inl here ↦ rw here.0 (rw here.1 (longer-held end (leases extent)))
      | inr apart ↦ rw apart.0 refl
    ]
