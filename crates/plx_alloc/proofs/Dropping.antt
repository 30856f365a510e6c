-- Leases that are dropped at a reading, extent by extent.
use Rattle.std.proofs.Common.{◌≡◌, ◌≢◌, ◌<◌, ◌≤◌, ◌+◌, ◌∙◌, ap, sym, refl, ℕ, None, inl, inr, arith}
use Rattle.std.proofs.Math.Path.{fun_ext}
use Rattle.std.proofs.lemmas.List.{get_or_past}
use Rattle.plx_commands.proofs.Places.{at-other, at-same}
use Rattle.plx_commands.specs.Places.{at as with_hold}
use Rattle.plx_rules.specs.Holds.{Hold, Nothing, first_hold}
use Rattle.plx_alloc.specs.Tables.{IsSame, hand_numbers, extent_hold, extent_leases}
use Rattle.plx_alloc.specs.declared.allocator.Allocator.{Allocator}
use Rattle.plx_base.proofs.Tests.{below-next, below-or-past}

-- the extents below one have had their turn, the others not
pub record IsDropped (old new : Allocator) (reading index : ℕ) : Type 0 where
  pub below : (extent : ℕ) → extent < index → extent_leases new extent ≡ first_hold None reading (extent_leases old extent)
  pub past : (extent : ℕ) → index ≤ extent → extent_leases new extent ≡ extent_leases old extent
  pub hand : hand_numbers new ≡ hand_numbers old
  pub claims : new.claims ≡ old.claims
  pub same : IsSame old new

pub dropped-none : (a : Allocator) (reading : ℕ) → IsDropped a a reading 0
dropped-none a reading = record {
  below = λ extent less. absurd (omega (arith, less));
  past = λ extent more. refl;
  hand = refl;
  claims = refl;
  same = record { geometry = refl; boot = refl };
}

pub extents-dropped-next : (a b c : Allocator) (reading index : ℕ) → IsDropped a b reading index →
    extent_leases c ≡ with_hold (extent_leases b) index (first_hold None reading (extent_leases b index)) → hand_numbers c ≡ hand_numbers b → c.claims ≡ b.claims → IsSame b c →
    IsDropped a c reading (index + 1)
extents-dropped-next a b c reading index h is hand claims same = record {
  below = λ extent less. elim (below-next extent index less) [
    | inl e ↦ rw e here
    | inr before ↦ there extent (λ e. absurd (omega (arith, e, before))) ∙ h.below extent before
  ];
  past = λ extent more. there extent (λ e. absurd (omega (arith, e, more))) ∙ h.past extent (omega (arith, more));
  hand = hand ∙ h.hand;
  claims = claims ∙ h.claims;
  same = record { geometry = same.geometry ∙ h.same.geometry; boot = same.boot ∙ h.same.boot };
}
  where
    here : extent_leases c index ≡ first_hold None reading (extent_leases a index)
    here =
        ap (λ (t : ℕ → Hold). t index) is ∙ (at-same (extent_leases b) index (first_hold None reading (extent_leases b index))
        ∙ ap (first_hold None reading) (h.past index (omega arith)))

    there : (extent : ℕ) → extent ≢ index → extent_leases c extent ≡ extent_leases b extent
    there extent ne = ap (λ (t : ℕ → Hold). t extent) is ∙ at-other (extent_leases b) index extent (first_hold None reading (extent_leases b index)) ne

pub extents-dropped-all : (a b : Allocator) (reading index : ℕ) → IsDropped a b reading index → a.geometry.extents ≤ index →
    extent_leases b ≡ (λ extent. first_hold None reading (extent_leases a extent))
extents-dropped-all a b reading index h over = fun_ext (λ extent. elim (below-or-past extent index) [
  | inl below ↦ h.below extent below
  | inr past ↦ h.past extent past ∙ (none' extent past ∙ sym (ap (first_hold None reading) (none' extent past)))
])
  where
    none' : (extent : ℕ) → index ≤ extent → extent_leases a extent ≡ Nothing
    none' extent past =
        let long = a.long in
        ap extent_hold (get_or_past a.extents.items extent None (omega (arith, long, over, past)))
