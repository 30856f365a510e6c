use Rattle.std.proofs.Common.{◌≡◌, ℕ, ap, refl, sym, subst}
use Rattle.plx_geom.specs.Geometry.{lease_at}
use Rattle.plx_rules.specs.Boot as boot
use Rattle.plx_rules.specs.Boot.{Idle}
use Rattle.plx_rules.specs.Holds.{Hold, Nothing}
use Rattle.plx_appliance.specs.Space.{extents_in}
use Rattle.plx_appliance.specs.Tokens.{lease_holds_at}
use Rattle.plx_appliance.proofs.Held.{nothing-at}
use Rattle.plx_appliance.proofs.appliance.Appliance.fresh.Goals as goal

pub returns-clause-log : goal.returns-clause-log
returns-clause-log c =
    let h = c.in_ok-holdings.holdings in
    record {
      run = boot.empty;
      at = ap Idle (sym c.in_ok-holdings.ensures.known);
      held = λ lease within.
          let P : (leases extents : ℕ → Hold) → Type 0 = λ leases extents. Nothing ≡ lease_holds_at h.setting.geometry leases extents (lease_at lease) in
          subst (λ (leases : ℕ → Hold). P leases (extents_in h)) (sym c.in_ok-holdings.ensures.leases)
          (subst (P (λ image. Nothing)) (sym c.in_ok-holdings.ensures.extents) (nothing-at h.setting.geometry (lease_at lease)));
      hand = sym c.in_ok-holdings.ensures.hand;
      unfilled = refl;
    }
