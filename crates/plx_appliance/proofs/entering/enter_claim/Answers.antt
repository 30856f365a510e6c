use Rattle.std.proofs.Common.{◌≡◌, ℕ, [], refl, ap, ◌∙◌}
use Rattle.std.specs.Prelude.{nat_lt, true}
use Rattle.plx_commands.specs.Limits.{last_claim}
use Rattle.plx_geom.specs.Geometry.{image_lease}
use Rattle.plx_rules.specs.Attaching.{after_claim}
use Rattle.plx_rules.specs.Claims.{claim_process}
use Rattle.plx_rules.specs.Processes.{followed_by}
use Rattle.plx_session.specs.Giving.{rules_setting}
use Rattle.plx_appliance.specs.Kept.{known_by}
use Rattle.plx_appliance.specs.Tokens.{image_leases}
use Rattle.plx_appliance.proofs.Numbers.{next-told}
use Rattle.plx_appliance.proofs.entering.enter_claim.Goals as goal
use Rattle.plx_base.proofs.Tests.{nat_lt-true}

pub returns : goal.returns
returns c =
    let h = c.args.holdings.now in
    let s = rules_setting h.setting in
    let slot = c.args.slot.0 in
    let claims = h.space.claims in
    let told = next-told claims c.in-Some.number h.space.begun c.in-Some.ensures.number in
    let test : nat_lt claims last_claim ≡ true = nat_lt-true claims last_claim told.0 in
    let process = λ (number now : ℕ). followed_by (claim_process s.boot [] (image_lease slot) number) (after_claim s (known_by h.sessions now) slot) in
    let e = c.claim.ensures in
    let next = c.in-Some.ensures in
    record {
      process = rw test (e.rest (known_by h.sessions c.next_claim.new.self.claims)
          ∙ ap (λ (n : ℕ). process n c.next_claim.new.self.claims) told.1
          ∙ ap (process claims) next.claims);
      leases = refl;
      extents = next.leases;
      hand = next.hand;
      setting = refl;
      tied = record { same = e.setting; room = e.slots };
      inside = e.starts (image_leases h.leases.leases.items) c.requires.free;
      suits = tt;
      sessions = refl;
    }
