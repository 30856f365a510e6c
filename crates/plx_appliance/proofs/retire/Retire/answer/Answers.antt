use Rattle.std.proofs.Common.{ℕ, List, Option, refl, ap, ◌∙◌}
use Rattle.plx_alloc.specs.declared.allocator.Allocator.{Allocator}
use Rattle.plx_alloc.specs.Retires.{retire_extents_rest as extents_rest}
use Rattle.plx_geom.specs.Geometry.{Geometry}
use Rattle.plx_rules.specs.Process.{answered}
use Rattle.plx_session.specs.Giving.{rules_setting}
use Rattle.plx_appliance.specs.Kept.{known_by, sessions_of}
use Rattle.plx_appliance.specs.Lent.{lends}
use Rattle.plx_appliance.specs.Retires.{IsAtImage, around_of, retire_suits, retire_tells}
use Rattle.plx_appliance.specs.Tokens.{image_leases}
use Rattle.plx_appliance.specs.declared.retire.RetireStage.{RetireStage}
use Rattle.plx_appliance.specs.declared.retire.RetireStage.TheVariants as stage
use Rattle.plx_session.specs.declared.setting.Setting.{Setting}
use Rattle.plx_appliance.proofs.retire.Retire.answer.Goals as goal

-- a retire at an image suits whatever is kept of space
image-suits : (space : Allocator) (setting : Setting) (at : RetireStage) →
    IsAtImage setting at → retire_suits space setting at
image-suits space setting (stage.Extents m) is = absurd is
image-suits space setting (stage.Image image) is = is

-- and gives nothing back
image-tells : (g : Geometry) (setting : Setting) (at : RetireStage)
    (found : Option (ℕ × List ℕ)) → IsAtImage setting at → retire_tells g at found
image-tells g setting (stage.Extents m) found is = absurd is
image-tells g setting (stage.Image image) found is = tt

pub returns-in-None : goal.returns-in-None
returns-in-None c =
    let e = c.in-None.ensures in
    let r = c.args.self.now in
    let h = c.args.holdings.now in
    let m = c.in-Extents.extents in
    let leases = image_leases h.leases.leases.items in
    let appliance = r.setting.appliance.0 in
    let o = λ (claims : ℕ).
    around_of (rules_setting r.setting) appliance (known_by h.sessions claims) leases in
    let same = ap (λ (claims : ℕ). answered (extents_rest (o claims) h.space m) c.args.answer.now)
    e.claims in
    record {
      rest = rw c.in-Extents.is (e.rest (o c.answer.new.space.claims) ∙ same);
      setting = refl;
      kept = refl;
      sessions = refl;
      suits = λ none. e.suits refl;
      moves = rw c.in-Extents.is (record {
        images = refl;
        extents = e.leases;
        hand = e.hand;
        found = λ fits none. e.found fits refl;
      });
    }

pub returns-in-Some : goal.returns-in-Some
returns-in-Some c =
    let e = c.in-Some.ensures in
    let r = c.args.self.now in
    let h = c.args.holdings.now in
    let new = c.go_on.new.self in
    let m = c.in-Extents.extents in
    let lent = lends (sessions_of h.sessions.images.items)
    (image_leases h.leases.leases.items) c.answer.new.space in
    let leases = image_leases h.leases.leases.items in
    let appliance = r.setting.appliance.0 in
    let o = λ (claims : ℕ).
    around_of (rules_setting r.setting) appliance (known_by h.sessions claims) leases in
    let same = ap (λ (claims : ℕ). answered (extents_rest (o claims) h.space m) c.args.answer.now)
    e.claims in
    record {
      rest = rw c.in-Extents.is (c.go_on.ensures.rest lent
          ∙ c.after_extents-next.ensures.process lent.space.claims
          ∙ e.rest (o lent.space.claims)
          ∙ same);
      setting = c.go_on.ensures.setting;
      kept = refl;
      sessions = refl;
      suits = λ none. image-suits lent.space new.setting new.stage (c.go_on.ensures.image none);
      moves = rw c.in-Extents.is (record {
        images = refl;
        extents = e.leases;
        hand = e.hand;
        found = λ fits none. image-tells _ new.setting new.stage _ (c.go_on.ensures.image none);
      });
    }
