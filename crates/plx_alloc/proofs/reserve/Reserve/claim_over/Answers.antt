use Rattle.std.proofs.Common.{rules, ◌≡◌, ◌<◌, ◌∙◌, ℕ, ap, sym, refl, subst, length, Some, arith}
use Rattle.plx_base.specs.declared.numbers.ExtentNo.{ExtentNo}
use Rattle.plx_token.specs.declared.kind.Extent.{Extent}
use Rattle.plx_lease.specs.ClaimEnds.{claim_end}
use Rattle.plx_lease.specs.Uses.{use_if, use_of}
use Rattle.plx_commands.specs.Places.{at as with_hold}
use Rattle.plx_geom.specs.Geometry.{map_at}
use Rattle.plx_rules.specs.Claims.{ClaimHeld}
use Rattle.plx_rules.specs.Holds.{Hold, Held}
use Rattle.plx_rules.specs.Hands.{is_held}
use Rattle.plx_commands.proofs.Places.{at-same}
use Rattle.plx_rules.specs.InUse.{earlier}
use Rattle.plx_rules.specs.Space.{after_extent_claim, extent_use}
use Rattle.plx_alloc.specs.Tables.{HoldsHand, allocator_setting, hand_numbers, extent_leases}
use Rattle.plx_alloc.specs.Takes.{next_rest, outer_known, reserve_follows, taking_of}
use Rattle.plx_alloc.specs.declared.reserve.Reserve.{Reserve}
use Rattle.plx_alloc.specs.declared.reserve.ReserveAt.TheVariants as at
use Rattle.plx_alloc.proofs.Suited.{hand-held-more, numbers-length}
use Rattle.plx_alloc.proofs.Taking.{claim-stands, claimed-rest, earlier-reached}
use Rattle.plx_alloc.proofs.reserve.Reserve.claim_over.Goals as goal

own-leases : (c : goal.After-put_held) → extent_leases c.put_held.new.self ≡ with_hold (extent_leases c.args.space.now) c.args.self.now.extent.0 (Held c.in-Held.held.claim c.in-Held.held.until)
own-leases c =
    let a = c.args.space.now in
    let m = c.args.self.now in
    let held = c.in-Held.held in
    let mine : held.lease ≡ m.claim.lease = search rules in
    let extent : held.lease.0.0 ≡ m.extent.0 = ap (λ (k : Extent). k.0.0) mine ∙ ap (λ (e : ExtentNo). e.0) (claim-stands a m c.requires.claim c.requires.suits.stands).lease in
    c.put_held.ensures.leases ∙ ap (λ e. with_hold (extent_leases a) e (Held held.claim held.until)) extent

held-hand : (c : goal.After-put_held) → HoldsHand c.put_held.new.self
held-hand c =
    hand-held-more c.args.space.now c.put_held.new.self c.args.self.now.extent.0 c.in-Held.held.claim c.in-Held.held.until c.put_held.ensures.same (own-leases c)
    c.put_held.ensures.hand c.requires.suits.held

pub go_on-requires-clause-room : goal.go_on-requires-clause-room
go_on-requires-clause-room c = (claim-stands c.args.space.now c.args.self.now c.requires.claim c.requires.suits.stands).other.none_yet

pub returns-in-Held-clause-rest : goal.returns-in-Held-clause-rest
returns-in-Held-clause-rest c = λ o.
    let a = c.args.space.now in
    let b = c.put_held.new.self in
    let m = c.args.self.now in
    let held = c.in-Held.held in
    let stands = claim-stands a m c.requires.claim c.requires.suits.stands in
    let mine : held.lease ≡ m.claim.lease = search rules in
    let extent : held.lease.0.0 ≡ m.extent.0 = ap (λ (k : Extent). k.0.0) mine ∙ ap (λ (e : ExtentNo). e.0) stands.lease in
    let high : c.until-self.result < 562949953421312 = subst (λ n. n < 562949953421312) (sym c.until-self.ensures) held.high in
    let new : Reserve = record m { at = at.Map; until = c.until-self.result; uses = Some c.earlier.result; guard = high } in
    let leases : extent_leases b ≡ with_hold (extent_leases a) m.extent.0 (Held held.claim c.until-self.result) =
    c.put_held.ensures.leases ∙ (ap (λ e. with_hold (extent_leases a) e (Held held.claim held.until)) extent
    ∙ ap (λ n. with_hold (extent_leases a) m.extent.0 (Held held.claim n)) (sym c.until-self.ensures)) in
    let first : use_of c.earlier.result ≡ earlier (extent_use a.geometry m.extent.0 c.until-self.result) (use_if m.uses) =
    c.earlier.ensures ∙ ap (λ use'. earlier use' (use_if m.uses)) c.own_use.ensures in
    let map : m.map.0 ≡ map_at b.geometry m.extent.0 = c.requires.suits.map ∙ ap (λ g. map_at g m.extent.0) (sym c.put_held.ensures.same.geometry) in
    claimed-rest o a b m new held.claim c.put_held.ensures.same c.put_held.ensures.claims c.put_held.ensures.hand leases stands.other.pass refl refl refl refl map refl
    (earlier-reached (extent_use a.geometry m.extent.0 c.until-self.result) m.uses c.earlier.result first)
    ∙ (ap (λ n. after_extent_claim (allocator_setting o.appliance a) m.count m.extent.0 (next_rest o a m) (taking_of o a m) (ClaimHeld held.claim n)) c.until-self.ensures
    ∙ ap (λ end. after_extent_claim (allocator_setting o.appliance a) m.count m.extent.0 (next_rest o a m) (taking_of o a m) (claim_end end)) (sym c.in-Held.is))

pub returns-in-Held-clause-suits : goal.returns-in-Held-clause-suits
returns-in-Held-clause-suits c = λ none.
    let a = c.args.space.now in
    let b = c.put_held.new.self in
    let m = c.args.self.now in
    let e = c.put_held.ensures in
    let suits = c.requires.suits in
    let long-a = numbers-length a.hand.items in
    let long-b = numbers-length b.hand.items in
    let long : length (hand_numbers b) ≡ length (hand_numbers a) = ap length e.hand in
    let room = suits.room in
    record {
      extent = subst (λ g. m.extent.0 < g.extents) (sym e.same.geometry) suits.extent;
      map = suits.map ∙ ap (λ g. map_at g m.extent.0) (sym e.same.geometry);
      room = omega (arith, long-a, long-b, long, room);
      held = held-hand c;
      stands = record {
        lease = ap (λ (table : ℕ → Hold). is_held (table m.extent.0)) (own-leases c) ∙ ap is_held (at-same (extent_leases a) m.extent.0 (Held c.in-Held.held.claim c.in-Held.held.until));
        none_yet = (claim-stands a m c.requires.claim suits.stands).other.none_yet;
      };
    }

pub returns-in-Held-clause-held : goal.returns-in-Held-clause-held
returns-in-Held-clause-held c = held-hand c

pub returns-in-Lost-clause-rest : goal.returns-in-Lost-clause-rest
returns-in-Lost-clause-rest c = λ o.
    let a = c.args.space.now in
    let m = c.args.self.now in
    c.lost.ensures (allocator_setting o.appliance a) (reserve_follows o a m) (outer_known o a) (sym c.geometry.ensures)
    ∙ ap (λ end. after_extent_claim (allocator_setting o.appliance a) m.count m.extent.0 (next_rest o a m) (taking_of o a m) (claim_end end)) (sym c.in-Lost.is)
