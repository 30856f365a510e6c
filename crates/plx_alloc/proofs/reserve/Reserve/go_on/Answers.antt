use Rattle.std.proofs.Common.{rules, ◌≡◌, ◌<◌, ◌≤◌, ◌-◌, ◌∙◌, true, false, ap, sym, refl, subst, length, Some, None}
use Rattle.std.specs.Prelude.{nat_le, IsSome}
use Rattle.plx_rules.specs.Holds.{Held}
use Rattle.plx_alloc.specs.Tables.{allocator_setting, hand_numbers, held_of, extent_hold, holds_of, is_as, extent_leases}
use Rattle.plx_alloc.specs.Takes.{pass_rest, taking_of}
use Rattle.plx_alloc.specs.declared.reserve.Reserve.{Reserve}
use Rattle.plx_alloc.specs.declared.reserve.ReserveAt.TheVariants as at
use Rattle.plx_alloc.proofs.Hands.{held-some}
use Rattle.plx_alloc.proofs.Passes.{first-extent-is}
use Rattle.plx_alloc.proofs.Taking.{maps-first, pass-enough, pass-held}
use Rattle.plx_alloc.proofs.reserve.Reserve.go_on.Goals as goal
use Rattle.plx_base.proofs.Tests.{nat_le-true, nat_le-false}

pub returns-then-in_hand-self-clause-rest : goal.returns-then-in_hand-self-clause-rest
returns-then-in_hand-self-clause-rest c = λ o.
    let a = c.args.space.now in
    let m = c.args.self.now in
    let enough : nat_le m.count (length (hand_numbers a)) ≡ true = nat_le-true m.count (length (hand_numbers a)) (subst (λ n. m.count ≤ n) c.in_hand.ensures c.if-in_hand-self.true) in
    sym (pass-enough m.pass (allocator_setting o.appliance a) (holds_of a) m.count c.args.from o.rest (taking_of o a m) enough)

pub returns-in_default-next_extent-clause-rest : goal.returns-in_default-next_extent-clause-rest
returns-in_default-next_extent-clause-rest c = λ o.
    let a = c.args.space.now in
    let m = c.args.self.now in
    let few : nat_le m.count (length (hand_numbers a)) ≡ false = nat_le-false m.count (length (hand_numbers a)) (subst (λ n. n < m.count) c.in_hand.ensures c.if-in_hand-self.false) in
    c.go_on_others-in_default-next_extent.ensures.rest o
    ∙ sym (ap (λ p. pass_rest p (allocator_setting o.appliance a) (holds_of a) m.count c.args.from o.rest (taking_of o a m)) c.in_default.is
    ∙ pass-held o a m.count c.args.from (taking_of o a m) None c.requires.from few c.in_default-next_extent.ensures)

pub unwrap-requires : goal.unwrap-requires
unwrap-requires c =
    let a = c.args.space.now in
    let h = first-extent-is (λ extent. is_as true (extent_leases a extent)) (a.geometry.extents - c.args.from) c.args.from c.in-Some.extent.0 (sym c.in-Some.ensures) in
    let held : IsSome (held_of a c.in-Some.extent.0) = held-some (held_of a c.in-Some.extent.0) h.so in
    search rules

pub returns-clause-rest : goal.returns-clause-rest
returns-clause-rest c = λ o.
    let a = c.args.space.now in
    let m = c.args.self.now in
    let token = c.unwrap.result.now in
    let few : nat_le m.count (length (hand_numbers a)) ≡ false = nat_le-false m.count (length (hand_numbers a)) (subst (λ n. n < m.count) c.in_hand.ensures c.if-in_hand-self.false) in
    let is : held_of a c.in-Some.extent.0 ≡ Some token = search rules in
    let hold : extent_leases a c.in-Some.extent.0 ≡ Held token.claim c.until-until.result = ap extent_hold is ∙ ap (λ n. Held token.claim n) (sym c.until-until.ensures) in
    let high : c.until-until.result < 562949953421312 = subst (λ n. n < 562949953421312) (sym c.until-until.ensures) token.high in
    let new : Reserve = record m { at = at.Map; extent = c.in-Some.extent; map = c.map_block-self.result; until = c.until-until.result; guard = high } in
    maps-first o a new token.claim refl c.map_block-self.ensures c.in_default.is hold
    ∙ sym (ap (λ p. pass_rest p (allocator_setting o.appliance a) (holds_of a) m.count c.args.from o.rest (taking_of o a m)) c.in_default.is
    ∙ pass-held o a m.count c.args.from (taking_of o a m) (Some c.in-Some.extent.0) c.requires.from few c.in-Some.ensures)
