use Rattle.std.proofs.Common.{◌≡◌, ◌-◌, ◌∙◌, false, sym, refl, length, Some, None, arith}
use Rattle.std.specs.Prelude.{nat_le}
use Rattle.plx_rules.specs.Hands.{is_held}
use Rattle.plx_alloc.specs.Tables.{allocator_setting, hand_numbers, held_of, is_as, extent_leases}
use Rattle.plx_alloc.specs.Takes.{reserve_follows, taking_of}
use Rattle.plx_alloc.specs.declared.reserve.Reserve.{Reserve}
use Rattle.plx_alloc.specs.declared.reserve.ReserveAt.TheVariants as at
use Rattle.plx_alloc.proofs.Passes.{first-extent-is}
use Rattle.plx_alloc.proofs.Suited.{numbers-length}
use Rattle.plx_base.proofs.Tests.{nat_le-false, opposite-true}
use Rattle.plx_alloc.proofs.Taking.{looks-first, not-held-none, pass-others, taken-few}
use Rattle.plx_alloc.proofs.reserve.Reserve.go_on_others.Goals as goal

pub returns-in_default-clause-rest : goal.returns-in_default-clause-rest
returns-in_default-clause-rest c = λ o.
    let a = c.args.space.now in
    let m = c.args.self.now in
    let few : nat_le m.count (length (hand_numbers a)) ≡ false = nat_le-false m.count (length (hand_numbers a)) c.requires.need in
    c.refusal.ensures o (reserve_follows o a m)
    ∙ sym (pass-others o a m.count c.args.from (taking_of o a m) None c.requires.from few c.in_default.ensures ∙ taken-few (allocator_setting o.appliance a) m.count o.rest (taking_of o a m) few)

pub map_block-self-requires : goal.map_block-self-requires
map_block-self-requires c =
    let a = c.args.space.now in
    let h = first-extent-is (λ extent. is_as false (extent_leases a extent)) (a.geometry.extents - c.args.from) c.args.from c.in-Some.extent.0 (sym c.in-Some.ensures) in
    let high = h.high in
    let from = c.requires.from in
    omega (arith, high, from)

pub returns-clause-rest : goal.returns-clause-rest
returns-clause-rest c = λ o.
    let a = c.args.space.now in
    let m = c.args.self.now in
    let few : nat_le m.count (length (hand_numbers a)) ≡ false = nat_le-false m.count (length (hand_numbers a)) c.requires.need in
    let h = first-extent-is (λ extent. is_as false (extent_leases a extent)) (a.geometry.extents - c.args.from) c.args.from c.in-Some.extent.0 (sym c.in-Some.ensures) in
    let free : is_held (extent_leases a c.in-Some.extent.0) ≡ false = opposite-true (is_held (extent_leases a c.in-Some.extent.0)) h.so in
    let new : Reserve = record m { at = at.Look; extent = c.in-Some.extent; map = c.map_block-self.result } in
    looks-first o a new refl c.map_block-self.ensures c.requires.others free
    ∙ sym (pass-others o a m.count c.args.from (taking_of o a m) (Some c.in-Some.extent.0) c.requires.from few c.in-Some.ensures)

pub returns-clause-suits : goal.returns-clause-suits
returns-clause-suits c = λ none.
    let a = c.args.space.now in
    let h = first-extent-is (λ extent. is_as false (extent_leases a extent)) (a.geometry.extents - c.args.from) c.args.from c.in-Some.extent.0 (sym c.in-Some.ensures) in
    let high = h.high in
    let from = c.requires.from in
    let room = c.requires.room in
    let need = c.requires.need in
    let long = numbers-length a.hand.items in
    let most = c.args.self.now.most in
    record {
      extent = omega (arith, high, from);
      map = c.map_block-self.ensures;
      room = omega (arith, room, need, long, most);
      held = c.requires.held;
      stands = record { pass = c.requires.others; free = not-held-none (held_of a c.in-Some.extent.0) (opposite-true (is_held (extent_leases a c.in-Some.extent.0)) h.so); none_yet = room };
    }
