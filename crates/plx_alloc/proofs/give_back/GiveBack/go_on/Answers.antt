use Rattle.std.proofs.Common.{◌-◌, ◌∙◌, ap, sym, Some, None, arith}
use Rattle.plx_rules.specs.Space.{in_extent}
use Rattle.plx_alloc.specs.Tables.{allocator_setting, hand_numbers, has_any, held_of, holds_of, extent_leases}
use Rattle.plx_lease.specs.Uses.{uses_of}
use Rattle.plx_alloc.specs.Gives.{around_known}
use Rattle.plx_alloc.proofs.Gives.{give_first, give-here, give-next}
use Rattle.plx_alloc.proofs.Hands.{held-some, in-hand-held}
use Rattle.plx_alloc.proofs.Passes.{first-extent-is}
use Rattle.plx_alloc.proofs.give_back.GiveBack.go_on.Goals as goal

pub returns-in_default-clause-rest : goal.returns-in_default-clause-rest
returns-in_default-clause-rest c = λ o. sym (give-next o c.args.space.now (uses_of c.args.self.now.giving.uses) c.args.from None c.requires.from c.in_default.ensures)

pub begin-requires-clause-inside : goal.begin-requires-clause-inside
begin-requires-clause-inside c =
    let a = c.args.space.now in
    let h = first-extent-is (λ extent. has_any (in_extent a.geometry extent (hand_numbers a))) (a.geometry.extents - c.args.from) c.args.from c.in-Some.extent.0 (sym c.in-Some.ensures) in
    let high = h.high in
    let from = c.requires.from in
    omega (arith, high, from)

pub begin-requires-clause-lease : goal.begin-requires-clause-lease
begin-requires-clause-lease c =
    let a = c.args.space.now in
    let h = first-extent-is (λ extent. has_any (in_extent a.geometry extent (hand_numbers a))) (a.geometry.extents - c.args.from) c.args.from c.in-Some.extent.0 (sym c.in-Some.ensures) in
    held-some (held_of a c.in-Some.extent.0) (in-hand-held a.geometry (extent_leases a) c.in-Some.extent.0 (hand_numbers a) c.requires.held h.so)

pub returns-clause-rest : goal.returns-clause-rest
returns-clause-rest c = λ o.
    let a = c.args.space.now in
    let e = c.begin.ensures in
    let h = first-extent-is (λ extent. has_any (in_extent a.geometry extent (hand_numbers a))) (a.geometry.extents - c.args.from) c.args.from c.in-Some.extent.0 (sym c.in-Some.ensures) in
    give-here o a c.begin.new.self c.in-Some.extent e.at e.extent e.suits e.until h.so
    ∙ (ap (λ beside. give_first (allocator_setting o.appliance a) (around_known o a) (uses_of beside) (holds_of a) (hand_numbers a) (Some c.in-Some.extent.0) o.rest) e.uses
    ∙ sym (give-next o a (uses_of c.args.self.now.giving.uses) c.args.from (Some c.in-Some.extent.0) c.requires.from c.in-Some.ensures))
