use Rattle.std.proofs.Common.{◌-◌, ◌∙◌, ap, true, sym, Some, None, arith}
use Rattle.plx_alloc.specs.Tables.{held_of, is_as, extent_leases}
use Rattle.plx_lease.specs.Uses.{uses_of}
use Rattle.plx_alloc.proofs.Hands.{held-some}
use Rattle.plx_alloc.proofs.Passes.{first-extent-is}
use Rattle.plx_alloc.proofs.Retiring.{gives_up, gives-first, releases-first, retire-extent-next}
use Rattle.plx_alloc.proofs.retire.Retire.go_on.Goals as goal

pub returns-in_default-clause-rest : goal.returns-in_default-clause-rest
returns-in_default-clause-rest c = λ o. sym (retire-extent-next o c.args.space.now (uses_of c.args.self.now.giving.uses) c.args.from None c.requires.from c.in_default.ensures)

pub begin-requires-clause-inside : goal.begin-requires-clause-inside
begin-requires-clause-inside c =
    let a = c.args.space.now in
    let h = first-extent-is (λ extent. is_as true (extent_leases a extent)) (a.geometry.extents - c.args.from) c.args.from c.in-Some.extent.0 (sym c.in-Some.ensures) in
    let high = h.high in
    let from = c.requires.from in
    omega (arith, high, from)

pub begin-requires-clause-lease : goal.begin-requires-clause-lease
begin-requires-clause-lease c =
    let a = c.args.space.now in
    let h = first-extent-is (λ extent. is_as true (extent_leases a extent)) (a.geometry.extents - c.args.from) c.args.from c.in-Some.extent.0 (sym c.in-Some.ensures) in
    held-some (held_of a c.in-Some.extent.0) h.so

pub returns-then-has_in_hand-clause-rest : goal.returns-then-has_in_hand-clause-rest
returns-then-has_in_hand-clause-rest c = λ o.
    let a = c.args.space.now in
    let e = c.begin.ensures in
    gives-first o a c.begin.new.self c.in-Some.extent e.at e.extent e.suits e.until (sym c.has_in_hand.ensures ∙ c.if-has_in_hand.true)
    ∙ (ap (λ beside. gives_up o a (uses_of beside) c.in-Some.extent.0) e.uses
    ∙ sym (retire-extent-next o a (uses_of c.args.self.now.giving.uses) c.args.from (Some c.in-Some.extent.0) c.requires.from c.in-Some.ensures))

pub returns-clause-rest : goal.returns-clause-rest
returns-clause-rest c = λ o.
    let a = c.args.space.now in
    let e = c.begin.ensures in
    releases-first o a c.begin.new.self c.in-Some.extent e.extent e.suits e.until (sym c.has_in_hand.ensures ∙ c.if-has_in_hand.false)
    ∙ (ap (λ beside. gives_up o a (uses_of beside) c.in-Some.extent.0) e.uses
    ∙ sym (retire-extent-next o a (uses_of c.args.self.now.giving.uses) c.args.from (Some c.in-Some.extent.0) c.requires.from c.in-Some.ensures))
