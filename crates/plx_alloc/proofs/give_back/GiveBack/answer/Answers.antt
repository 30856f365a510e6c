use Rattle.std.proofs.Common.{ap, sym, ◌+◌, ◌∙◌}
use Rattle.plx_base.specs.declared.numbers.ExtentNo.{ExtentNo}
use Rattle.plx_lease.specs.Uses.{uses_of}
use Rattle.plx_alloc.specs.Ending.{space_end}
use Rattle.plx_alloc.specs.Gives.{around_known, give_from, giving_rest}
use Rattle.law_run.proofs.Machines.{moves-on}
use Rattle.plx_alloc.proofs.GiveBackRules.{give-back-end}
use Rattle.plx_alloc.proofs.Released.{gives-past}
use Rattle.plx_alloc.proofs.give_back.GiveBack.answer.Goals as goal

pub returns-in-Some-Done-clause-rest : goal.returns-in-Some-Done-clause-rest
returns-in-Some-Done-clause-rest c = λ o.
    let a = c.args.space.now in
    let b = c.answer.new.space in
    let m = c.args.self.now.giving in
    let e = c.answer.ensures in
    c.go_on.ensures.rest o
    ∙ (ap (λ beside. give_from o b (uses_of beside) (c.extent-given.result.0 + 1)) e.extent.uses
    ∙ (ap (λ (x : ExtentNo). give_from o b (uses_of m.uses) (x.0 + 1)) (c.extent-given.ensures ∙ e.extent.extent)
    ∙ (gives-past o a b (uses_of m.uses) m.extent.0 e.same e.claims e.leases e.others
    ∙ (ap (λ end. space_end (give_from o a (uses_of m.uses) (m.extent.0 + 1)) (around_known o b) end) (sym c.in-Some-Done.field-0-is)
    ∙ c.in-Some-Done.ensures.rest (record o { rest = give_from o a (uses_of m.uses) (m.extent.0 + 1) })))))

pub returns-in-None-clause-rest : goal.returns-in-None-clause-rest
returns-in-None-clause-rest c = λ o.
    let a = c.args.space.now in
    let b = c.answer.new.space in
    let m = c.args.self.now.giving in
    let new = c.answer.new.self in
    let e = c.answer.ensures in
    ap (λ next. giving_rest (record o { rest = next }) b new)
    (ap (λ beside. give_from o b (uses_of beside) (new.extent.0 + 1)) e.extent.uses
    ∙ (ap (λ (x : ExtentNo). give_from o b (uses_of m.uses) (x.0 + 1)) e.extent.extent ∙ gives-past o a b (uses_of m.uses) m.extent.0 e.same e.claims e.leases e.others))
    ∙ c.in-None.ensures.rest (record o { rest = give_from o a (uses_of m.uses) (m.extent.0 + 1) })

-- so it moves on, and where it has ended, the end keeps the rules
pub returns-in-Some-Done-clause-log : goal.returns-in-Some-Done-clause-log
returns-in-Some-Done-clause-log c = λ o. moves-on _ _ _ (returns-in-Some-Done-clause-rest c o)

pub returns-in-Some-Done-clause-rules : goal.returns-in-Some-Done-clause-rules
returns-in-Some-Done-clause-rules c = λ o end over. give-back-end _ end over

pub returns-in-None-clause-log : goal.returns-in-None-clause-log
returns-in-None-clause-log c = λ o. moves-on _ _ _ (returns-in-None-clause-rest c o)

pub returns-in-None-clause-rules : goal.returns-in-None-clause-rules
returns-in-None-clause-rules c = λ o end over. give-back-end _ end over

pub returns-in-Some-Refused-clause-rest : goal.returns-in-Some-Refused-clause-rest
returns-in-Some-Refused-clause-rest c = λ o.
    let a = c.args.space.now in
    let m = c.args.self.now.giving in
    let next = give_from o a (uses_of m.uses) (m.extent.0 + 1) in
    ap (λ end. space_end next (around_known o c.answer.new.space) end) (sym c.in-Some-Refused.field-0-is)
    ∙ c.in-Some-Refused.ensures.rest (record o { rest = next })

pub returns-in-Some-Refused-clause-log : goal.returns-in-Some-Refused-clause-log
returns-in-Some-Refused-clause-log c = λ o. moves-on _ _ _ (returns-in-Some-Refused-clause-rest c o)

pub returns-in-Some-Refused-clause-rules : goal.returns-in-Some-Refused-clause-rules
returns-in-Some-Refused-clause-rules c = λ o end over. give-back-end _ end over
