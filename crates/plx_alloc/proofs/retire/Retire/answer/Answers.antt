use Rattle.std.proofs.Common.{ap, sym, ◌∙◌}
use Rattle.plx_commands.specs.declared.reply.Reply.TheVariants as reply
use Rattle.law_run.proofs.Machines.{moves-on}
use Rattle.law_run.proofs.RetireRules.{retire-end}
use Rattle.plx_rules.specs.Ends.{ends, lost_process}
use Rattle.plx_rules.specs.Process.{answered}
use Rattle.plx_rules.specs.Session.{nothing_known}
use Rattle.plx_alloc.specs.Ending.{space_end}
use Rattle.plx_alloc.specs.Gives.{around_known, giving_rest}
use Rattle.plx_alloc.specs.Retires.{release_next, retire_at}
use Rattle.plx_alloc.specs.Tables.{allocator_setting}
use Rattle.plx_alloc.proofs.Released.{release-past}
use Rattle.plx_alloc.proofs.retire.Retire.answer.Goals as goal

pub returns-in-Some-Done-clause-rest : goal.returns-in-Some-Done-clause-rest
returns-in-Some-Done-clause-rest c = λ o.
    let a = c.args.space.now in
    let b = c.answer.new.space in
    let m = c.args.self.now.giving in
    let e = c.answer.ensures in
    release-past o a b m c.answer.new.self e.extent e.same e.claims e.leases e.others
    ∙ (ap (λ end. space_end (release_next o a m) (around_known o b) end) (sym c.in-Some-Done.field-0-is)
    ∙ (c.in-Some-Done.ensures.rest (record o { rest = release_next o a m })
    ∙ ap (λ at. answered (retire_at at o a m) c.args.answer.now) (sym c.in-Give-default.is-0)))

pub returns-in-None-clause-rest : goal.returns-in-None-clause-rest
returns-in-None-clause-rest c = λ o.
    let a = c.args.space.now in
    let b = c.answer.new.space in
    let m = c.args.self.now.giving in
    let new = c.answer.new.self in
    let e = c.answer.ensures in
    ap (λ at. retire_at at o b new) c.in-Give-default.is-0
    ∙ (ap (λ next. giving_rest (record o { rest = next }) b new) (release-past o a b m new e.extent e.same e.claims e.leases e.others)
    ∙ (c.in-None.ensures.rest (record o { rest = release_next o a m })
    ∙ ap (λ at. answered (retire_at at o a m) c.args.answer.now) (sym c.in-Give-default.is-0)))

pub returns-in-Release-Missed-clause-rest : goal.returns-in-Release-Missed-clause-rest
returns-in-Release-Missed-clause-rest c = λ o.
    let a = c.args.space.now in
    let s = allocator_setting o.appliance a in
    let known = around_known o a in
    rw (c.in-Release-Missed.is-0, c.in-Release-Missed.is-1)
    (c.lost.ensures s o.rest known (sym c.geometry.ensures) ∙ ap (λ due. lost_process s known due c.in-Release-Missed.reading) c.own_use.ensures)

-- so it moves on, and where it has ended, the end keeps the rules
pub returns-in-Some-Done-clause-log : goal.returns-in-Some-Done-clause-log
returns-in-Some-Done-clause-log c = λ o. moves-on _ _ _ (returns-in-Some-Done-clause-rest c o)

pub returns-in-Some-Done-clause-rules : goal.returns-in-Some-Done-clause-rules
returns-in-Some-Done-clause-rules c = λ o end over. retire-end _ end over

pub returns-in-None-clause-log : goal.returns-in-None-clause-log
returns-in-None-clause-log c = λ o. moves-on _ _ _ (returns-in-None-clause-rest c o)

pub returns-in-None-clause-rules : goal.returns-in-None-clause-rules
returns-in-None-clause-rules c = λ o end over. retire-end _ end over

pub returns-in-Release-Missed-clause-log : goal.returns-in-Release-Missed-clause-log
returns-in-Release-Missed-clause-log c = λ o. moves-on _ _ _ (returns-in-Release-Missed-clause-rest c o)

pub returns-in-Release-Missed-clause-rules : goal.returns-in-Release-Missed-clause-rules
returns-in-Release-Missed-clause-rules c = λ o end over. retire-end _ end over

pub returns-in-Some-Refused-clause-rest : goal.returns-in-Some-Refused-clause-rest
returns-in-Some-Refused-clause-rest c = λ o.
    let a = c.args.space.now in
    let m = c.args.self.now.giving in
    rw c.in-Give-default.is-0
    (ap (λ end. space_end (release_next o a m) (around_known o c.answer.new.space) end) (sym c.in-Some-Refused.field-0-is)
    ∙ c.in-Some-Refused.ensures.rest (record o { rest = release_next o a m }))

pub returns-in-Some-Refused-clause-log : goal.returns-in-Some-Refused-clause-log
returns-in-Some-Refused-clause-log c = λ o. moves-on _ _ _ (returns-in-Some-Refused-clause-rest c o)

pub returns-in-Some-Refused-clause-rules : goal.returns-in-Some-Refused-clause-rules
returns-in-Some-Refused-clause-rules c = λ o end over. retire-end _ end over

pub returns-in-Release-Done-clause-rest : goal.returns-in-Release-Done-clause-rest
returns-in-Release-Done-clause-rest c = λ o. rw (c.in-Release-Done.is-0, c.in-Release-Done.is-1) (c.released.ensures.rest o)

pub returns-in-Release-Done-clause-log : goal.returns-in-Release-Done-clause-log
returns-in-Release-Done-clause-log c = λ o. moves-on _ _ _ (returns-in-Release-Done-clause-rest c o)

pub returns-in-Release-Done-clause-rules : goal.returns-in-Release-Done-clause-rules
returns-in-Release-Done-clause-rules c = λ o end over. retire-end _ end over

pub returns-in-Release-Fault-clause-rest : goal.returns-in-Release-Fault-clause-rest
returns-in-Release-Fault-clause-rest c = λ o.
    let known = nothing_known c.args.space.now.claims in
    rw (c.in-Release-Fault.is-0, c.in-Release-Fault.is-1)
    (ap (λ block. ends (reply.WriteFault (record { 0 = block })) known) c.lease_block.ensures)

pub returns-in-Release-Fault-clause-log : goal.returns-in-Release-Fault-clause-log
returns-in-Release-Fault-clause-log c = λ o. moves-on _ _ _ (returns-in-Release-Fault-clause-rest c o)

pub returns-in-Release-Fault-clause-rules : goal.returns-in-Release-Fault-clause-rules
returns-in-Release-Fault-clause-rules c = λ o end over. retire-end _ end over
