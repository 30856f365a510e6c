use Rattle.std.proofs.Common.{rules, ◌≡◌, ◌-◌, ◌∙◌, ap, sym, arith}
use Rattle.plx_lease.specs.Uses.{uses_of}
use Rattle.plx_rules.specs.Process.{Process}
use Rattle.plx_rules.specs.Ends.{End}
use Rattle.plx_rules.specs.Space.{first_taking, take_held, take_others, taken_process}
use Rattle.plx_alloc.specs.Ending.{space_end}
use Rattle.plx_alloc.specs.Tables.{allocator_setting, hand_numbers, holds_of}
use Rattle.plx_alloc.specs.Takes.{outer_known}
use Rattle.plx_alloc.proofs.TakeEnds.{begins-rightly}
use Rattle.plx_alloc.proofs.reserve.Reserve.begin.Goals as goal

pub returns-in-Some-clause-rest : goal.returns-in-Some-clause-rest
returns-in-Some-clause-rest c = λ o.
    let a = c.args.space.now in
    let s = allocator_setting o.appliance a in
    let all : a.geometry.extents - 0 ≡ a.geometry.extents = omega arith in
    ap (λ (follows : Process End). space_end follows (outer_known o a) c.in-Some.end) (sym (c.go_on.ensures.follows o a))
    ∙ (c.in-Some.ensures.rest o
    ∙ ap (λ left. take_held s c.args.count (holds_of a) left 0 (take_others s c.args.count (holds_of a) a.geometry.extents 0 (taken_process s c.args.count o.rest))
    (first_taking (uses_of c.args.uses) (outer_known o a) (hand_numbers a))) all)

pub returns-in-Some-clause-rules : goal.returns-in-Some-clause-rules
returns-in-Some-clause-rules c = λ o. begins-rightly _ _ (returns-in-Some-clause-rest c o)

pub returns-in-None-clause-rules : goal.returns-in-None-clause-rules
returns-in-None-clause-rules c = λ o. begins-rightly _ _ (search rules)
