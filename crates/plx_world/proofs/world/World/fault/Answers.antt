use Rattle.std.proofs.Common.{None, refl}
use Rattle.plx_world.proofs.Stepping.{faults-none, faults-read, faults-write, known-ask}
use Rattle.plx_world.proofs.world.World.fault.Goals as goal

pub returns-in_ok-answer-in-Some-Read-clause-ok : goal.returns-in_ok-answer-in-Some-Read-clause-ok
returns-in_ok-answer-in-Some-Read-clause-ok c =
    faults-read c.args.self.now c.answer.new.self c.args.appliance c.in-Some-Read.field-0-0 (λ w h. cc (c.in-Some-Read.ensures.ask w h)) c.in_ok-answer-in-Some-Read.ensures.ok

pub returns-in_ok-answer-in-Some-Write-clause-ok : goal.returns-in_ok-answer-in-Some-Write-clause-ok
returns-in_ok-answer-in-Some-Write-clause-ok c =
    let asked = c.in-Some-Write in
    faults-write c.args.self.now c.answer-in-Some-Write.new.self c.args.appliance asked.field-0-0 asked.field-0-1 asked.field-0-2 (λ w h. cc (asked.ensures.ask w h))
    c.in_ok-answer-in-Some-Write.ensures.ok

pub returns-in-Some-Clock-clause-ok : goal.returns-in-Some-Clock-clause-ok
returns-in-Some-Clock-clause-ok c =
    let found = c.in-Some-Clock in
    faults-none c.args.self.now c.args.appliance _
    (known-ask c.args.self.now c.args.appliance found.field-0 _ found.ensures.ask found.field-0-is)
    refl

pub returns-in-Some-Until-clause-ok : goal.returns-in-Some-Until-clause-ok
returns-in-Some-Until-clause-ok c =
    let found = c.in-Some-Until in
    faults-none c.args.self.now c.args.appliance _
    (known-ask c.args.self.now c.args.appliance found.field-0 _ found.ensures.ask found.field-0-is)
    refl

pub returns-in-None-clause-ok : goal.returns-in-None-clause-ok
returns-in-None-clause-ok c =
    faults-none c.args.self.now c.args.appliance None c.in-None.ensures.ask refl
