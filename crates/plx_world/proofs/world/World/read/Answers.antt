use Rattle.std.proofs.Common.{None, refl}
use Rattle.plx_world.proofs.Stepping.{known-ask, reads-block, reads-none}
use Rattle.plx_world.proofs.world.World.read.Goals as goal

pub returns-in_ok-answer_read-in-Some-Read-clause-ok : goal.returns-in_ok-answer_read-in-Some-Read-clause-ok
returns-in_ok-answer_read-in-Some-Read-clause-ok c =
    reads-block c.args.self.now c.answer_read.new.self c.args.appliance c.in-Some-Read.block (λ w h. cc (c.in-Some-Read.ensures.ask w h)) c.in_ok-answer_read-in-Some-Read.ensures.ok

pub returns-in-Some-Write-clause-ok : goal.returns-in-Some-Write-clause-ok
returns-in-Some-Write-clause-ok c =
    let found = c.in-Some-Write in
    reads-none c.args.self.now c.args.appliance _ (known-ask c.args.self.now c.args.appliance found.field-0 _ found.ensures.ask found.field-0-is) refl

pub returns-in-Some-Clock-clause-ok : goal.returns-in-Some-Clock-clause-ok
returns-in-Some-Clock-clause-ok c =
    let found = c.in-Some-Clock in
    reads-none c.args.self.now c.args.appliance _ (known-ask c.args.self.now c.args.appliance found.field-0 _ found.ensures.ask found.field-0-is) refl

pub returns-in-Some-Until-clause-ok : goal.returns-in-Some-Until-clause-ok
returns-in-Some-Until-clause-ok c =
    let found = c.in-Some-Until in
    reads-none c.args.self.now c.args.appliance _ (known-ask c.args.self.now c.args.appliance found.field-0 _ found.ensures.ask found.field-0-is) refl

pub returns-in-None-clause-ok : goal.returns-in-None-clause-ok
returns-in-None-clause-ok c = reads-none c.args.self.now c.args.appliance None c.in-None.ensures.ask refl
