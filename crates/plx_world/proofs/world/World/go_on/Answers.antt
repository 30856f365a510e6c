use Rattle.std.proofs.Common.{true}
use Rattle.plx_world.proofs.Going.{goes-idle, goes-read}
use Rattle.plx_world.proofs.Stepping.{reads-block}
use Rattle.plx_world.proofs.world.World.go_on.Goals as goal

pub returns-in_ok-answer_read-in-Some-Read-clause-ok : goal.returns-in_ok-answer_read-in-Some-Read-clause-ok
returns-in_ok-answer_read-in-Some-Read-clause-ok c =
    let old = c.args.self.now in
    let new = c.answer_read.new.self in
    let a = c.args.appliance in
    let found = c.in-Some-Read in
    goes-read old new a found.block true (λ w h. cc (found.ensures.ask w h))
    (reads-block old new a found.block (λ w h. cc (found.ensures.ask w h)) c.in_ok-answer_read-in-Some-Read.ensures.ok)

pub returns-in-None-clause-ok : goal.returns-in-None-clause-ok
returns-in-None-clause-ok c = goes-idle c.args.self.now c.args.appliance c.in-None.ensures.ask
