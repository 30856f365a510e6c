use Rattle.plx_world.specs.Running.{RunGoesOn}
use Rattle.plx_world.specs.Standing.{Steps}
use Rattle.plx_commands.specs.declared.event.Event.TheVariants as event
use Rattle.std.specs.Prelude.{None}
use Rattle.plx_world.proofs.Going.{goes-clock, if-ok}
use Rattle.plx_world.proofs.world.World.read_clock.Goals as goal

pub returns-clause-ok : goal.returns-clause-ok
returns-clause-ok c =
    let old = c.args.self.now in
    let new = c.reading.new.self in
    let a = c.args.appliance in
    let time = c.time-time.result in
    if-ok c.reading.result (Steps old new (event.Reading a time)) (RunGoesOn a None old new) c.reading.ensures.ok
    (λ made steps. goes-clock old new a time made c.requires c.time-time.ensures.time steps)
