use Rattle.std.proofs.Common.{take}
use Rattle.plx_world.specs.Playing.{PlaysAll}
use Rattle.plx_world.proofs.world.World.play.Given as goal

abbrev pub invariant-loop-event : goal.invariant-loop-event
invariant-loop-event l = PlaysAll l.fn.self l.self (take l.event-index l.events)
