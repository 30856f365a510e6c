use Rattle.plx_world.proofs.Sequences.{HasRun}
use Rattle.plx_world.proofs.world.World.finish.Given as goal

abbrev pub invariant-loop : goal.invariant-loop
invariant-loop l = HasRun l.appliance l.stop l.fn.self l.self l.counter 18446744073709551615
