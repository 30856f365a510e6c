use Rattle.std.proofs.Common.{◌≡◌, length}
use Rattle.plx_world.proofs.Starting.{AreNew}
use Rattle.plx_world.proofs.world.World.over.Given as goal

abbrev pub invariant-loop-number : goal.invariant-loop-number
invariant-loop-number l = record { count : length l.seats.items ≡ l.number; fresh : AreNew l.geometry l.seats.items }
