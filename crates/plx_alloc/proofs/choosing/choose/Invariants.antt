use Rattle.plx_alloc.specs.Tables.{numbers}
use Rattle.plx_alloc.proofs.Chosen.{IsChosen}
use Rattle.plx_alloc.proofs.choosing.choose.Given as goal

abbrev pub invariant-loop-bit : goal.invariant-loop-bit
invariant-loop-bit l = IsChosen (numbers l.hand) l.map.0 l.need l.initial.bits l.bit l.taken.items l.bits
