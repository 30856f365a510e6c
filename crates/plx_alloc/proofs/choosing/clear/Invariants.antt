use Rattle.plx_alloc.proofs.Cleared.{IsCleared}
use Rattle.plx_alloc.proofs.choosing.clear.Given as goal

abbrev pub invariant-loop-block : goal.invariant-loop-block
invariant-loop-block l = IsCleared l.fn.map.0 l.initial.bits l.hand l.block-index l.given.items l.bits
