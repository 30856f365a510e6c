use Rattle.plx_alloc.proofs.Dropping.{IsDropped}
use Rattle.plx_alloc.proofs.allocator.Allocator.drop_expired.Given as goal

abbrev pub invariant-loop-index : goal.invariant-loop-index
invariant-loop-index l = IsDropped l.initial.self l.self l.reading l.index
