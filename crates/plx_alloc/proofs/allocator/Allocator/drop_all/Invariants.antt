use Rattle.std.proofs.Common.{◌≡◌, None, take, replicate}
use Rattle.plx_alloc.proofs.allocator.Allocator.drop_all.Given as goal

abbrev pub invariant-loop-extent : goal.invariant-loop-extent
invariant-loop-extent l = record { dropped : take l.extent-index l.extent-items ≡ replicate l.extent-index None }
