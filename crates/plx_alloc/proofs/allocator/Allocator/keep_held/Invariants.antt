use Rattle.plx_rules.specs.Hands.{is_held}
use Rattle.plx_rules.specs.Rests.{extent_of}
use Rattle.plx_alloc.specs.Tables.{extent_leases}
use Rattle.plx_alloc.proofs.Keeping.{AreKeptBlocks}
use Rattle.plx_alloc.proofs.allocator.Allocator.keep_held.Given as goal

abbrev pub invariant-loop-block : goal.invariant-loop-block
invariant-loop-block l = AreKeptBlocks (λ block. is_held (extent_leases l.fn.self (extent_of l.fn.self.geometry block))) l.fn.self.geometry l.block-items l.block-index l.kept.items
