use Rattle.std.specs.Prelude.{not}
use Rattle.plx_commands.specs.Replies.{is_in}
use Rattle.plx_alloc.specs.Tables.{numbers}
use Rattle.plx_alloc.proofs.Keeping.{AreKeptBlocks}
use Rattle.plx_alloc.proofs.allocator.Allocator.give.Given as goal

abbrev pub invariant-loop-block : goal.invariant-loop-block
invariant-loop-block l = AreKeptBlocks (λ block. not (is_in block (numbers l.fn.blocks.items))) l.fn.self.geometry l.block-items l.block-index l.kept.items
