use Rattle.std.proofs.Common.{◌≡◌, drop}
use Rattle.plx_rules.specs.Space.{in_extent}
use Rattle.plx_alloc.specs.Tables.{has_any, hand_numbers, numbers}
use Rattle.plx_alloc.proofs.allocator.Allocator.has_in_hand.Given as goal

abbrev pub invariant-loop-block : goal.invariant-loop-block
invariant-loop-block l =
    has_any (in_extent l.self.geometry l.extent.0 (hand_numbers l.self))
    ≡ has_any (in_extent l.self.geometry l.extent.0 (numbers (drop l.block-index l.self.hand.items)))
