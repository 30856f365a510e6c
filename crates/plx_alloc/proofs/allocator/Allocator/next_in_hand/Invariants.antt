use Rattle.std.proofs.Common.{◌≡◌, ◌-◌}
use Rattle.plx_rules.specs.Space.{in_extent}
use Rattle.plx_alloc.specs.Tables.{first_extent, hand_numbers, has_any}
use Rattle.plx_alloc.proofs.allocator.Allocator.next_in_hand.Given as goal

abbrev pub invariant-loop-index : goal.invariant-loop-index
invariant-loop-index l =
    first_extent (λ extent. has_any (in_extent l.self.geometry extent (hand_numbers l.self))) (l.self.geometry.extents - l.from) l.from
    ≡ first_extent (λ extent. has_any (in_extent l.self.geometry extent (hand_numbers l.self))) (l.self.geometry.extents - l.index) l.index
