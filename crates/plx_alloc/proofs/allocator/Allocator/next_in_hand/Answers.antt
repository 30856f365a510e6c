use Rattle.std.proofs.Common.{rules, ◌≡◌, ◌<◌, ◌∙◌, ℕ, Bool, false}
use Rattle.plx_rules.specs.Space.{in_extent}
use Rattle.plx_alloc.specs.Tables.{hand_numbers, has_any}
use Rattle.plx_alloc.proofs.Passes.{first-skip}
use Rattle.plx_alloc.proofs.allocator.Allocator.next_in_hand.Goals as goal

pub loop-index-preserved : goal.loop-index-preserved
loop-index-preserved c =
    let a = c.args.self.now in
    let is : ℕ → Bool = λ extent. has_any (in_extent a.geometry extent (hand_numbers a)) in
    let less : c.loop-index.index < a.geometry.extents = search rules in
    let other : is c.loop-index.index ≡ false = search rules in
    c.loop-index.invariant ∙ first-skip is a.geometry.extents c.loop-index.index less other
