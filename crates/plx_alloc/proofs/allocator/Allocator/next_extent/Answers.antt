use Rattle.std.proofs.Common.{rules, ◌≡◌, ◌<◌, ◌∙◌, ℕ, Bool, false}
use Rattle.plx_alloc.specs.Tables.{is_as, extent_leases}
use Rattle.plx_alloc.proofs.Passes.{first-skip}
use Rattle.plx_alloc.proofs.allocator.Allocator.next_extent.Goals as goal

pub loop-index-preserved : goal.loop-index-preserved
loop-index-preserved c =
    let a = c.args.self.now in
    let is : ℕ → Bool = λ extent. is_as c.args.held (extent_leases a extent) in
    let less : c.loop-index.index < a.geometry.extents = search rules in
    let other : is c.loop-index.index ≡ false = search rules in
    c.loop-index.invariant ∙ first-skip is a.geometry.extents c.loop-index.index less other
