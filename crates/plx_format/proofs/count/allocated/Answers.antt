use Rattle.std.proofs.Common.{◌∙◌, ◌<◌, ap, arith}
use Rattle.plx_geom.specs.Geometry.{Geometry}
use Rattle.plx_rules.specs.Pools.{allocated_from}
use Rattle.plx_format.proofs.Counted.{one-more-extent}
use Rattle.plx_format.proofs.count.allocated.Goals as goal

pub loop-extent-preserved : goal.loop-extent-preserved
loop-extent-preserved c =
    let g = c.args.geometry.now in
    let i = c.loop-extent.extent in
    let same = ap (λ (x : Geometry). x.extents) c.geometry.view_is in
    let test = c.loop-extent-test.true in
    let below : i < g.extents = omega (arith, same, test) in
    record {
      counted = λ s stands maps. one-more-extent g s.device c.loop-extent.total c.from-total.result i (allocated_from g s.device g.extents 0) below
          (c.from-total.ensures ∙ c.allocated_of.ensures s stands (maps i below)) (c.loop-extent.invariant.counted s stands maps);
      small = (let before = c.loop-extent.invariant.small in let most = c.allocated_of.type_inv in let is = c.from-total.ensures in omega (arith, before, most, is));
    }
