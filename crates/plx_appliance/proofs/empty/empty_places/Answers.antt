use Rattle.std.proofs.Common.{◌∙◌, arith, refl}
use Rattle.std.specs.Prelude.{None}
use Rattle.plx_appliance.proofs.Tables.{push-default}
use Rattle.plx_appliance.proofs.empty.empty_places.Goals as goal

pub loop-init : goal.loop-init
loop-init g c = (c.in_ok-places.ensures.len, λ k. rw c.in_ok-places.ensures.items refl)

pub loop-preserved : goal.loop-preserved
loop-preserved g c = (
  omega (arith, c.in_ok-push.ensures.len, c.loop.invariant.0),
  λ k. rw c.in_ok-push.ensures.items (push-default c.loop.places.items None k ∙ c.loop.invariant.1 k),
)

pub returns : goal.returns
returns g c = record {
  len = omega (arith, c.loop.invariant.0, c.loop-test.false, c.loop.auto.counter-end);
  none = c.loop.invariant.1;
}
