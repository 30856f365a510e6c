use Rattle.std.proofs.Common.{◌<◌, ◌≤◌, ℕ, length, ap, arith}
use Rattle.std.specs.Prelude.{None}
use Rattle.plx_appliance.proofs.Tables.{set-default, table-default}
use Rattle.plx_appliance.proofs.empty.clear_places.Goals as goal

pub loop-index-preserved : goal.loop-index-preserved
loop-index-preserved g c =
    let within : c.loop-index.index < length c.loop-index.places.items = omega (arith, c.loop-index.places.ok.0, c.loop-index-test.true, c.len-index-end.ensures, c.loop-index.invariant.0) in
    (c.loop-index.invariant.0, set-default c.loop-index.places.items c.loop-index.index None c.loop-index.invariant.1 within)

pub returns : goal.returns
returns g c =
    let all : length c.loop-index.places.items ≤ c.loop-index.index = omega (arith, c.loop-index.places.ok.0, c.loop-index-test.false, c.len-index-end.ensures, c.loop-index.invariant.0) in
    record {
      len = c.loop-index.invariant.0;
      none = λ k. ap (λ (f : ℕ → _). f k) (table-default (λ x. x) c.loop-index.places.items c.loop-index.index None all c.loop-index.invariant.1);
    }
