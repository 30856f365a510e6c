use Rattle.std.proofs.Common.{◌≡◌, ◌<◌, Some, arith, length}
use Rattle.std.specs.Prelude.{slice_get}
use Rattle.std.proofs.lemmas.Option.{slice_get_read}
use Rattle.plx_world.proofs.Seating.{pending-absent, pending-there}
use Rattle.plx_world.proofs.world.World.pending.Goals as goal

pub returns-then-index-len : goal.returns-then-index-len
returns-then-index-len c = λ w h. pending-absent c.args.self.now w c.args.appliance.0 (omega (arith, c.args.self.now.seats.ok.0)) h

pub returns : goal.returns
returns c =
    let v = c.args.self.now.seats in
    let at : slice_get v.items c.args.appliance.0 ≡ Some c.index.result.now = slice_get_read v.items c.len.result c.args.appliance.0 c.index.result.now (omega (arith, v.ok.0)) (omega arith) c.index.ensures in
    let below : c.args.appliance.0 < length v.items = omega (arith, v.ok.0) in
    λ w h. pending-there c.args.self.now w c.args.appliance.0 c.index.result.now at below h
