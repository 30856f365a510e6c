use Rattle.std.proofs.Common.{◌≡◌, ◌<◌, Some, arith, length}
use Rattle.std.specs.Prelude.{slice_get}
use Rattle.std.proofs.lemmas.Option.{slice_get_read}
use Rattle.plx_world.proofs.Seating.{asked-absent, asked-there, running-there, within-there}
use Rattle.plx_world.proofs.world.World.asked.Goals as goal

pub returns-then-index-len-clause-ask : goal.returns-then-index-len-clause-ask
returns-then-index-len-clause-ask c = λ w h. asked-absent c.args.self.now w c.args.appliance.0 (omega (arith, c.args.self.now.seats.ok.0)) h

pub returns-clause-ask : goal.returns-clause-ask
returns-clause-ask c =
    let v = c.args.self.now.seats in
    let at : slice_get v.items c.args.appliance.0 ≡ Some c.index.result.now = slice_get_read v.items c.len.result c.args.appliance.0 c.index.result.now (omega (arith, v.ok.0)) (omega arith) c.index.ensures in
    let below : c.args.appliance.0 < length v.items = omega (arith, v.ok.0) in
    λ w h. asked-there c.args.self.now w c.args.appliance.0 c.index.result.now c.asked.result at below c.asked.ensures.ask h

pub returns-clause-running : goal.returns-clause-running
returns-clause-running c =
    let v = c.args.self.now.seats in
    let at : slice_get v.items c.args.appliance.0 ≡ Some c.index.result.now = slice_get_read v.items c.len.result c.args.appliance.0 c.index.result.now (omega (arith, v.ok.0)) (omega arith) c.index.ensures in
    running-there c.args.self.now c.args.appliance.0 c.index.result.now c.asked.result at c.asked.ensures.running

pub returns-clause-within : goal.returns-clause-within
returns-clause-within c =
    let v = c.args.self.now.seats in
    let at : slice_get v.items c.args.appliance.0 ≡ Some c.index.result.now = slice_get_read v.items c.len.result c.args.appliance.0 c.index.result.now (omega (arith, v.ok.0)) (omega arith) c.index.ensures in
    within-there c.args.self.now.geometry v.items c.args.appliance.0 c.index.result.now c.asked.result at c.args.self.now.tied c.asked.ensures.within
