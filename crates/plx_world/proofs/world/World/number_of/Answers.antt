use Rattle.std.proofs.Common.{◌≡◌, ◌<◌, Some, arith, length}
use Rattle.std.specs.Prelude.{slice_get}
use Rattle.std.proofs.lemmas.Option.{slice_get_read}
use Rattle.plx_world.proofs.Disked.{number-absent, number-of}
use Rattle.plx_world.proofs.world.World.number_of.Goals as goal

pub returns-then-index-len : goal.returns-then-index-len
returns-then-index-len c = number-absent c.args.self.now c.args.appliance.0 c.args.back (omega (arith, c.args.self.now.seats.ok.0))

pub returns : goal.returns
returns c =
    let v = c.args.self.now.seats in
    let at : slice_get v.items c.args.appliance.0 ≡ Some c.index.result.now = slice_get_read v.items c.len.result c.args.appliance.0 c.index.result.now (omega (arith, v.ok.0)) (omega arith) c.index.ensures in
    let below : c.args.appliance.0 < length v.items = omega (arith, v.ok.0) in
    number-of c.args.self.now c.args.appliance.0 c.args.back c.index.result.now c.as_slice.result.now c.nth_newest.result at below c.as_slice.ensures.value c.nth_newest.ensures
