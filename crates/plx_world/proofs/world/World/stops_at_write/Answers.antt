use Rattle.std.proofs.Common.{None, refl}
use Rattle.plx_world.proofs.Stopping.{stops-none}
use Rattle.plx_world.proofs.Stepping.{known-ask}
use Rattle.plx_world.proofs.world.World.stops_at_write.Goals as goal

pub returns-in-Some-Read : goal.returns-in-Some-Read
returns-in-Some-Read c =
    let found = c.in-Some-Read in
    stops-none c.args.self.now c.args.appliance c.args.kind _ (known-ask c.args.self.now c.args.appliance found.field-0 _ found.ensures.ask found.field-0-is) refl

pub returns-in-Some-Clock : goal.returns-in-Some-Clock
returns-in-Some-Clock c =
    let found = c.in-Some-Clock in
    stops-none c.args.self.now c.args.appliance c.args.kind _ (known-ask c.args.self.now c.args.appliance found.field-0 _ found.ensures.ask found.field-0-is) refl

pub returns-in-Some-Until : goal.returns-in-Some-Until
returns-in-Some-Until c =
    let found = c.in-Some-Until in
    stops-none c.args.self.now c.args.appliance c.args.kind _ (known-ask c.args.self.now c.args.appliance found.field-0 _ found.ensures.ask found.field-0-is) refl

pub returns-in-None : goal.returns-in-None
returns-in-None c = stops-none c.args.self.now c.args.appliance c.args.kind None c.in-None.ensures.ask refl
