use Rattle.std.proofs.Common.{Bool, None, subst}
use Rattle.plx_world.specs.Running.{RunGoesOn, StopsAs}
use Rattle.plx_world.proofs.Going.{goes-stopped, goes-unstopped, if-ok}
use Rattle.plx_world.proofs.world.World.advance.Goals as goal

pub returns-then-stops-clause-ok : goal.returns-then-stops-clause-ok
returns-then-stops-clause-ok c =
    let old = c.args.self.now in
    let P : Bool → Type 0 = λ x. StopsAs old c.args.appliance.0 c.args.stop x in
    goes-stopped c.args.stop old c.args.appliance (subst P c.if-stops.true c.stops.ensures)

pub returns-clause-ok : goal.returns-clause-ok
returns-clause-ok c =
    let old = c.args.self.now in
    let new = c.go_on.new.self in
    let a = c.args.appliance in
    let P : Bool → Type 0 = λ x. StopsAs old a.0 c.args.stop x in
    let going = subst P c.if-stops.false c.stops.ensures in
    if-ok c.go_on.result (RunGoesOn a None old new) (RunGoesOn a c.args.stop old new) c.go_on.ensures.ok (λ made goes. goes-unstopped c.args.stop old new a made going goes)
