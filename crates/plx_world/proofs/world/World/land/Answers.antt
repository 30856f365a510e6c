use Rattle.std.proofs.Common.{refl, ◌∙◌}
use Rattle.plx_world.proofs.Cancels.{cancels-landed}
use Rattle.plx_world.proofs.Disked.{lands-number}
use Rattle.plx_world.proofs.world.World.land.Goals as goal

pub returns-in-Some : goal.returns-in-Some
returns-in-Some c =
    lands-number c.args.self.now _ c.args.appliance c.args.back c.args.sector c.in-Some.number c.land.result
    (record { geometry = refl; seats = refl; trace = refl })
    c.in-Some.ensures c.land.ensures.landed c.land.ensures.refused c.land.ensures.same

pub invariant_of-self : goal.invariant_of-self
invariant_of-self c = record {
  many = c.args.self.now.many;
  sized = c.land.ensures.blocks ∙ c.args.self.now.sized;
  tied = c.args.self.now.tied;
  uncancelled = cancels-landed c.args.self.now.disk c.land.new.self c.in-Some.number c.args.sector c.land.result c.land.ensures.landed c.land.ensures.same c.args.self.now.uncancelled;
}
