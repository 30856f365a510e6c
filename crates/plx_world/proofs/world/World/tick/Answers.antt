use Rattle.std.proofs.Common.{refl, ◌∙◌}
use Rattle.plx_world.proofs.Cancels.{cancels-passed}
use Rattle.plx_world.proofs.Disked.{ticks-by}
use Rattle.plx_world.proofs.world.World.tick.Goals as goal

pub returns : goal.returns
returns c =
    ticks-by c.args.self.now _ c.args.by c.tick.result (record { geometry = refl; seats = refl; trace = refl })
    c.tick.ensures.early c.tick.ensures.passed c.tick.ensures.same

pub invariant_of-self : goal.invariant_of-self
invariant_of-self c = record {
  many = c.args.self.now.many;
  sized = c.tick.ensures.blocks ∙ c.args.self.now.sized;
  tied = c.args.self.now.tied;
  uncancelled = cancels-passed c.args.self.now.disk c.tick.new.self c.args.by c.tick.result c.tick.ensures.passed c.tick.ensures.same c.args.self.now.uncancelled;
}
