use Rattle.std.proofs.Common.{None, refl, ◌∙◌}
use Rattle.plx_world.proofs.Cancels.{cancels-landed, cancels-whole}
use Rattle.plx_commands.specs.declared.event.Event.TheVariants as event
use Rattle.plx_world.specs.Running.{RunGoesOn}
use Rattle.plx_world.specs.Standing.{Steps}
use Rattle.plx_world.proofs.Disked.{stays-disk}
use Rattle.plx_world.proofs.Going.{goes-done, goes-land, if-ok, ok-fault}
use Rattle.plx_world.proofs.Whole.{goes-whole}
use Rattle.plx_world.proofs.world.World.write_on.Goals as goal

pub returns-then-land_whole-clause-ok : goal.returns-then-land_whole-clause-ok
returns-then-land_whole-clause-ok c =
    goes-whole c.args.self.now _ c.args.appliance c.args.guard c.in-Some.number c.requires c.in-Some.ensures (c.land_whole.ensures.landed c.if-land_whole.true)
    (record { geometry = refl; seats = refl; trace = refl })

pub returns-in_default-missing-clause-ok : goal.returns-in_default-missing-clause-ok
returns-in_default-missing-clause-ok c =
    let old = c.args.self.now in
    let new = c.done.new.self in
    let a = c.args.appliance in
    let same = c.land_whole.ensures.same c.if-land_whole.false in
    let stays = stays-disk old _ (record { geometry = refl; seats = refl; trace = refl }) same in
    if-ok c.done.result (Steps _ new (event.Done a)) (RunGoesOn a None old new) c.done.ensures.ok
    (λ made steps. goes-done old new a c.args.guard c.in-Some.number made c.requires c.in-Some.ensures
    (λ s stands. c.in_default-missing.ensures.missing s (same s stands)) (λ w h. steps w (stays w h)))

pub returns-then-land-clause-ok : goal.returns-then-land-clause-ok
returns-then-land-clause-ok c =
    let old = c.args.self.now in
    let found = c.in-Some-missing in
    let same = c.land_whole.ensures.same c.if-land_whole.false in
    goes-land old _ c.args.appliance c.args.guard c.in-Some.number found.sector c.requires c.in-Some.ensures
    (λ s stands. found.ensures.missing s (same s stands)) found.ensures.within
    (λ s stands. c.land.ensures.landed c.if-land.true s (same s stands)) (record { geometry = refl; seats = refl; trace = refl })

pub returns-clause-ok : goal.returns-clause-ok
returns-clause-ok c =
    let old = c.args.self.now in
    let found = c.in-Some-missing in
    let same = c.land_whole.ensures.same c.if-land_whole.false in
    ok-fault old c.fault.new.self c.args.appliance c.args.guard c.in-Some.number found.sector c.fault.result c.requires c.in-Some.ensures
    (λ s stands. found.ensures.missing s (same s stands))
    (λ s stands. c.land.ensures.refused c.if-land.false s (same s stands)) (record { geometry = refl; seats = refl; trace = refl })
    (λ s stands. c.land.ensures.same c.if-land.false s (same s stands)) c.fault.ensures.ok

pub invariant_of-self : goal.invariant_of-self
invariant_of-self c = record {
  many = c.args.self.now.many;
  sized = c.land_whole.ensures.blocks ∙ c.args.self.now.sized;
  tied = c.args.self.now.tied;
  uncancelled = cancels-whole c.args.self.now.disk c.land_whole.new.self c.in-Some.number c.land_whole.result c.land_whole.ensures.landed c.land_whole.ensures.same
      c.args.self.now.uncancelled;
}

pub invariant_of-self-in_default-missing : goal.invariant_of-self-in_default-missing
invariant_of-self-in_default-missing c = record {
  many = c.args.self.now.many;
  sized = c.land_whole.ensures.blocks ∙ c.args.self.now.sized;
  tied = c.args.self.now.tied;
  uncancelled = cancels-whole c.args.self.now.disk c.land_whole.new.self c.in-Some.number c.land_whole.result c.land_whole.ensures.landed c.land_whole.ensures.same
      c.args.self.now.uncancelled;
}

pub invariant_of-self-2 : goal.invariant_of-self-2
invariant_of-self-2 c = record {
  many = c.args.self.now.many;
  sized = c.land.ensures.blocks ∙ (c.land_whole.ensures.blocks ∙ c.args.self.now.sized);
  tied = c.args.self.now.tied;
  uncancelled = cancels-landed c.land_whole.new.self c.land.new.self c.in-Some.number c.in-Some-missing.sector c.land.result c.land.ensures.landed c.land.ensures.same
      (cancels-whole c.args.self.now.disk c.land_whole.new.self c.in-Some.number c.land_whole.result c.land_whole.ensures.landed c.land_whole.ensures.same
      c.args.self.now.uncancelled);
}
