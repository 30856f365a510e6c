use Rattle.std.proofs.Common.{◌≡◌, ◌∙◌, None, true, refl}
use Rattle.plx_world.proofs.Cancels.{cancels-stays}
use Rattle.plx_world.proofs.Disked.{stays-disk}
use Rattle.plx_world.proofs.Stepping.{dones-none, dones-unlanded, dones-write, known-ask}
use Rattle.plx_world.proofs.world.World.done.Goals as goal

pub returns-in_ok-answer-in-Some-Write-clause-ok : goal.returns-in_ok-answer-in-Some-Write-clause-ok
returns-in_ok-answer-in-Some-Write-clause-ok c =
    let old = c.args.self.now in
    let asked = c.in-Some-Write in
    let settled : c.settle.result ≡ true = let no = c.if-not-settle.false in cc in
    dones-write old _ c.answer.new.self c.args.appliance asked.field-0-0 asked.field-0-1 asked.field-0-2 c.in-Some.number (λ w h. cc (asked.ensures.ask w h)) c.in-Some.ensures
    (λ s h. (c.settle.ensures.whole s h).0 settled)
    (stays-disk old _ (record { geometry = refl; seats = refl; trace = refl }) c.settle.ensures.same)
    c.in_ok-answer-in-Some-Write.ensures.ok

pub invariant_of-self : goal.invariant_of-self
invariant_of-self c = record {
  many = c.args.self.now.many;
  sized = c.settle.ensures.blocks ∙ c.args.self.now.sized;
  tied = c.args.self.now.tied;
  uncancelled = cancels-stays c.args.self.now.disk c.settle.new.self c.settle.ensures.same c.args.self.now.uncancelled;
}

pub returns-then-not-settle-clause-ok : goal.returns-then-not-settle-clause-ok
returns-then-not-settle-clause-ok c =
    let old = c.args.self.now in
    dones-unlanded old _ c.args.appliance c.in-Some.number c.in-Some.ensures
    (stays-disk old _ (record { geometry = refl; seats = refl; trace = refl }) c.settle.ensures.same)
    (λ s h landed. let yes = (c.settle.ensures.whole s h).1 landed in let no = c.if-not-settle.true in cc)

pub returns-in-Some-Read-clause-ok : goal.returns-in-Some-Read-clause-ok
returns-in-Some-Read-clause-ok c =
    let found = c.in-Some-Read in
    dones-none c.args.self.now c.args.appliance _ (known-ask c.args.self.now c.args.appliance found.field-0 _ found.ensures.ask found.field-0-is) refl

pub returns-in-Some-Clock-clause-ok : goal.returns-in-Some-Clock-clause-ok
returns-in-Some-Clock-clause-ok c =
    let found = c.in-Some-Clock in
    dones-none c.args.self.now c.args.appliance _ (known-ask c.args.self.now c.args.appliance found.field-0 _ found.ensures.ask found.field-0-is) refl

pub returns-in-Some-Until-clause-ok : goal.returns-in-Some-Until-clause-ok
returns-in-Some-Until-clause-ok c =
    let found = c.in-Some-Until in
    dones-none c.args.self.now c.args.appliance _ (known-ask c.args.self.now c.args.appliance found.field-0 _ found.ensures.ask found.field-0-is) refl

pub returns-in-None-clause-ok : goal.returns-in-None-clause-ok
returns-in-None-clause-ok c = dones-none c.args.self.now c.args.appliance None c.in-None.ensures.ask refl
