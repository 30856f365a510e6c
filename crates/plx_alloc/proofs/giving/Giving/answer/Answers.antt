use Rattle.std.proofs.Common.{subst, ap, refl, sym, ◌≡◌, ◌∙◌, ◌<◌}
use Rattle.plx_geom.specs.Geometry.{extent_lease, map_at}
use Rattle.plx_rules.specs.Ends.{lost_process}
use Rattle.plx_rules.specs.Space.{in_extent}
use Rattle.plx_alloc.specs.Gives.{around_known}
use Rattle.plx_alloc.specs.Pools.{AreBetween}
use Rattle.plx_alloc.specs.Suiting.{gives_at}
use Rattle.plx_alloc.specs.Tables.{allocator_setting, hand_numbers, numbers}
use Rattle.plx_rules.specs.Hands.{blocks_without}
use Rattle.plx_alloc.specs.declared.giving.GivingAt.TheVariants as at
use Rattle.plx_alloc.proofs.Cleared.{given-own}
use Rattle.plx_alloc.proofs.Released.{given-hand, given-others}
use Rattle.plx_alloc.proofs.giving.Giving.answer.Goals as goal

pub returns-in-Write-Done-clause-suits : goal.returns-in-Write-Done-clause-suits
returns-in-Write-Done-clause-suits c =
    let a = c.args.space.now in
    let b = c.give.new.self in
    let m = c.args.self.now in
    let e = c.give.ensures in
    let suits = c.requires.suits in
    let own : gives_at at.Write a m = subst (λ place. gives_at place a m) c.in-Write-Done.is-0 suits.gives in
    let hand : hand_numbers c.give.new.self ≡ blocks_without (numbers m.given.value.items) (hand_numbers a) =
    c.give.ensures.hand ∙ ap (λ blocks. blocks_without (numbers blocks.items) (hand_numbers a)) c.deref.ensures in
    record {
      extent = subst (λ g. m.extent.0 < g.extents) (sym e.same.geometry) suits.extent;
      map = suits.map ∙ ap (λ g. map_at g m.extent.0) (sym e.same.geometry);
      lease = suits.lease ∙ ap (λ g. extent_lease g m.extent.0) (sym e.same.geometry);
      held = given-hand a b (numbers m.given.value.items) e.same e.leases hand suits.held;
      gives = subst (λ place. gives_at place b m) (sym c.in-Write-Done.is-0) (subst (λ g. AreBetween m.map.0 g.extent_blocks m.given.value.items) (sym e.same.geometry) own);
    }

pub returns-in-Write-Done-clause-others : goal.returns-in-Write-Done-clause-others
returns-in-Write-Done-clause-others c = λ other ne.
    let a = c.args.space.now in
    let g = a.geometry in
    let m = c.args.self.now in
    let own : gives_at at.Write a m = subst (λ place. gives_at place a m) c.in-Write-Done.is-0 c.requires.suits.gives in
    let mine = given-own g m.extent.0 m.given.value.items (subst (λ n. AreBetween n g.extent_blocks m.given.value.items) c.requires.suits.map own) in
    let hand : hand_numbers c.give.new.self ≡ blocks_without (numbers m.given.value.items) (hand_numbers a) =
    c.give.ensures.hand ∙ ap (λ blocks. blocks_without (numbers blocks.items) (hand_numbers a)) c.deref.ensures in
    ap (in_extent g other) hand ∙ given-others g m.extent.0 (numbers m.given.value.items) (hand_numbers a) mine other ne

pub returns-in-Write-Missed-clause-rest : goal.returns-in-Write-Missed-clause-rest
returns-in-Write-Missed-clause-rest c = λ o.
    let a = c.args.space.now in
    let s = allocator_setting o.appliance a in
    let known = around_known o a in
    rw (c.in-Write-Missed.is-0, c.in-Write-Missed.is-1)
    (c.lost.ensures s o.rest known (sym c.geometry.ensures) ∙ ap (λ due. lost_process s known due c.in-Write-Missed.reading) c.own_use.ensures)

pub returns-in-Map-Bytes-clause-rest : goal.returns-in-Map-Bytes-clause-rest
returns-in-Map-Bytes-clause-rest c = λ o. rw (c.in-Map-Bytes.is-0, c.in-Map-Bytes.is-1) (c.found.ensures.rest o)

pub returns-in-Map-Fault-clause-rest : goal.returns-in-Map-Fault-clause-rest
returns-in-Map-Fault-clause-rest c = λ o. rw (c.in-Map-Fault.is-0, c.in-Map-Fault.is-1) refl

pub returns-in-Write-Done-clause-rest : goal.returns-in-Write-Done-clause-rest
returns-in-Write-Done-clause-rest c = λ o. rw (c.in-Write-Done.is-0, c.in-Write-Done.is-1) refl

pub returns-in-Write-Fault-clause-rest : goal.returns-in-Write-Fault-clause-rest
returns-in-Write-Fault-clause-rest c = λ o. rw (c.in-Write-Fault.is-0, c.in-Write-Fault.is-1) refl

pub returns-in-Damaged-Reading-clause-rest : goal.returns-in-Damaged-Reading-clause-rest
returns-in-Damaged-Reading-clause-rest c = λ o. rw (c.in-Damaged-Reading.is-0, c.in-Damaged-Reading.is-1) (c.damaged.ensures o)
