use Rattle.std.proofs.Common.{rules, ◌≡◌, ◌<◌, ◌≤◌, ◌∙◌, ap, sym, arith}
use Rattle.plx_alloc.specs.Tables.{hand_numbers, held_hand, extent_leases}
use Rattle.plx_alloc.proofs.Dropping.{extents-dropped-all, extents-dropped-next, dropped-none}
use Rattle.plx_alloc.proofs.allocator.Allocator.drop_expired.Goals as goal

pub loop-index-init : goal.loop-index-init
loop-index-init c = dropped-none c.args.self.now c.args.reading

pub drop_reached-requires : goal.drop_reached-requires
drop_reached-requires c =
    let less : c.loop-index.index < c.args.self.now.geometry.extents = search rules in
    let same : c.loop-index.self.geometry.extents ≡ c.args.self.now.geometry.extents = ap (λ g. g.extents) c.loop-index.invariant.same.geometry in
    omega (arith, less, same)

pub loop-index-preserved : goal.loop-index-preserved
loop-index-preserved c =
    let e = c.drop_reached.ensures in
    extents-dropped-next c.args.self.now c.loop-index.self c.drop_reached.new.self c.args.reading c.loop-index.index c.loop-index.invariant e.leases e.hand e.claims e.same

pub returns-clause-leases : goal.returns-clause-leases
returns-clause-leases c =
    let past : c.args.self.now.geometry.extents ≤ c.loop-index.index = search rules in
    c.keep_held.ensures.leases ∙ extents-dropped-all c.args.self.now c.loop-index.self c.args.reading c.loop-index.index c.loop-index.invariant past

pub returns-clause-hand : goal.returns-clause-hand
returns-clause-hand c =
    let a = c.args.self.now in
    let b = c.loop-index.self in
    let h = c.loop-index.invariant in
    c.keep_held.ensures.hand
    ∙ (ap (λ g. held_hand g (extent_leases b) (hand_numbers b)) h.same.geometry
    ∙ (ap (λ table. held_hand a.geometry table (hand_numbers b)) (sym c.keep_held.ensures.leases)
    ∙ ap (held_hand a.geometry (extent_leases c.keep_held.new.self)) h.hand))
