use Rattle.std.proofs.Common.{◌≡◌, ◌∙◌, ◌++◌, ap, sym, subst, get_or}
use Rattle.plx_alloc.specs.Tables.{hand_numbers, numbers}
use Rattle.plx_geom.specs.Geometry.{map_at}
use Rattle.plx_alloc.specs.Pools.{AreBetween, AreInPool}
use Rattle.plx_alloc.specs.Suiting.{SuitsReserve}
use Rattle.plx_alloc.specs.declared.allocator.Allocator.{Allocator}
use Rattle.plx_alloc.specs.declared.reserve.Reserve.{Reserve}
use Rattle.plx_alloc.specs.declared.reserve.ReserveAt.TheVariants as at
use Rattle.plx_alloc.proofs.Suited.{between-extent, between-pool, hand-taken}
use Rattle.plx_alloc.proofs.Taking.{write-stands, written-rest}
use Rattle.plx_alloc.proofs.reserve.Reserve.after_write.Goals as goal

between : (a : Allocator) (m : Reserve) → SuitsReserve a m → m.at ≡ at.Write → AreBetween (map_at a.geometry m.extent.0) a.geometry.extent_blocks m.taken.value.items
between a m suits here = subst (λ map. AreBetween map a.geometry.extent_blocks m.taken.value.items) suits.map (write-stands a m here suits.stands).own

pub add-requires-clause-pool : goal.add-requires-clause-pool
add-requires-clause-pool c =
    let a = c.args.space.now in
    let m = c.args.self.now in
    let own = between a m c.requires.suits c.requires.at in
    subst (λ blocks. AreInPool a.geometry blocks.items) (sym c.deref.ensures)
    (λ k d less. between-pool a.geometry m.extent.0 (get_or m.taken.value.items k d).0 c.requires.suits.extent (own k d less).0 (own k d less).1)

pub go_on-requires-clause-held : goal.go_on-requires-clause-held
go_on-requires-clause-held c =
    let a = c.args.space.now in
    let m = c.args.self.now in
    let own = between a m c.requires.suits c.requires.at in
    let hand : hand_numbers c.add.new.self ≡ hand_numbers a ++ numbers m.taken.value.items =
    c.add.ensures.hand ∙ ap (λ blocks. hand_numbers a ++ numbers blocks.items) c.deref.ensures in
    hand-taken a c.add.new.self m.extent.0 m.taken.value.items c.add.ensures.same c.add.ensures.leases hand (write-stands a m c.requires.at c.requires.suits.stands).lease
    (λ k d less. between-extent a.geometry m.extent.0 (get_or m.taken.value.items k d).0 (own k d less).0 (own k d less).1) c.requires.suits.held

pub returns-clause-held : goal.returns-clause-held
returns-clause-held c =
    let a = c.args.space.now in
    let m = c.args.self.now in
    let own = between a m c.requires.suits c.requires.at in
    let hand : hand_numbers c.add.new.self ≡ hand_numbers a ++ numbers m.taken.value.items =
    c.add.ensures.hand ∙ ap (λ blocks. hand_numbers a ++ numbers blocks.items) c.deref.ensures in
    hand-taken a c.add.new.self m.extent.0 m.taken.value.items c.add.ensures.same c.add.ensures.leases hand (write-stands a m c.requires.at c.requires.suits.stands).lease
    (λ k d less. between-extent a.geometry m.extent.0 (get_or m.taken.value.items k d).0 (own k d less).0 (own k d less).1) c.requires.suits.held

pub returns-clause-rest : goal.returns-clause-rest
returns-clause-rest c = λ o.
    let a = c.args.space.now in
    let m = c.args.self.now in
    let hand : hand_numbers c.add.new.self ≡ hand_numbers a ++ numbers m.taken.value.items =
    c.add.ensures.hand ∙ ap (λ blocks. hand_numbers a ++ numbers blocks.items) c.deref.ensures in
    c.go_on.ensures.rest o ∙ written-rest o c.args.space.now c.add.new.self c.args.self.now c.add.ensures.same c.add.ensures.leases c.add.ensures.claims hand
