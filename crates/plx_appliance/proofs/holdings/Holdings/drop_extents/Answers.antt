use Rattle.std.proofs.Common.{sym, ap, ◌∙◌}
use Rattle.plx_geom.specs.Geometry.{Geometry}
use Rattle.plx_alloc.specs.Tables.{hand_numbers, held_hand, extent_leases}
use Rattle.plx_appliance.proofs.InHand.{held-twice}
use Rattle.plx_appliance.proofs.holdings.Holdings.drop_extents.Goals as goal

pub invariant_of-self-clause-handed : goal.invariant_of-self-clause-handed
invariant_of-self-clause-handed c =
    let old = c.args.self.now.space in
    let new = c.drop_expired.new.self in
    let e = c.drop_expired.ensures in
    ap (λ (g : Geometry). held_hand g (extent_leases new) (hand_numbers new)) e.same.geometry
    ∙ ap (held_hand old.geometry (extent_leases new)) e.hand
    ∙ held-twice old.geometry (extent_leases new) (hand_numbers old)
    ∙ sym e.hand
