use Rattle.std.proofs.Common.{ℕ, ap, sym, ◌∙◌}
use Rattle.plx_alloc.proofs.Lengthened.{longer-hand}
use Rattle.plx_alloc.specs.Tables.{hand_numbers, held_hand, extent_leases}
use Rattle.plx_geom.specs.Geometry.{Geometry}
use Rattle.plx_rules.specs.Holds.{Hold}
use Rattle.plx_appliance.proofs.holdings.Holdings.lengthen.Goals as goal

pub invariant_of-self-in-Extent-clause-handed : goal.invariant_of-self-in-Extent-clause-handed
invariant_of-self-in-Extent-clause-handed c =
    let old = c.args.self.now.space in
    let new = c.lengthen-in-Extent.new.self in
    let e = c.lengthen-in-Extent.ensures in
    ap (λ (g : Geometry). held_hand g (extent_leases new) (hand_numbers new)) e.same.geometry
    ∙ ap (λ (t : ℕ → Hold). held_hand old.geometry t (hand_numbers new)) e.leases
    ∙ longer-hand old.geometry (extent_leases old) c.in-Extent.extent.0 c.args.end (hand_numbers new)
    ∙ ap (held_hand old.geometry (extent_leases old)) e.hand
    ∙ c.args.self.now.handed
    ∙ sym e.hand
