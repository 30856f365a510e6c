use Rattle.std.proofs.Common.{◌≡◌, ◌-◌}
use Rattle.plx_rules.specs.Commands.{attached_uses}
use Rattle.plx_rules.specs.InUse.{first_reached}
use Rattle.plx_lease.specs.Uses.{use_if}
use Rattle.plx_appliance.specs.Kept.{known_of}
use Rattle.plx_appliance.specs.Space.{extents_in}
use Rattle.plx_appliance.specs.Tokens.{lease_holds_at, image_leases}
use Rattle.plx_appliance.proofs.renewing.reached_lease.Given as goal

abbrev pub invariant-loop-count : goal.invariant-loop-count
invariant-loop-count l =
    let h = l.holdings in
    use_if l.found ≡ first_reached (attached_uses (known_of h) (lease_holds_at h.setting.geometry (image_leases h.leases.leases.items) (extents_in h)) l.count (h.setting.geometry.images - l.count)) l.reading
