use Rattle.std.proofs.Common.{◌-◌, arith}
use Rattle.plx_lease.specs.Uses.{use_if}
use Rattle.plx_appliance.specs.Kept.{known_of}
use Rattle.plx_appliance.specs.Space.{extents_in}
use Rattle.plx_appliance.specs.Tokens.{image_leases}
use Rattle.plx_appliance.proofs.RenewBegins.{reached-next}
use Rattle.plx_appliance.proofs.renewing.reached_lease.Goals as goal

pub loop-count-preserved : goal.loop-count-preserved
loop-count-preserved c =
    let h = c.args.holdings.now in
    let count = c.loop-count.count in
    reached-next (known_of h) h.setting.geometry (image_leases h.leases.leases.items) (extents_in h) c.args.reading count (h.leases.count - 1 - count)
    (use_if c.loop-count.found) (use_if c.reached_beside-found.result) (omega (arith, c.loop-count-test.true, h.leased)) c.loop-count.invariant c.reached_beside-found.ensures
