use Rattle.std.proofs.Common.{◌-◌, ◌≤◌}
use Rattle.std.specs.Vec.{vec_capacity, vec_len}
use Rattle.plx_geom.specs.Geometry.{lease_count}
use Rattle.plx_appliance.specs.RenewStarts.{holds_in}
use Rattle.plx_appliance.proofs.Queued.{IsQueued}
use Rattle.plx_appliance.proofs.renewing.renewals.Given as goal

abbrev pub invariant-loop-count : goal.invariant-loop-count
invariant-loop-count l =
    let all = lease_count l.holdings.setting.geometry in
    (all ≤ vec_capacity l.list) × (vec_len l.list ≤ l.count) × IsQueued all (holds_in l.holdings) l.reading l.list.items l.count (all - l.count)
