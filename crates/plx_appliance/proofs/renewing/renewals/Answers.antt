use Rattle.std.proofs.Common.{◌≡◌, ◌+◌, ◌-◌, sym, ap, List, length, subst, arith}
use Rattle.plx_geom.specs.Geometry.{lease_count}
use Rattle.plx_lease.specs.declared.renewal.LeaseRenewal.{LeaseRenewal}
use Rattle.plx_appliance.specs.RenewStarts.{holds_in}
use Rattle.plx_appliance.proofs.Queued.{IsQueued, queued-all, queued-next, queued-none}
use Rattle.plx_appliance.proofs.renewing.renewals.Goals as goal

pub loop-count-init : goal.loop-count-init
loop-count-init c =
    let h = c.args.holdings.now in
    let all = lease_count h.setting.geometry in
    let none = subst (λ (items : List LeaseRenewal). IsQueued all (holds_in h) c.args.reading items 0 (all - 0)) (sym c.args.room.empty) (queued-none all (holds_in h) c.args.reading) in
    let empty : length c.args.room.list.items ≡ 0 = ap length c.args.room.empty in
    (omega (arith, c.requires.room, c.args.room.room), omega (arith, c.args.room.list.ok.0, empty), none)

pub loop-count-preserved : goal.loop-count-preserved
loop-count-preserved c =
    let h = c.args.holdings.now in
    let all = lease_count h.setting.geometry in
    let count = c.loop-count.count in
    let i = c.loop-count.invariant in
    let e = c.renewal-next.ensures in
    let next = queued-next all (holds_in h) c.args.reading (c.args.room.leases - 1 - count) count c.loop-count.list.items c.renewal-next.result
    (omega (arith, c.loop-count-test.true, c.requires.room)) i.2 e.process e.number e.held in
    let more = subst (λ (items : List LeaseRenewal). IsQueued all (holds_in h) c.args.reading items (count + 1) (all - (count + 1))) (sym c.push.ensures.items) next in
    (omega (arith, i.0, c.push.ensures.capacity), omega (arith, i.1, c.push.ensures.len), more)

pub returns : goal.returns
returns c =
    let h = c.args.holdings.now in
    let count = c.loop-count.count in
    let last : count ≡ lease_count h.setting.geometry = omega (arith, c.loop-count-test.false, c.loop-count.auto.count-end, c.requires.room) in
    let all = queued-all (lease_count h.setting.geometry) (holds_in h) c.args.reading c.loop-count.list.items count last c.loop-count.invariant.2 in
    record { process = all.process; held = all.held }
