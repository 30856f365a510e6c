use Rattle.std.proofs.Common.{◌≡◌}
use Rattle.std.proofs.lemmas.Result.{IfOk-weaker}
use Rattle.plx_geom.specs.Geometry.{lease_count}
use Rattle.plx_appliance.specs.Begins.{BeginsAs, WaitsAs, begun_leases, begun_slots}
use Rattle.plx_appliance.proofs.begun.Begun.begin.Goals as goal

pub returns : goal.returns
returns c =
    let g = c.args.setting.now.geometry in
    let slots = g.slots in
    let leases = lease_count g in
    let begins = BeginsAs slots leases c.args.command in
    let begun = c.built.ensures in
    record {
      process = IfOk-weaker c.built.result begins (WaitsAs c.args.command) (λ b is. is.process) begun;
      slots = IfOk-weaker c.built.result begins (λ b. begun_slots slots b ≡ slots) (λ b is. is.room) begun;
      leases = IfOk-weaker c.built.result begins (λ b. begun_leases leases b ≡ leases) (λ b is. is.renewals) begun;
    }
