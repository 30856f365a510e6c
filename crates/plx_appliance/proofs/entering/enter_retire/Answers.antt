use Rattle.std.proofs.Common.{ap}
use Rattle.plx_session.specs.declared.setting.Setting.{Setting}
use Rattle.plx_appliance.proofs.Entered.{enters, refusal-enters}
use Rattle.plx_appliance.proofs.entering.enter_retire.Goals as goal

pub returns-in-Ok : goal.returns-in-Ok
returns-in-Ok c =
    let e = c.in-Ok.ensures in
    enters c.args.holdings.now _ e.process
    (record { same = e.setting; room = ap (λ (s : Setting). s.geometry.slots) e.setting })
    (e.tells _) e.suits

pub returns-in-Err : goal.returns-in-Err
returns-in-Err c = refusal-enters c.args.holdings.now _ c.in-Err.ensures.process
