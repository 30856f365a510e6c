use Rattle.std.proofs.Common.{◌∙◌}
use Rattle.plx_session.specs.Giving.{rules_setting}
use Rattle.plx_appliance.specs.Kept.{known_of}
use Rattle.plx_appliance.specs.RenewStarts.{leases_in}
use Rattle.plx_appliance.specs.Retires.{around_of}
use Rattle.plx_appliance.proofs.Retired.{retire-whole}
use Rattle.plx_appliance.proofs.retire.Retire.enter.Goals as goal

pub returns-in-Ok-clause-process : goal.returns-in-Ok-clause-process
returns-in-Ok-clause-process c =
    let h = c.args.holdings.now in
    let o = around_of (rules_setting h.setting) h.setting.appliance.0 (known_of h) (leases_in h) in
    c.in-Ok.ensures.rest o ∙ retire-whole h

pub returns-in-Ok-after_extents-clause-process : goal.returns-in-Ok-after_extents-clause-process
returns-in-Ok-after_extents-clause-process c =
    let h = c.args.holdings.now in
    let o = around_of (rules_setting h.setting) h.setting.appliance.0 (known_of h) (leases_in h) in
    c.in-Ok-after_extents.ensures.process h.space.claims ∙ c.in-Err.ensures.rest o ∙ retire-whole h

pub returns-in-Err-after_extents-clause-process : goal.returns-in-Err-after_extents-clause-process
returns-in-Err-after_extents-clause-process c =
    let h = c.args.holdings.now in
    let o = around_of (rules_setting h.setting) h.setting.appliance.0 (known_of h) (leases_in h) in
    c.in-Err-after_extents.ensures.process h.space.claims ∙ c.in-Err.ensures.rest o ∙ retire-whole h
