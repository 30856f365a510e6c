use Rattle.std.proofs.Common.{◌≡◌, ℕ}
use Rattle.plx_session.specs.Giving.{rules_setting}
use Rattle.plx_appliance.specs.Kept.{known_by}
use Rattle.plx_appliance.specs.Retires.{images_from}
use Rattle.plx_appliance.specs.Tokens.{image_leases}
use Rattle.plx_appliance.proofs.retiring.next_due.Given as goal

abbrev pub invariant-loop-index : goal.invariant-loop-index
invariant-loop-index l = (claims : ℕ) →
    images_from (rules_setting l.setting) (known_by l.sessions claims) (image_leases l.leases.leases.items) l.index
    ≡ images_from (rules_setting l.setting) (known_by l.sessions claims) (image_leases l.leases.leases.items) l.from
