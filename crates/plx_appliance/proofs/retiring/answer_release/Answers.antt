use Rattle.std.proofs.Common.{ℕ, ◌+◌, ap, ◌∙◌, arith}
use Rattle.plx_commands.proofs.Places.{at-other}
use Rattle.plx_rules.specs.Holds.{Hold, Nothing}
use Rattle.plx_session.specs.Giving.{rules_setting}
use Rattle.plx_appliance.specs.Kept.{known_by}
use Rattle.plx_appliance.specs.Tokens.{image_leases}
use Rattle.plx_appliance.proofs.Retired.{retire-apart}
use Rattle.plx_appliance.proofs.retiring.answer_release.Goals as goal

pub returns-after-take-clause-process : goal.returns-after-take-clause-process
returns-after-take-clause-process c = λ claims.
    let image = c.args.image.now in
    let old = image_leases c.args.leases.now.leases.items in
    let new = image_leases c.take.new.self.leases.items in
    let slot = image.slot.0 in
    rw c.in-Done.is (c.next_due.ensures.process claims
    ∙ retire-apart (rules_setting image.setting) (known_by c.args.sessions.now claims) new old (slot + 1)
    (λ place low. ap (λ (t : ℕ → Hold). t place) c.take.ensures.held ∙ at-other old slot place Nothing (λ e. absurd (omega (arith, e, low)))))
