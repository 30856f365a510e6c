use Rattle.std.proofs.Common.{◌≡◌, ℕ, refl, ap, ◌∙◌}
use Rattle.plx_commands.specs.Places.{at}
use Rattle.plx_rules.specs.Holds.{Hold, Nothing}
use Rattle.plx_rules.specs.Holds.{Held as HeldBy}
use Rattle.plx_lease.specs.Renewing.{longer_hold}
use Rattle.plx_appliance.specs.Tokens.{image_leases}
use Rattle.plx_alloc.proofs.Lengthened.{at-twice}
use Rattle.plx_appliance.proofs.lease.Leases.lengthen.Goals as goal

pub returns-in-Some-clause-held : goal.returns-in-Some-clause-held
returns-in-Some-clause-held c =
    let old = image_leases c.args.self.now.leases.items in
    let slot = c.args.slot.0 in
    let new = HeldBy c.renewed.result.claim c.renewed.result.until in
    let is : new ≡ longer_hold c.args.end (HeldBy c.in-Some.held.claim c.in-Some.held.until) = rw (c.renewed.ensures.claim, c.renewed.ensures.until, c.later-until.ensures, c.until.ensures) refl in
    c.put.ensures.held
    ∙ ap (λ (t : ℕ → Hold). at t slot new) c.in-Some.ensures.held
    ∙ at-twice old slot Nothing new
    ∙ ap (at old slot) (is ∙ ap (longer_hold c.args.end) c.in-Some.ensures.taken)
