use Rattle.std.proofs.Common.{rules, ◌≡◌, ◌+◌, sym, ap, ◌∙◌}
use Rattle.plx_geom.specs.Geometry.{lease_at}
use Rattle.plx_lease.specs.Renewing.{renewal_hold}
use Rattle.plx_rules.specs.Commands.{later_of}
use Rattle.plx_rules.specs.Times.{term}
use Rattle.plx_appliance.specs.RenewStarts.{holds_in}
use Rattle.plx_appliance.proofs.RenewBegins.{renewal-some}
use Rattle.plx_appliance.proofs.renewing.renewal.Goals as goal

pub returns-in_ok-held-in-Image-clause-number : goal.returns-in_ok-held-in-Image-clause-number
returns-in_ok-held-in-Image-clause-number c = c.begin.ensures.number c.args.lease (ap (λ n. 1 + n) c.from.ensures)

pub returns-in_ok-held-in-Image-clause-process : goal.returns-in_ok-held-in-Image-clause-process
returns-in_ok-held-in-Image-clause-process c =
    let lease = c.args.lease in
    let r = c.begin.result in
    let e = c.begin.ensures in
    let hold : holds_in c.args.holdings.now (lease_at lease) ≡ renewal_hold r = search rules in
    λ s known rest. renewal-some s known c.args.reading lease (holds_in c.args.holdings.now (lease_at lease)) rest r hold
    (e.number lease (ap (λ n. 1 + n) c.from.ensures)) (e.later ∙ ap (λ until. later_of until (c.args.reading + term)) (sym e.until))

pub returns-in_ok-held-in-Extent-clause-number : goal.returns-in_ok-held-in-Extent-clause-number
returns-in_ok-held-in-Extent-clause-number c = c.begin-in-Extent.ensures.number c.args.lease (ap (λ n. 1 + n) c.from.ensures)

pub returns-in_ok-held-in-Extent-clause-process : goal.returns-in_ok-held-in-Extent-clause-process
returns-in_ok-held-in-Extent-clause-process c =
    let lease = c.args.lease in
    let r = c.begin-in-Extent.result in
    let e = c.begin-in-Extent.ensures in
    let hold : holds_in c.args.holdings.now (lease_at lease) ≡ renewal_hold r = search rules in
    λ s known rest. renewal-some s known c.args.reading lease (holds_in c.args.holdings.now (lease_at lease)) rest r hold
    (e.number lease (ap (λ n. 1 + n) c.from.ensures)) (e.later ∙ ap (λ until. later_of until (c.args.reading + term)) (sym e.until))
