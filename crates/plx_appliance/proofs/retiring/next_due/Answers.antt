use Rattle.std.proofs.Common.{◌+◌, ◌<◌, sym, ap, ◌∙◌, arith}
use Rattle.plx_base.specs.declared.numbers.SlotNo.{SlotNo}
use Rattle.plx_rules.specs.Space.{release_then}
use Rattle.plx_session.specs.Giving.{rules_setting}
use Rattle.plx_appliance.specs.Kept.{known_by}
use Rattle.plx_session.specs.Leases.{leased_use}
use Rattle.plx_appliance.specs.Retires.{images_from}
use Rattle.plx_appliance.specs.Tokens.{image_leases}
use Rattle.plx_appliance.proofs.Retired.{retire-image-next}
use Rattle.plx_appliance.proofs.retiring.next_due.Goals as goal

pub returns-in-Some-clause-process : goal.returns-in-Some-clause-process
returns-in-Some-clause-process c = λ claims.
    let s = rules_setting c.args.setting.now in
    let k = known_by c.args.sessions.now claims in
    let leases = image_leases c.args.leases.now.leases.items in
    let index = c.loop-index.index in
    let image = c.in-Some.image in
    let within : index < c.args.setting.now.geometry.images = omega (arith, c.loop-index-test.true, c.requires.leased) in
    ap (λ (slot : SlotNo). release_then s k (leased_use image) (images_from s k leases (slot.0 + 1))) c.in-Some.ensures.slot
    ∙ c.in-Some.ensures.process claims (images_from s k leases (index + 1))
    ∙ sym (retire-image-next s k leases index within)
    ∙ c.loop-index.invariant claims

pub loop-index-preserved : goal.loop-index-preserved
loop-index-preserved c = λ claims.
    let s = rules_setting c.args.setting.now in
    let k = known_by c.args.sessions.now claims in
    let leases = image_leases c.args.leases.now.leases.items in
    let index = c.loop-index.index in
    let within : index < c.args.setting.now.geometry.images = omega (arith, c.loop-index-test.true, c.requires.leased) in
    c.in_default.ensures.process claims (images_from s k leases (index + 1))
    ∙ sym (retire-image-next s k leases index within)
    ∙ c.loop-index.invariant claims
