use Rattle.std.proofs.Common.{ℕ, ◌<◌, ◌∙◌, refl, subst}
use Rattle.plx_commands.specs.declared.reply.Reply.TheVariants as reply
use Rattle.plx_session.specs.Commands.{image_process}
use Rattle.plx_session.specs.Giving.{rules_setting}
use Rattle.plx_appliance.specs.Kept.{known_of}
use Rattle.plx_session.specs.Shown.{session_of}
use Rattle.plx_appliance.specs.Lent.{lent_of}
use Rattle.plx_appliance.specs.RenewStarts.{holds_in}
use Rattle.plx_appliance.proofs.Entered.{attached-none, by-lease, image-enters, refusal-enters}
use Rattle.plx_appliance.proofs.entering.enter_image.Goals as goal

pub leased-requires : goal.leased-requires
leased-requires c =
    let same = c.args.holdings.now.images in
    subst (λ (count : ℕ). c.args.slot.0 < count) same c.in-Some.ensures.1

pub enter_leased-requires : goal.enter_leased-requires
enter_leased-requires c =
    let setting = c.in-Ok.ensures.setting c.in-Ok.image refl in
    rw setting (c.in-Some.ensures.2 ∙ c.args.holdings.now.slots)

pub returns-in_default : goal.returns-in_default
returns-in_default c =
    let h = c.args.holdings.now in
    let s = rules_setting h.setting in
    let rest = image_process s (known_of h) c.args.slot.0 c.args.command in
    refusal-enters h reply.NotAttached (attached-none s (known_of h) (holds_in h) c.args.reading c.args.slot.0 rest c.in_default.ensures)

pub returns-in-Err : goal.returns-in-Err
returns-in-Err c =
    let h = c.args.holdings.now in
    let session = session_of c.in-Some.session.now in
    let rest = image_process (rules_setting h.setting) (known_of h) c.args.slot.0 c.args.command in
    refusal-enters h c.in-Err.reply (by-lease h c.args.reading c.args.slot session rest
    (c.in-Err.ensures.process (known_of h) (rest session)) c.in-Some.ensures.0 c.in-Some.ensures.1)

pub returns-in-Ok : goal.returns-in-Ok
returns-in-Ok c =
    let h = c.args.holdings.now in
    let some = c.in-Some.ensures in
    let image = c.in-Ok.image in
    let slot = c.in-Ok.ensures.slot image refl in
    let e = c.enter_leased.ensures in
    image-enters h c.args.reading c.args.slot (session_of c.in-Some.session.now) image
    (λ s named. image_process s (known_of h) named c.args.command) c.enter_leased.result
    (e.process (lent_of h) (rw slot some.0)) e.image slot (c.in-Ok.ensures.setting image refl)
    (c.in-Ok.ensures.process (known_of h)) some.0 some.1
