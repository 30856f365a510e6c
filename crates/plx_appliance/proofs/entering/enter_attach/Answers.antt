use Rattle.std.proofs.Common.{◌<◌, refl, arith}
use Rattle.plx_commands.specs.declared.reply.Reply.TheVariants as reply
use Rattle.plx_appliance.specs.Kept.{known_of}
use Rattle.plx_appliance.specs.RenewStarts.{leases_in}
use Rattle.plx_appliance.proofs.Entered.{attach-within, enters, refusal-enters}
use Rattle.plx_appliance.proofs.entering.enter_attach.Goals as goal

pub returns-in-Some : goal.returns-in-Some
returns-in-Some c = refusal-enters c.args.holdings.now reply.AlreadyAttached (rw c.in-Some.ensures.0 refl)

pub returns-in-Some-get : goal.returns-in-Some-get
returns-in-Some-get c =
    let h = c.args.holdings.now in
    let e = c.load.ensures in
    let within : c.args.slot.0 < h.setting.geometry.images = grind arith in
    enters h _ (rw (c.in_default.ensures, attach-within h c.args.slot.0 within, c.in-Some-get.ensures, ← c.until.ensures) (e.rest (known_of h)))
    (record { same = e.setting; room = e.slots }) (e.starts (leases_in h)) tt

pub returns-in-None : goal.returns-in-None
returns-in-None c =
    let h = c.args.holdings.now in
    let within : c.args.slot.0 < h.setting.geometry.images = grind arith in
    rw (c.in_default.ensures, attach-within h c.args.slot.0 within, c.in-None.ensures) c.enter_claim.ensures
