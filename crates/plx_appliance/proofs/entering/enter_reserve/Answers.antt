use Rattle.std.proofs.Common.{◌∙◌, refl, rules}
use Rattle.plx_appliance.specs.Kept.{known_of, sessions_of}
use Rattle.plx_appliance.specs.Reserves.{outer_of}
use Rattle.plx_appliance.proofs.Entered.{enters, refusal-enters}
use Rattle.plx_appliance.proofs.Lending.{reserve-lent}
use Rattle.plx_appliance.proofs.entering.enter_reserve.Goals as goal

pub returns-in-Ok : goal.returns-in-Ok
returns-in-Ok c =
    let h = c.args.holdings.now in
    let rest = c.in-Ok.ensures.rest (outer_of h.setting (sessions_of h.sessions.images.items)) in
    enters h _ (rest ∙ reserve-lent h c.args.need.count)
    (record { same = refl; room = refl }) (search rules) (search rules)

pub returns-in-Err : goal.returns-in-Err
returns-in-Err c =
    let h = c.args.holdings.now in
    refusal-enters h c.reserve_reply.result (c.reserve_reply.ensures (known_of h)
    ∙ c.in-Err.ensures.rest (outer_of h.setting (sessions_of h.sessions.images.items))
    ∙ reserve-lent h c.args.need.count)
