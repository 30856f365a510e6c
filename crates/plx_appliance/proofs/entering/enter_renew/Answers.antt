use Rattle.std.proofs.Common.{List, ap, refl, rules, sym, ◌∙◌}
use Rattle.plx_commands.specs.declared.reply.Reply.TheVariants as reply
use Rattle.plx_rules.specs.Ends.{ends}
use Rattle.plx_session.specs.Giving.{rules_setting}
use Rattle.plx_appliance.specs.Kept.{known_of}
use Rattle.plx_appliance.specs.Renews.{renewals_then}
use Rattle.plx_lease.specs.declared.renewal.LeaseRenewal.{LeaseRenewal}
use Rattle.plx_appliance.proofs.Entered.{enters}
use Rattle.plx_appliance.proofs.Renewed.{renewals-last}
use Rattle.plx_appliance.proofs.entering.enter_renew.Goals as goal

pub returns : goal.returns
returns c =
    let h = c.args.holdings.now in
    let s = rules_setting h.setting in
    let k = known_of h in
    let done = ends reply.Renewed k in
    enters h _ (rw (← c.in_default.ensures) (sym (renewals-last s k c.pop.new.self.items c.in-Some-pop.renewal done)
    ∙ sym (ap (λ (items : List LeaseRenewal). renewals_then s k items done) c.in-Some-pop.ensures.items)
    ∙ c.renewals-left.ensures.process s k))
    (record { same = refl; room = refl }) (search rules) tt
