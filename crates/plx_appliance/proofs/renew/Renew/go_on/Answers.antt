use Rattle.std.proofs.Common.{sym, ap, ◌∙◌}
use Rattle.plx_commands.specs.declared.reply.Reply.TheVariants as reply
use Rattle.plx_rules.specs.Ends.{ends}
use Rattle.plx_session.specs.Giving.{rules_setting}
use Rattle.plx_appliance.specs.Renews.{renewals_then}
use Rattle.plx_appliance.proofs.Renewed.{renewals-last}
use Rattle.plx_appliance.proofs.renew.Renew.go_on.Goals as goal

pub returns-clause-rest : goal.returns-clause-rest
returns-clause-rest c = λ known.
    let s = rules_setting c.args.self.now.setting in
    let done = ends reply.Renewed known in
    sym (ap (λ (items : _). renewals_then s known items done) c.in-Some.ensures.items ∙ renewals-last s known c.pop.new.self.items c.in-Some.next done)
