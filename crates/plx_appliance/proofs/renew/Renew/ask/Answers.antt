use Rattle.plx_appliance.proofs.Places.{renewal-within}
use Rattle.plx_appliance.proofs.renew.Renew.ask.Goals as goal

pub returns-clause-within : goal.returns-clause-within
returns-clause-within c = λ leases h. renewal-within c.args.self.now leases c.ask.result c.ask.ensures.own h
