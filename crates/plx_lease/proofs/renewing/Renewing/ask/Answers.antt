use Rattle.law_run.proofs.RenewalRules.{renewal-ask}
use Rattle.plx_lease.specs.Renewing.{renewal_end, renewal_rest}
use Rattle.plx_lease.proofs.Shells.{asks-still}
use Rattle.plx_lease.proofs.renewing.Renewing.ask.Goals as goal

pub returns-clause-rules : goal.returns-clause-rules
returns-clause-rules g c =
    let m = c.args.self.now in
    renewal-ask _ _ (asks-still renewal_end (renewal_rest m.work) m.end c.ask.result c.requires c.ask.ensures.ask)
