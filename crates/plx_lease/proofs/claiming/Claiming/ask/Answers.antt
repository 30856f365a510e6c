use Rattle.law_run.proofs.ClaimRules.{claim-ask}
use Rattle.plx_lease.specs.ClaimEnds.{claim_end}
use Rattle.plx_lease.specs.Claiming.{claim_rest}
use Rattle.plx_lease.proofs.Shells.{asks-still}
use Rattle.plx_lease.proofs.claiming.Claiming.ask.Goals as goal

pub returns-clause-rules : goal.returns-clause-rules
returns-clause-rules g c =
    let m = c.args.self.now in
    claim-ask _ _ (asks-still claim_end (claim_rest m.work) m.end c.ask.result c.requires c.ask.ensures.ask)
