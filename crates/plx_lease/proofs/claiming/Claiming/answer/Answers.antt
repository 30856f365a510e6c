use Rattle.plx_lease.specs.ClaimEnds.{claim_end}
use Rattle.plx_lease.specs.Claiming.{claim_rest}
use Rattle.plx_lease.proofs.Shells.{moves-still}
use Rattle.plx_lease.proofs.claiming.Claiming.answer.Goals as goal

pub returns-clause-log : goal.returns-clause-log
returns-clause-log g c =
    let m = c.args.self.now in
    moves-still claim_end (claim_rest m.work) m.end c.args.answer.now _ c.requires.asks c.answer-self.ensures.rest
