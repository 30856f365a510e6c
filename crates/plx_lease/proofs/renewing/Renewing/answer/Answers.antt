use Rattle.plx_lease.specs.Renewing.{renewal_end, renewal_rest}
use Rattle.plx_lease.proofs.Shells.{moves-still}
use Rattle.plx_lease.proofs.renewing.Renewing.answer.Goals as goal

pub returns-clause-log : goal.returns-clause-log
returns-clause-log g c =
    let m = c.args.self.now in
    moves-still renewal_end (renewal_rest m.work) m.end c.args.answer.now _ c.requires c.answer-self.ensures.rest
