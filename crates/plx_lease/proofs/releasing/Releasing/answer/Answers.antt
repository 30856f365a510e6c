use Rattle.plx_lease.specs.Releasing.{release_end, release_rest}
use Rattle.plx_lease.proofs.Shells.{moves-still}
use Rattle.plx_lease.proofs.releasing.Releasing.answer.Goals as goal

pub returns-clause-log : goal.returns-clause-log
returns-clause-log g c =
    let m = c.args.self.now in
    moves-still release_end (release_rest m.work) m.end c.args.answer.now _ c.requires c.answer-self.ensures.rest
