use Rattle.law_run.proofs.ReleaseRules.{release-ask}
use Rattle.plx_lease.specs.Releasing.{release_end, release_rest}
use Rattle.plx_lease.proofs.Shells.{asks-still}
use Rattle.plx_lease.proofs.releasing.Releasing.ask.Goals as goal

pub returns-clause-rules : goal.returns-clause-rules
returns-clause-rules g c =
    let m = c.args.self.now in
    release-ask _ _ (asks-still release_end (release_rest m.work) m.end c.ask.result c.requires c.ask.ensures.ask)
