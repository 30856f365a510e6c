use Rattle.plx_lease.proofs.Own.{wrote-own}
use Rattle.plx_lease.proofs.claim.LeaseClaim.after_write.Goals as goal

pub returns-clause-hold : goal.returns-clause-hold
returns-clause-hold g c = (wrote-own c.args.self.now, tt)
