use Rattle.plx_lease.proofs.Own.{renewed-own}
use Rattle.plx_lease.proofs.renewal.LeaseRenewal.answer.Goals as goal

pub returns-in-Done-clause-hold : goal.returns-in-Done-clause-hold
returns-in-Done-clause-hold c = rw c.in-Done.is (λ fits. renewed-own c.args.self.now)
