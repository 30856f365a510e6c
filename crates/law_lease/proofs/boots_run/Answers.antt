use Rattle.law_lease.proofs.Runs.{boots-run}
use Rattle.law_lease.proofs.boots_run.Goals as goal

pub returns : goal.returns
returns c = boots-run
