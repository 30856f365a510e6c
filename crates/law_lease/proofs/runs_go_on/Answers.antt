use Rattle.law_lease.proofs.Runs.{runs-go_on}
use Rattle.law_lease.proofs.runs_go_on.Goals as goal

pub returns : goal.returns
returns c = runs-go_on
