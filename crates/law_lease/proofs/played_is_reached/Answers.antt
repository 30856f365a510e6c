use Rattle.law_lease.proofs.Runs.{played-reached}
use Rattle.law_lease.proofs.played_is_reached.Goals as goal

pub returns : goal.returns
returns c = played-reached
