use Rattle.law_run.proofs.Machines.{comes-first}
use Rattle.plx_lease.proofs.renewing.Renewing.begin.Goals as goal

pub returns-clause-log : goal.returns-clause-log
returns-clause-log g c place is = comes-first _ _ (c.begin-work.ensures.rest place is)
