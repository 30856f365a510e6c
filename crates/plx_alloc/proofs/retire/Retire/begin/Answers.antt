use Rattle.std.proofs.Common.{rules}
use Rattle.law_run.proofs.Machines.{comes-first}
use Rattle.plx_alloc.proofs.retire.Retire.begin.Goals as goal

pub returns-in-None-clause-log : goal.returns-in-None-clause-log
returns-in-None-clause-log c = λ o. comes-first _ _ (search rules)

pub returns-in-Some-clause-log : goal.returns-in-Some-clause-log
returns-in-Some-clause-log c = λ o. comes-first _ _ (search rules)
