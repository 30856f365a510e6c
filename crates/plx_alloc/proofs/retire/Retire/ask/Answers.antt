use Rattle.std.proofs.Common.{rules}
use Rattle.law_run.proofs.RetireRules.{retire-ask}
use Rattle.plx_alloc.proofs.retire.Retire.ask.Goals as goal

pub returns-in-Give-clause-ask : goal.returns-in-Give-clause-ask
returns-in-Give-clause-ask c = search rules

pub returns-in-Give-clause-rules : goal.returns-in-Give-clause-rules
returns-in-Give-clause-rules c = λ o a. retire-ask _ _ (returns-in-Give-clause-ask c o a)

pub returns-in-Release-clause-ask : goal.returns-in-Release-clause-ask
returns-in-Release-clause-ask c = search rules

pub returns-in-Release-clause-rules : goal.returns-in-Release-clause-rules
returns-in-Release-clause-rules c = λ o a. retire-ask _ _ (returns-in-Release-clause-ask c o a)
