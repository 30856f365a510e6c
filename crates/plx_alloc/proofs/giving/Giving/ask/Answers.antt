use Rattle.plx_alloc.specs.declared.giving.GivingAt.TheVariants as at
use Rattle.plx_alloc.proofs.GiveRules.{asks-rightly}
use Rattle.plx_alloc.proofs.giving.Giving.ask.Goals as goal

pub returns-in-Map-clause-rules : goal.returns-in-Map-clause-rules
returns-in-Map-clause-rules c = λ o a. asks-rightly at.Map o a c.args.self.now c.in-Map.is

pub returns-in-Write-clause-rules : goal.returns-in-Write-clause-rules
returns-in-Write-clause-rules c = λ o a. asks-rightly at.Write o a c.args.self.now c.in-Write.is

pub returns-in-Damaged-clause-rules : goal.returns-in-Damaged-clause-rules
returns-in-Damaged-clause-rules c = λ o a. asks-rightly at.Damaged o a c.args.self.now c.in-Damaged.is
