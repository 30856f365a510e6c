use Rattle.law_lease.proofs.Boots.{boots-have-numbers}
use Rattle.law_lease.proofs.boots_have_numbers.Goals as goal

pub returns : goal.returns
returns c = boots-have-numbers
