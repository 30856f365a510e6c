use Rattle.law_run.proofs.Begun.{configurations-agree}
use Rattle.law_run.proofs.configurations_agree.Goals as goal

pub returns : goal.returns
returns c = configurations-agree
