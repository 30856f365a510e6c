use Rattle.law_model.proofs.ModelFacts.{sound-all}
use Rattle.law_model.proofs.models_are_sound.Goals as goal

pub returns : goal.returns
returns c = sound-all
