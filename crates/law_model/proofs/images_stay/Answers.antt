use Rattle.law_model.proofs.Images.{images-stay}
use Rattle.law_model.proofs.images_stay.Goals as goal

pub returns : goal.returns
returns c = images-stay
