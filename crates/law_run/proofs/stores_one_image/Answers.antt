use Rattle.law_run.proofs.OneImage.{stores-one}
use Rattle.law_run.proofs.stores_one_image.Goals as goal

pub returns : goal.returns
returns c = stores-one
