-- The headline holds in every world that events lead to.
use Rattle.law_headline.proofs.HeadlineProved.{headline-of-all}
use Rattle.law_headline.proofs.headline.Goals as goal

pub returns : goal.returns
returns c = headline-of-all
