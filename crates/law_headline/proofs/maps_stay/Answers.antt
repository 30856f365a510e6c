-- The block of each extent's map holds a map in every world that events lead to.
use Rattle.law_headline.proofs.HeadlineProved.{maps-stay}
use Rattle.law_headline.proofs.maps_stay.Goals as goal

pub returns : goal.returns
returns c = maps-stay
