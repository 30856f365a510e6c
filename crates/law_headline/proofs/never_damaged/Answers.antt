-- No reply of a world that events lead to tells of bytes outside the format.
use Rattle.law_headline.proofs.HeadlineProved.{never-damaged}
use Rattle.law_headline.proofs.never_damaged.Goals as goal

pub returns : goal.returns
returns c = never-damaged
