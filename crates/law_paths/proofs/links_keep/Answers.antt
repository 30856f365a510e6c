use Rattle.law_paths.proofs.Kept.{links-keep}
use Rattle.law_paths.proofs.links_keep.Goals as goal

pub returns : goal.returns
returns c = links-keep
