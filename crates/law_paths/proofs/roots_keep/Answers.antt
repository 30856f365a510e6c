use Rattle.law_paths.proofs.Roots.{roots-keep, roots-reach}
use Rattle.law_paths.proofs.roots_keep.Goals as goal

pub returns : goal.returns
returns c = record { kept = roots-keep; reached = roots-reach }
