use Rattle.law_run.proofs.Worlds.{boots-keep-rules}
use Rattle.law_run.proofs.boots_keep_rules.Goals as goal

pub returns : goal.returns
returns c = boots-keep-rules
