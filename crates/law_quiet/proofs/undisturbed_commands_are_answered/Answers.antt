-- An undisturbed command whose leases are free, expired or held has its own Ok.
use Rattle.law_quiet.proofs.QuietProved.{ok-where-undisturbed}
use Rattle.law_quiet.proofs.undisturbed_commands_are_answered.Goals as goal

pub returns : goal.returns
returns c = ok-where-undisturbed
