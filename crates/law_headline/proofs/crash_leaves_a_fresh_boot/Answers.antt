-- A crash leaves exactly the fresh appliance of the next boot.
use Rattle.law_headline.proofs.CrashesProved.{crashes-leave}
use Rattle.law_headline.proofs.crash_leaves_a_fresh_boot.Goals as goal

pub returns : goal.returns
returns c = crashes-leave
