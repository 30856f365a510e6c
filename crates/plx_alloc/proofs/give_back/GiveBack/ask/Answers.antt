use Rattle.plx_lease.specs.Uses.{uses_of}
use Rattle.std.proofs.Common.{◌+◌}
use Rattle.plx_alloc.specs.Gives.{give_from}
use Rattle.plx_alloc.proofs.GiveBackRules.{give-back-ask}
use Rattle.plx_alloc.proofs.give_back.GiveBack.ask.Goals as goal

pub returns-clause-rules : goal.returns-clause-rules
returns-clause-rules c = λ o a.
    let m = c.args.self.now.giving in
    give-back-ask _ _ (c.ask.ensures.ask (record o { rest = give_from o a (uses_of m.uses) (m.extent.0 + 1) }) a)
