use Rattle.plx_lease.specs.Uses.{uses_of}
use Rattle.std.proofs.Common.{ap, ◌+◌, ◌∙◌}
use Rattle.plx_alloc.specs.Retires.{retire_extents_from}
use Rattle.plx_base.specs.declared.numbers.ExtentNo.{ExtentNo}
use Rattle.plx_alloc.proofs.Released.{released-hand, released-next}
use Rattle.plx_alloc.proofs.retire.Retire.released.Goals as goal

pub go_on-requires-clause-held : goal.go_on-requires-clause-held
go_on-requires-clause-held c = released-hand c.args.space.now c.release.new.self c.release.ensures.same c.release.ensures.hand

pub returns-clause-rest : goal.returns-clause-rest
returns-clause-rest c = λ o.
    let a = c.args.space.now in
    let e = c.release.ensures in
    c.go_on.ensures.rest o
    ∙ (released-next o a c.release.new.self (uses_of c.args.self.now.giving.uses) c.extent-extent.result.0 e.same e.claims e.leases e.hand c.requires.suits.held
    ∙ ap (λ (x : ExtentNo). retire_extents_from o a (uses_of c.args.self.now.giving.uses) (x.0 + 1)) c.extent-extent.ensures)

pub returns-clause-held : goal.returns-clause-held
returns-clause-held c = released-hand c.args.space.now c.release.new.self c.release.ensures.same c.release.ensures.hand
