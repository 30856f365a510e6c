use Rattle.std.proofs.Common.{ap, refl, ◌∙◌, arith}
use Rattle.plx_rules.specs.Process.{Ends}
use Rattle.plx_rules.specs.Claims.{ClaimBusy}
use Rattle.plx_lease.proofs.Own.{own-lease}
use Rattle.plx_lease.proofs.Rereads.{reread-other, hold-other}
use Rattle.plx_lease.proofs.claim.LeaseClaim.after_reread.Goals as goal

pub returns-in-Err-NotMine-clause-rest : goal.returns-in-Err-NotMine-clause-rest
returns-in-Err-NotMine-clause-rest g c =
    let h = rw (c.in-Err-NotMine.field-0-is, c.new.ensures.claim) at c.in-Err-NotMine.ensures in
    let read = rw c.as_slice.ensures.same at c.in-Some.ensures.same in
    ap (λ seen. Ends (ClaimBusy seen)) h.2 ∙ reread-other _ _ _ c.in-Some.seen (own-lease c.args.self.now) read h.1

pub returns-in-Err-NotMine-clause-hold : goal.returns-in-Err-NotMine-clause-hold
returns-in-Err-NotMine-clause-hold g c =
    let h = rw (c.in-Err-NotMine.field-0-is, c.new.ensures.claim) at c.in-Err-NotMine.ensures in
    let read = rw c.as_slice.ensures.same at c.in-Some.ensures.same in
    rw (hold-other c.args.self.now.claim c.args.bytes.now _ c.in-Some.seen (own-lease c.args.self.now) read h.1) refl

pub returns-in-Err-TooLate-clause-rest : goal.returns-in-Err-TooLate-clause-rest
returns-in-Err-TooLate-clause-rest g c =
    let h = rw (c.in-Err-TooLate.field-0-is, c.new.ensures.claim) at c.in-Err-TooLate.ensures in
    let early = c.args.self.now.early in
    absurd (let late = h.0 in omega (arith, late, early))

pub returns-in-Err-TooLate-clause-hold : goal.returns-in-Err-TooLate-clause-hold
returns-in-Err-TooLate-clause-hold g c =
    let h = rw (c.in-Err-TooLate.field-0-is, c.new.ensures.claim) at c.in-Err-TooLate.ensures in
    let early = c.args.self.now.early in
    absurd (let late = h.0 in omega (arith, late, early))
