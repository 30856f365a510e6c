use Rattle.std.proofs.Common.{Some, None, refl}
use Rattle.plx_rules.proofs.Nested.{followed-after-answer}
use Rattle.plx_lease.proofs.Asking.{claim-asks}
use Rattle.plx_appliance.proofs.attach.Attach.answer.Goals as goal

pub returns-in-None-clause-rest : goal.returns-in-None-clause-rest
returns-in-None-clause-rest c = λ claims. rw c.in-Claim.is (followed-after-answer _ _ _ _ (claim-asks c.in-Claim.claim.claim) c.in-None.ensures.rest)

pub returns-in-None-clause-moves : goal.returns-in-None-clause-moves
returns-in-None-clause-moves c = rw c.in-Claim.is (record {
  claim = c.answer.new.self;
  end = None;
  hold = c.in-None.ensures.hold;
  number = c.in-None.ensures.kept.number;
  leases = refl;
  goes_on = λ none. (refl, refl, refl);
})

pub returns-in-Ok-clause-moves : goal.returns-in-Ok-clause-moves
returns-in-Ok-clause-moves c = rw c.in-Claim.is (record {
  claim = c.answer.new.self;
  end = Some c.in-Some.end;
  hold = c.in-Some.ensures.hold;
  number = c.in-Some.ensures.kept.number;
  leases = c.in-Ok.ensures.leases;
  goes_on = tt;
})

pub returns-in-Err-clause-moves : goal.returns-in-Err-clause-moves
returns-in-Err-clause-moves c = rw c.in-Claim.is (record {
  claim = c.answer.new.self;
  end = Some c.in-Some.end;
  hold = c.in-Some.ensures.hold;
  number = c.in-Some.ensures.kept.number;
  leases = c.in-Err.ensures.leases;
  goes_on = λ none. absurd cc;
})
