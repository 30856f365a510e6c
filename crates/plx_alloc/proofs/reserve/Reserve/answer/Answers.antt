use Rattle.std.proofs.Common.{rules, ◌≡◌, ◌∙◌, ap, sym, refl, subst, ℕ, List, Option, Some}
use Rattle.plx_lease.proofs.Asking.{claim-asks}
use Rattle.plx_rules.proofs.Nested.{followed-after-answer}
use Rattle.plx_rules.specs.Ends.{lost_process}
use Rattle.plx_alloc.specs.Moving.{ReadsFirst, found_tells, looked_starts, tells_at}
use Rattle.plx_alloc.specs.Tables.{allocator_setting, extent_leases}
use Rattle.plx_alloc.specs.Takes.{outer_known, reserve_follows}
use Rattle.plx_geom.specs.Geometry.{Geometry}
use Rattle.plx_alloc.specs.declared.reserve.Reserve.{Reserve}
use Rattle.plx_alloc.specs.declared.reserve.ReserveAt.{ReserveAt}
use Rattle.plx_alloc.specs.declared.reserve.ReserveAt.TheVariants as at
use Rattle.plx_alloc.proofs.TakeEnds.{moves-on-rightly}
use Rattle.plx_alloc.proofs.reserve.Reserve.answer.Goals as goal

-- what was found tells what is taken
tells-of : (place : ReserveAt) (g : Geometry) (m : Reserve) (found : Option (ℕ × List ℕ)) → found_tells place g m found → tells_at place g m found
tells-of at.Map g m found tells = tells
tells-of at.Look g m found tells = tells
tells-of at.Write g m found tells = tells
tells-of at.Claim g m found tells = tt
tells-of at.Damaged g m found tells = tells

-- a take that reads claims nothing
ask-no-claim : (place : ReserveAt) → ReadsFirst place → place ≡ at.Claim → ⊥
ask-no-claim place reads here = subst ReadsFirst here reads

pub returns-in-Write-Missed-clause-rest : goal.returns-in-Write-Missed-clause-rest
returns-in-Write-Missed-clause-rest c = λ o.
    let a = c.args.space.now in
    let m = c.args.self.now in
    let s = allocator_setting o.appliance a in
    let known = outer_known o a in
    rw (c.in-Write-Missed.is-0, c.in-Write-Missed.is-1)
    (c.lost.ensures s (reserve_follows o a m) known (sym c.geometry.ensures) ∙ ap (λ due. lost_process s known due c.in-Write-Missed.reading) c.own_use.ensures)

pub returns-in-None-clause-rest : goal.returns-in-None-clause-rest
returns-in-None-clause-rest c = λ o. rw c.in-Claim-default.is-0 (followed-after-answer _ _ _ _ (claim-asks c.args.self.now.claim) c.in-None.ensures.rest)

pub returns-in-Map-Bytes-clause-leases : goal.returns-in-Map-Bytes-clause-leases
returns-in-Map-Bytes-clause-leases c =
    rw c.in-Map-Bytes.is-0 (record {
      leases = refl;
      starts = λ none' here. absurd (subst (λ place. found_tells place c.args.space.now.geometry c.found.new.self (Some (c.args.self.now.map.0, c.in-Map-Bytes.bytes))) here (c.found.ensures.tells none'));
    })

pub returns-in-Look-Bytes-clause-leases : goal.returns-in-Look-Bytes-clause-leases
returns-in-Look-Bytes-clause-leases c =
    rw c.in-Look-Bytes.is-0 (record {
      leases = c.after_look.ensures.leases;
      starts = λ none' here. subst (λ place. looked_starts place c.args.space.now.geometry c.after_look.new.self (extent_leases c.after_look.new.space)) here (c.after_look.ensures.starts none');
    })

pub returns-in-Map-Bytes-clause-found : goal.returns-in-Map-Bytes-clause-found
returns-in-Map-Bytes-clause-found c = λ fits none'.
    rw (c.in-Map-Bytes.is-0, c.in-Map-Bytes.is-1)
    (tells-of c.found.new.self.at c.args.space.now.geometry c.found.new.self (Some (c.args.self.now.map.0, c.in-Map-Bytes.bytes)) (c.found.ensures.tells none'))

pub returns-in-Write-Done-clause-leases : goal.returns-in-Write-Done-clause-leases
returns-in-Write-Done-clause-leases c =
    rw c.in-Write-Done.is-0 (record { leases = c.after_write.ensures.leases; starts = λ none' here. absurd (ask-no-claim c.after_write.new.self.at (c.after_write.ensures.reads none') here) })

pub returns-in-Some-clause-leases : goal.returns-in-Some-clause-leases
returns-in-Some-clause-leases c =
    let e = c.in-Some.ensures in
    let k = c.claim_over.ensures in
    rw (c.in-Claim-default.is-0, k.claim) (record {
      end = Some c.in-Some.end;
      hold = e.hold;
      number = e.kept.number;
      leases = k.leases;
      ends = λ none' here. absurd (ask-no-claim c.claim_over.new.self.at (k.reads none') here);
      goes_on = λ none'. (k.reads none', k.goes_on none');
    })

pub returns-in-Map-Bytes-clause-rest : goal.returns-in-Map-Bytes-clause-rest
returns-in-Map-Bytes-clause-rest c = λ o. rw (c.in-Map-Bytes.is-0, c.in-Map-Bytes.is-1) (c.found.ensures.rest o)

pub returns-in-Map-Bytes-clause-rules : goal.returns-in-Map-Bytes-clause-rules
returns-in-Map-Bytes-clause-rules c = λ o. moves-on-rightly _ _ _ (returns-in-Map-Bytes-clause-rest c o)

pub returns-in-Look-Bytes-clause-rest : goal.returns-in-Look-Bytes-clause-rest
returns-in-Look-Bytes-clause-rest c = λ o. rw (c.in-Look-Bytes.is-0, c.in-Look-Bytes.is-1) (c.after_look.ensures.rest o)

pub returns-in-Look-Bytes-clause-rules : goal.returns-in-Look-Bytes-clause-rules
returns-in-Look-Bytes-clause-rules c = λ o. moves-on-rightly _ _ _ (returns-in-Look-Bytes-clause-rest c o)

pub returns-in-Write-Done-clause-rest : goal.returns-in-Write-Done-clause-rest
returns-in-Write-Done-clause-rest c = λ o. rw (c.in-Write-Done.is-0, c.in-Write-Done.is-1) (c.after_write.ensures.rest o)

pub returns-in-Write-Done-clause-rules : goal.returns-in-Write-Done-clause-rules
returns-in-Write-Done-clause-rules c = λ o. moves-on-rightly _ _ _ (returns-in-Write-Done-clause-rest c o)

pub returns-in-Write-Fault-clause-rest : goal.returns-in-Write-Fault-clause-rest
returns-in-Write-Fault-clause-rest c = λ o. rw (c.in-Write-Fault.is-0, c.in-Write-Fault.is-1) refl

pub returns-in-Write-Fault-clause-rules : goal.returns-in-Write-Fault-clause-rules
returns-in-Write-Fault-clause-rules c = λ o. moves-on-rightly _ _ _ (returns-in-Write-Fault-clause-rest c o)

pub returns-in-Some-clause-rest : goal.returns-in-Some-clause-rest
returns-in-Some-clause-rest c = λ o.
    rw c.in-Claim-default.is-0
    (c.claim_over.ensures.rest o ∙ followed-after-answer _ _ _ _ (claim-asks c.args.self.now.claim) c.in-Some.ensures.rest)

pub returns-in-Some-clause-rules : goal.returns-in-Some-clause-rules
returns-in-Some-clause-rules c = λ o. moves-on-rightly _ _ _ (returns-in-Some-clause-rest c o)

pub returns-in-Damaged-Reading-clause-rest : goal.returns-in-Damaged-Reading-clause-rest
returns-in-Damaged-Reading-clause-rest c = λ o. rw (c.in-Damaged-Reading.is-0, c.in-Damaged-Reading.is-1) (c.damaged.ensures o)

pub returns-in-Damaged-Reading-clause-rules : goal.returns-in-Damaged-Reading-clause-rules
returns-in-Damaged-Reading-clause-rules c = λ o. moves-on-rightly _ _ _ (returns-in-Damaged-Reading-clause-rest c o)

pub returns-in-Map-Fault-clause-rest : goal.returns-in-Map-Fault-clause-rest
returns-in-Map-Fault-clause-rest c = search rules

pub returns-in-Map-Fault-clause-rules : goal.returns-in-Map-Fault-clause-rules
returns-in-Map-Fault-clause-rules c = λ o. moves-on-rightly _ _ _ (returns-in-Map-Fault-clause-rest c o)

pub returns-in-Write-Missed-clause-rules : goal.returns-in-Write-Missed-clause-rules
returns-in-Write-Missed-clause-rules c = λ o. moves-on-rightly _ _ _ (returns-in-Write-Missed-clause-rest c o)

pub returns-in-None-clause-rules : goal.returns-in-None-clause-rules
returns-in-None-clause-rules c = λ o. moves-on-rightly _ _ _ (returns-in-None-clause-rest c o)
