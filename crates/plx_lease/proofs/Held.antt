-- What a boot holds of a lease that a machine claims, renews or releases.
use Rattle.std.proofs.Common.{◌≡◌, ◌∙◌, ◌+◌, ap, sym, refl, ℕ, List, [], subst, Option, Some, None, arith}
use Rattle.plx_disk.specs.declared.ask.Ask.TheVariants as ask
use Rattle.plx_disk.specs.declared.ask.Answer.{Answer}
use Rattle.plx_disk.specs.declared.ask.Answer.TheVariants as answer
use Rattle.plx_geom.specs.Geometry.{lease_at}
use Rattle.plx_gate.specs.Leases.{read_lease}
use Rattle.plx_rules.specs.Process.{bytes_out, standing}
use Rattle.plx_rules.specs.Claims.{end_of_term}
use Rattle.plx_rules.specs.Holds.{Hold, Nothing, Wrote, after_answer, hold_after_renewal, sample_of, hold_after_read, hold_after_claim}
use Rattle.plx_rules.specs.Machines.{AsksOnly}
use Rattle.plx_rules.specs.Times.{wait}
use Rattle.plx_lease.specs.Claiming.{claim_at, claim_rest}
use Rattle.plx_lease.specs.Holding.{IsSampled, IsSampledAt, LeavesClaim, claim_ask_at, claim_ask, claim_hold, claim_sample, claim_hold_at, lease_after, sample_at}
use Rattle.plx_lease.specs.Releasing.{release_ask, release_rest}
use Rattle.plx_lease.specs.Renewing.{LeavesRenewal, renewal_ask, renewal_hold, renewal_rest}
use Rattle.plx_lease.specs.declared.claim.ClaimAt.{ClaimAt}
use Rattle.plx_lease.specs.declared.claim.ClaimAt.TheVariants as at
use Rattle.plx_lease.specs.declared.claim.LeaseClaim.{LeaseClaim}
use Rattle.plx_lease.specs.declared.claim_end.ClaimEnd.{ClaimEnd as End}
use Rattle.plx_lease.specs.declared.release.LeaseRelease.{LeaseRelease}
use Rattle.plx_lease.specs.declared.renewal.LeaseRenewal.{LeaseRenewal}
use Rattle.plx_lease.specs.declared.renewal.RenewalEnd.{RenewalEnd}
use Rattle.plx_lease.proofs.Holding.{own-after}

-- the ask of each place is the one that stands
standing-at : {K : Type 0} (place : ClaimAt) (c : LeaseClaim K) → standing (claim_at place c) ≡ Some (claim_ask_at place c.number c.claim)
standing-at at.Sample c = refl
standing-at at.Read c = refl
standing-at at.Damaged c = refl
standing-at at.Write c = refl
standing-at at.Wait c = refl
standing-at at.Reread c = refl
standing-at at.DamagedLate c = refl

pub claim-standing : {K : Type 0} (c : LeaseClaim K) → standing (claim_rest c) ≡ Some (claim_ask c)
claim-standing c = standing-at c.at c

-- it is of the lease's block
pub asks-own : {K : Type 0} (place : ClaimAt) (c : LeaseClaim K) → AsksOnly (lease_at c.number) (claim_ask_at place c.number c.claim)
asks-own at.Sample c = tt
asks-own at.Read c = refl
asks-own at.Damaged c = tt
asks-own at.Write c = (refl, let sample = c.sample in omega (arith, sample))
asks-own at.Wait c = tt
asks-own at.Reread c = refl
asks-own at.DamagedLate c = tt

-- a reading doesn't look at the last answer
clock-after : (last other : Option ℕ) (bytes others : List ℕ) (a : Answer) (hold : Hold) → lease_after last ask.Clock bytes a hold ≡ lease_after other ask.Clock others a hold
clock-after last other bytes others (answer.Bytes found) hold = refl
clock-after last other bytes others answer.Done hold = refl
clock-after last other bytes others (answer.Reading reading) hold = refl
clock-after last other bytes others (answer.Missed reading) hold = refl
clock-after last other bytes others answer.Fault hold = refl

until-after : (from : ℕ) (last other : Option ℕ) (bytes others : List ℕ) (a : Answer) (hold : Hold) → lease_after last (ask.Until from) bytes a hold ≡ lease_after other (ask.Until from) others a hold
until-after from last other bytes others (answer.Bytes found) hold = refl
until-after from last other bytes others answer.Done hold = refl
until-after from last other bytes others (answer.Reading reading) hold = refl
until-after from last other bytes others (answer.Missed reading) hold = refl
until-after from last other bytes others answer.Fault hold = refl

-- what is held goes by the sample and the bytes of the claim alone
same-after : {K : Type 0} (place : ClaimAt) (c : LeaseClaim K) (last : Option ℕ) (a : Answer) → IsSampledAt place c.claim last →
    lease_after last (claim_ask_at place c.number c.claim) (bytes_out (claim_at place c)) a (claim_hold_at place c.claim) ≡ lease_after (sample_at place c.claim) (claim_ask_at place c.number c.claim) c.out a (claim_hold_at place c.claim)
same-after at.Sample c last a sampled = clock-after last None [] c.out a Nothing
same-after at.Read c last (answer.Bytes found) sampled = ap (λ l. hold_after_read l found Nothing) sampled
same-after at.Read c last answer.Done sampled = refl
same-after at.Read c last (answer.Reading reading) sampled = refl
same-after at.Read c last (answer.Missed reading) sampled = refl
same-after at.Read c last answer.Fault sampled = refl
same-after at.Damaged c last a sampled = clock-after last None [] c.out a Nothing
same-after at.Write c last (answer.Bytes found) sampled = refl
same-after at.Write c last answer.Done sampled = ap (λ bytes. hold_after_claim (read_lease bytes)) (sym c.spelled)
same-after at.Write c last (answer.Reading reading) sampled = refl
same-after at.Write c last (answer.Missed reading) sampled = refl
same-after at.Write c last answer.Fault sampled = refl
same-after at.Wait c last a sampled = until-after (c.claim.sample + wait) last None [] c.out a (Wrote c.claim (end_of_term c.claim))
same-after at.Reread c last (answer.Bytes found) sampled = refl
same-after at.Reread c last answer.Done sampled = refl
same-after at.Reread c last (answer.Reading reading) sampled = refl
same-after at.Reread c last (answer.Missed reading) sampled = refl
same-after at.Reread c last answer.Fault sampled = refl
same-after at.DamagedLate c last a sampled = clock-after last None [] c.out a Nothing

-- so what a boot holds of a lease that is claimed fits where its claim stands, or its end
pub claim-holds : {K : Type 0} (c new : LeaseClaim K) (end : Option (End K)) (last : Option ℕ) (a : Answer) (holds : ℕ → Hold) →
    IsSampled c last → holds (lease_at c.number) ≡ claim_hold c →
    LeavesClaim (lease_after (claim_sample c) (claim_ask c) c.out a (claim_hold c)) (sample_of a) new end →
    LeavesClaim (after_answer last (claim_ask c) (bytes_out (claim_rest c)) a holds (lease_at c.number)) (sample_of a) new end
claim-holds c new end last a holds sampled is leaves =
    subst (λ (hold : Hold). LeavesClaim hold (sample_of a) new end)
    (sym (own-after (lease_at c.number) last (claim_ask c) (bytes_out (claim_rest c)) a holds (asks-own c.at c)
    ∙ (ap (λ (hold : Hold). lease_after last (claim_ask c) (bytes_out (claim_rest c)) a hold) is ∙ same-after c.at c last a sampled))) leaves

-- a write doesn't look at it either
write-after : (last : Option ℕ) (bytes other : List ℕ) (a : Answer) (hold : Hold) (r : LeaseRenewal) → bytes ≡ other →
    lease_after last (renewal_ask r) bytes a hold ≡ lease_after None (renewal_ask r) other a hold
write-after last bytes other (answer.Bytes found) hold r e = refl
write-after last bytes other answer.Done hold r e = ap (λ b. hold_after_renewal (read_lease b)) e
write-after last bytes other (answer.Reading reading) hold r e = refl
write-after last bytes other (answer.Missed reading) hold r e = refl
write-after last bytes other answer.Fault hold r e = refl

-- what is held of a lease that is renewed
pub renewal-holds : (r : LeaseRenewal) (end : Option RenewalEnd) (last : Option ℕ) (a : Answer) (holds : ℕ → Hold) →
    holds (lease_at r.number) ≡ renewal_hold r →
    LeavesRenewal (lease_after None (renewal_ask r) (bytes_out (renewal_rest r)) a (renewal_hold r)) r end →
    LeavesRenewal (after_answer last (renewal_ask r) (bytes_out (renewal_rest r)) a holds (lease_at r.number)) r end
renewal-holds r end last a holds is leaves =
    subst (λ (hold : Hold). LeavesRenewal hold r end)
    (sym (own-after (lease_at r.number) last (renewal_ask r) (bytes_out (renewal_rest r)) a holds (refl, let high = r.high in let after = r.after in omega (arith, high, after))
    ∙ (ap (λ (hold : Hold). lease_after last (renewal_ask r) (bytes_out (renewal_rest r)) a hold) is ∙ write-after last (bytes_out (renewal_rest r)) (bytes_out (renewal_rest r)) a (renewal_hold r) r refl))) leaves

-- what is held of a lease that is released
release-after : (last : Option ℕ) (bytes other : List ℕ) (a : Answer) (hold : Hold) (r : LeaseRelease) →
    lease_after last (release_ask r) bytes a hold ≡ lease_after None (release_ask r) other a hold
release-after last bytes other (answer.Bytes found) hold r = refl
release-after last bytes other answer.Done hold r = refl
release-after last bytes other (answer.Reading reading) hold r = refl
release-after last bytes other (answer.Missed reading) hold r = refl
release-after last bytes other answer.Fault hold r = refl

pub release-holds : (r : LeaseRelease) (last : Option ℕ) (a : Answer) (holds : ℕ → Hold) →
    lease_after None (release_ask r) r.out a (holds (lease_at r.number)) ≡ Nothing →
    after_answer last (release_ask r) (bytes_out (release_rest r)) a holds (lease_at r.number) ≡ Nothing
release-holds r last a holds leaves =
    own-after (lease_at r.number) last (release_ask r) (bytes_out (release_rest r)) a holds (refl, r.high)
    ∙ (release-after last (bytes_out (release_rest r)) r.out a (holds (lease_at r.number)) r ∙ leaves)
