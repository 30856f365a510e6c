-- The record that a claim writes.
use Rattle.std.proofs.Common.{◌≡◌, ap, ◌∙◌, arith}
use Rattle.plx_base.specs.declared.lease.LeaseRecord.TheVariants.{Claimed}
use Rattle.plx_gate.proofs.Leases.{lease-back}
use Rattle.plx_gate.specs.Leases.{IsLease, lease_bytes, read_lease}
use Rattle.plx_rules.specs.Claims.{end_of_term, own_record}
use Rattle.plx_rules.specs.Holds.{Held, Wrote, hold_after_renewal, hold_after_claim}
use Rattle.plx_lease.specs.declared.claim.LeaseClaim.{LeaseClaim}
use Rattle.plx_lease.specs.declared.renewal.LeaseRenewal.{LeaseRenewal}

-- it is within the limits of leases
pub own-lease : {K : Type 0} (c : LeaseClaim K) → IsLease (own_record c.claim)
own-lease c =
    let sample = c.sample in
    record {
      boot = c.boot;
      number = c.count;
      sample = c.sample;
      low = omega arith;
      high = omega (arith, sample);
    }

-- once it is written, the claim was written
pub wrote-own : {K : Type 0} (c : LeaseClaim K) → hold_after_claim (read_lease c.out) ≡ Wrote c.claim (end_of_term c.claim)
wrote-own c = ap (λ bytes. hold_after_claim (read_lease bytes)) c.spelled ∙ ap hold_after_claim (lease-back (own_record c.claim) (own-lease c))

-- once a renewal is written, the lease is held up to its later moment
pub renewed-own : (r : LeaseRenewal) → hold_after_renewal (read_lease (lease_bytes (Claimed r.claim r.later))) ≡ Held r.claim r.later
renewed-own r = ap hold_after_renewal (lease-back (Claimed r.claim r.later) r.limits)
