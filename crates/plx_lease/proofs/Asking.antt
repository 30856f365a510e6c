-- Each place of a lease machine asks, and what it asks.
use Rattle.plx_rules.specs.Machines.{Asks}
use Rattle.plx_lease.specs.Claiming.{claim_at, claim_rest}
use Rattle.plx_lease.specs.Releasing.{release_rest}
use Rattle.plx_lease.specs.Renewing.{renewal_rest}
use Rattle.plx_lease.specs.declared.claim.ClaimAt.{ClaimAt}
use Rattle.plx_lease.specs.declared.claim.ClaimAt.TheVariants as at
use Rattle.plx_lease.specs.declared.claim.LeaseClaim.{LeaseClaim}
use Rattle.plx_lease.specs.declared.release.LeaseRelease.{LeaseRelease}
use Rattle.plx_lease.specs.declared.renewal.LeaseRenewal.{LeaseRenewal}

claim-at-asks : {K : Type 0} (place : ClaimAt) (c : LeaseClaim K) → Asks (claim_at place c)
claim-at-asks at.Sample c = tt
claim-at-asks at.Read c = tt
claim-at-asks at.Damaged c = tt
claim-at-asks at.Write c = tt
claim-at-asks at.Wait c = tt
claim-at-asks at.Reread c = tt
claim-at-asks at.DamagedLate c = tt

-- a claim asks
pub claim-asks : {K : Type 0} (c : LeaseClaim K) → Asks (claim_rest c)
claim-asks c = claim-at-asks c.at c

-- a renewal asks
pub renewal-asks : (r : LeaseRenewal) → Asks (renewal_rest r)
renewal-asks r = tt

-- a release asks
pub release-asks : (r : LeaseRelease) → Asks (release_rest r)
release-asks r = tt
