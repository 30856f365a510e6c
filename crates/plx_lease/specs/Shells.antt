-- Machines that keep their end: what they have left to ask, and how they end.
use Rattle.std.specs.Prelude.{◌≡◌}
use Rattle.plx_rules.specs.Process.{Process}
use Rattle.plx_rules.specs.Claims.{ClaimEnd}
use Rattle.plx_rules.specs.Machines.{rest_after}
use Rattle.plx_lease.specs.ClaimEnds.{claim_end}
use Rattle.plx_lease.specs.Claiming.{claim_rest}
use Rattle.law_run.specs.Releases.{ReleaseEnd}
use Rattle.plx_lease.specs.Releasing.{release_end, release_rest}
use Rattle.law_run.specs.Renewals.{RenewalEnd, Renewed, RenewalLost, RenewalWriteFault}
use Rattle.plx_lease.specs.Renewing.{renewal_end, renewal_rest}
use Rattle.plx_lease.specs.Uses.{use_of}
use Rattle.plx_lease.specs.declared.claiming.Claiming.{Claiming}
use Rattle.plx_lease.specs.declared.releasing.Releasing.{Releasing}
use Rattle.plx_lease.specs.declared.renewing.Renewing.{Renewing}
use Rattle.plx_lease.specs.declared.renewing.RenewingEnd.{RenewingEnd}
use Rattle.plx_lease.specs.declared.renewing.RenewingEnd.TheVariants as end

-- a claim
abbrev pub claiming_rest : {K : Type 0} → Claiming K → Process ClaimEnd
claiming_rest c = rest_after claim_end (claim_rest c.work) c.end

-- a renewal
abbrev pub renewing_rest : {K : Type 0} → Renewing K → Process RenewalEnd
renewing_rest r = rest_after renewal_end (renewal_rest r.work) r.end

-- a release
abbrev pub releasing_rest : {K : Type 0} → Releasing K → Process ReleaseEnd
releasing_rest r = rest_after release_end (release_rest r.work) r.end

-- how a renewal ends, without the lease
abbrev pub renewing_end : {K : Type 0} → RenewingEnd K → RenewalEnd
renewing_end (end.Held held) = Renewed
renewing_end (end.Lost due reading) = RenewalLost (use_of due) reading
renewing_end end.WriteFault = RenewalWriteFault

-- the lease that a renewal ends with is the one that was held, up to the later moment
abbrev pub IsRenewed : {K : Type 0} → Renewing K → RenewingEnd K → Type 0
IsRenewed r (end.Held held) = (held.lease ≡ r.held.lease) × (held.claim ≡ r.held.claim) × (held.until ≡ r.work.later)
IsRenewed r (end.Lost due reading) = Unit {0}
IsRenewed r end.WriteFault = Unit {0}
