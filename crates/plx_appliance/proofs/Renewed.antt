-- Renewals of leases that are held, in a list whose last one is asked first.
use Rattle.std.proofs.Common.{◌≡◌, ◌≢◌, ℕ, ◌+◌, ◌<◌, List, [], ◌∷◌, ◌++◌, refl, ◌∙◌, arith}
use Rattle.plx_disk.specs.declared.ask.Answer.{Answer}
use Rattle.plx_disk.specs.declared.ask.Answer.TheVariants as answer
use Rattle.plx_rules.specs.Process.{Process, Ends, answered}
use Rattle.plx_rules.specs.Ends.{End}
use Rattle.plx_rules.specs.Holds.{Hold}
use Rattle.plx_rules.specs.Session.{Known}
use Rattle.plx_rules.specs.Settings.{Setting}
use Rattle.law_run.specs.Renewals.{Renewed}
use Rattle.plx_lease.specs.Renewing.{renewal_hold, renewal_rest}
use Rattle.plx_lease.specs.declared.renewal.LeaseRenewal.{LeaseRenewal}
use Rattle.plx_appliance.specs.Renews.{AreHeld, renew_goes, renewal_then, renewals_then, renewed_if}
use Rattle.plx_appliance.specs.declared.renew.Renew.{Renew}

-- the last one is asked first
pub renewals-last : (s : Setting) (known : Known) (others : List LeaseRenewal) (r : LeaseRenewal) (rest : Process End) →
    renewals_then s known (others ++ r ∷ []) rest ≡ renewal_then s known r (renewals_then s known others rest)
renewals-last s known [] r rest = refl
renewals-last s known (x ∷ others) r rest = renewals-last s known others r (renewal_then s known x rest)

-- its lease is held, and its number is below the bound
pub last-held : (low bound : ℕ) (leases : ℕ → Hold) (others : List LeaseRenewal) (r : LeaseRenewal) → AreHeld low bound leases (others ++ r ∷ []) →
    (r.number < bound) × (leases r.number ≡ renewal_hold r)
last-held low bound leases [] r h = (h.0, h.1)
last-held low bound leases (x ∷ others) r h =
    let last = last-held low x.number leases others r h.2 in
    let below = last.0 in
    let here = h.0 in
    (omega (arith, below, here), last.1)

-- the others are of other leases
pub others-held : (low bound : ℕ) (leases new : ℕ → Hold) (others : List LeaseRenewal) (r : LeaseRenewal) → AreHeld low bound leases (others ++ r ∷ []) →
    ((lease : ℕ) → lease ≢ r.number → new lease ≡ leases lease) → AreHeld low bound new others
others-held low bound leases new [] r h same =
    let below = h.0 in
    let after = h.2 in
    omega (arith, below, after)
others-held low bound leases new (x ∷ others) r h same =
    let below = (last-held low x.number leases others r h.2).0 in
    (h.0, same x.number (λ e. absurd (omega (arith, e, below))) ∙ h.1, others-held low x.number leases new others r h.2 same)

-- they go by what is held of leases below the bound
pub held-same : (low bound : ℕ) (leases new : ℕ → Hold) (all : List LeaseRenewal) → AreHeld low bound leases all →
    ((lease : ℕ) → lease < bound → new lease ≡ leases lease) → AreHeld low bound new all
held-same low bound leases new [] h same = h
held-same low bound leases new (x ∷ others) h same =
    let here = h.0 in
    (h.0, same x.number h.0 ∙ h.1, held-same low x.number leases new others h.2 (λ lease below. same lease (omega (arith, below, here))))

-- one more, of the lease below
pub held-more : (low bound : ℕ) (leases : ℕ → Hold) (others : List LeaseRenewal) (r : LeaseRenewal) → AreHeld (low + 1) bound leases others →
    r.number ≡ low → leases r.number ≡ renewal_hold r → AreHeld low bound leases (others ++ r ∷ [])
held-more low bound leases [] r h is hold = (omega (arith, h, is), hold, omega (arith, is))
held-more low bound leases (x ∷ others) r h is hold = (h.0, h.1, held-more low x.number leases others r h.2 is hold)

-- none of the lease below
pub held-less : (low bound : ℕ) (leases : ℕ → Hold) (others : List LeaseRenewal) → AreHeld (low + 1) bound leases others → AreHeld low bound leases others
held-less low bound leases [] h = omega (arith, h)
held-less low bound leases (x ∷ others) h = (h.0, h.1, held-less low x.number leases others h.2)

-- ---- the answer by how the renewal goes on

-- a renewal ends with its lease where its write is done
pub renewal-done : (r : LeaseRenewal) (a : Answer) → Ends Renewed ≡ answered (renewal_rest r) a → a ≡ answer.Done
renewal-done r (answer.Bytes bytes) e = absurd cc
renewal-done r answer.Done e = refl
renewal-done r (answer.Reading reading) e = absurd cc
renewal-done r (answer.Missed reading) e = absurd cc
renewal-done r answer.Fault e = absurd cc

-- else what is held stays
pub renewal-not-done : (r : LeaseRenewal) (a : Answer) (longer leases : ℕ → Hold) → (Ends Renewed ≢ answered (renewal_rest r) a) →
    leases ≡ renewed_if a longer leases
renewal-not-done r (answer.Bytes bytes) longer leases ne = refl
renewal-not-done r answer.Done longer leases ne = absurd (ne refl)
renewal-not-done r (answer.Reading reading) longer leases ne = refl
renewal-not-done r (answer.Missed reading) longer leases ne = refl
renewal-not-done r answer.Fault longer leases ne = refl

-- a renewal that goes on had no answer that fits
pub renewal-waits : (old new : Renew) (a : Answer) → renewal_rest old.renewal ≡ answered (renewal_rest old.renewal) a → renew_goes a old new
renewal-waits old new (answer.Bytes bytes) e = tt
renewal-waits old new answer.Done e = absurd cc
renewal-waits old new (answer.Reading reading) e = tt
renewal-waits old new (answer.Missed reading) e = absurd cc
renewal-waits old new answer.Fault e = absurd cc
