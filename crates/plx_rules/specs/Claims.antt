-- The claim of a lease, as a part of a command.
use Rattle.std.specs.Prelude.{◌+◌, ℕ, List, ◌∷◌, Bool, true, false, Option, Some, None}
use Rattle.std.specs.Str.{bytes_eq}
use Rattle.plx_base.specs.declared.lease.Claim.{Claim}
use Rattle.plx_base.specs.declared.lease.LeaseRecord.{LeaseRecord}
use Rattle.plx_base.specs.declared.lease.LeaseRecord.TheVariants.{Claimed}
use Rattle.plx_base.specs.declared.write_kind.WriteKind.TheVariants as kind
use Rattle.plx_geom.specs.Geometry.{lease_at}
use Rattle.plx_rules.specs.Process.{Process, Ends, ReadThen, WriteThen, ClockThen, UntilThen}
use Rattle.plx_rules.specs.InUse.{InUse, first_reached, unless_reached}
use Rattle.plx_gate.specs.Leases.{lease_bytes, read_lease}
use Rattle.plx_rules.specs.Times.{window, wait, term, is_expired}

-- how a claim ends: the lease is held; another record stands there; a lease in
-- use was reached; the read or the write failed; or the bytes read are no lease
pub data ClaimEnd : Type 0 where
  ClaimHeld : Claim → (until : ℕ) → ClaimEnd
  ClaimBusy : (seen : LeaseRecord) → ClaimEnd
  ClaimLost : InUse → (reading : ℕ) → ClaimEnd
  ClaimReadFault : ClaimEnd
  ClaimWriteFault : ClaimEnd
  ClaimDamaged : ClaimEnd

-- the claim of a boot with this number and sample
abbrev pub claim_of : (boot number sample : ℕ) → Claim
claim_of boot number sample = record {
  boot = record { 0 = boot };
  number = number;
  sample = sample;
}

-- the moment until which a claim holds its lease
abbrev pub end_of_term : Claim → ℕ
end_of_term claim = claim.sample + term

-- the record that a claim writes
abbrev pub own_record : Claim → LeaseRecord
own_record claim = Claimed claim (end_of_term claim)

-- the lease of a claim that was written is in use
abbrev pub own_use : ℕ → Claim → InUse
own_use lease claim = record { lease = lease; until = end_of_term claim }

-- a claim that has its reading goes on unless that has reached a lease in use
abbrev pub claim_in_time : List InUse → ℕ → Process ClaimEnd → Process ClaimEnd
claim_in_time uses reading rest =
    unless_reached (first_reached uses reading) (λ due. Ends (ClaimLost due reading)) rest

-- bytes that are no lease end the claim after one more reading
abbrev pub claim_damaged : List InUse → Process ClaimEnd
claim_damaged uses = ClockThen (λ reading. claim_in_time uses reading (Ends ClaimDamaged))

-- the reread: the lease is held where its record is the claim's own
abbrev pub reread_by : Bool → List InUse → Claim → Option LeaseRecord → Process ClaimEnd
reread_by true uses claim seen = Ends (ClaimHeld claim (end_of_term claim))
reread_by false uses claim None = claim_damaged uses
reread_by false uses claim (Some seen) = Ends (ClaimBusy seen)

-- the lease is read again after the wait
abbrev pub reread_process : List InUse → ℕ → Claim → Process ClaimEnd
reread_process uses lease claim =
    ReadThen (lease_at lease)
    (λ bytes.
    reread_by (bytes_eq bytes (lease_bytes (own_record claim))) uses claim (read_lease bytes))
    (Ends ClaimReadFault)

-- the claim is written, and waits for a reading 601 ms after its sample
abbrev pub written_process : List InUse → ℕ → Claim → Process ClaimEnd
written_process others lease claim =
    WriteThen kind.Claim (lease_at lease) (lease_bytes (own_record claim)) (claim.sample + window)
    (UntilThen (claim.sample + wait) (λ reading.
    claim_in_time (own_use lease claim ∷ others) reading
    (reread_process (own_use lease claim ∷ others) lease claim)))
    (Ends ClaimWriteFault)
    (λ reading. Ends (ClaimLost (record { lease = lease; until = claim.sample + window }) reading))

-- a record that isn't expired for the sample ends the claim
abbrev pub if_expired : Bool → LeaseRecord → Process ClaimEnd → Process ClaimEnd
if_expired true seen process = process
if_expired false seen process = Ends (ClaimBusy seen)

-- the lease was read
abbrev pub seen_process : List InUse → ℕ → Claim → Option LeaseRecord → Process ClaimEnd
seen_process others lease claim None = claim_damaged others
seen_process others lease claim (Some seen) =
    if_expired (is_expired seen claim.sample) seen (written_process others lease claim)

-- a claim of a lease by a boot that began so many claims before: a reading of the clock,
-- the lease, the claim, the wait, and the lease again; `others` are the leases in use beside it
abbrev pub claim_process : (boot : ℕ) →
    (others : List InUse) → (lease number : ℕ) → Process ClaimEnd
claim_process boot others lease number =
    ClockThen (λ sample. claim_in_time others sample
    (ReadThen (lease_at lease)
    (λ bytes. seen_process others lease (claim_of boot number sample) (read_lease bytes))
    (Ends ClaimReadFault)))
