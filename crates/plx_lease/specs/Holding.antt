-- What a boot holds of a lease while a machine claims, renews or releases it.
use Rattle.std.specs.Prelude.{◌≡◌, ◌+◌, ℕ, List, Option, Some, None}
use Rattle.plx_base.specs.declared.lease.Claim.{Claim}
use Rattle.plx_base.specs.declared.write_kind.WriteKind.{WriteKind}
use Rattle.plx_base.specs.declared.write_kind.WriteKind.TheVariants as kind
use Rattle.plx_disk.specs.declared.ask.Ask.{Ask}
use Rattle.plx_disk.specs.declared.ask.Ask.TheVariants as ask
use Rattle.plx_disk.specs.declared.ask.Answer.{Answer}
use Rattle.plx_disk.specs.declared.ask.Answer.TheVariants as answer
use Rattle.plx_gate.specs.Leases.{read_lease}
use Rattle.plx_geom.specs.Geometry.{lease_at}
use Rattle.plx_rules.specs.Claims.{ClaimEnd, ClaimHeld, ClaimBusy, ClaimLost, ClaimReadFault, ClaimWriteFault, ClaimDamaged, end_of_term}
use Rattle.plx_rules.specs.Holds.{Hold, Nothing, Seen, Wrote, Waited, Held, hold_after_renewal, hold_after_read, hold_after_reading, hold_after_claim}
use Rattle.plx_rules.specs.Times.{wait, window}
use Rattle.law_run.specs.Holdings.{IsNotHeld}
use Rattle.plx_lease.specs.ClaimEnds.{claim_end}
use Rattle.plx_lease.specs.declared.claim.ClaimAt.{ClaimAt}
use Rattle.plx_lease.specs.declared.claim.ClaimAt.TheVariants as at
use Rattle.plx_lease.specs.declared.claim.LeaseClaim.{LeaseClaim}
use Rattle.plx_lease.specs.declared.claim_end.ClaimEnd.{ClaimEnd as End}

-- once a write of the lease's block is done
abbrev pub hold_after_write : WriteKind → List ℕ → Hold → Hold
hold_after_write kind.Claim bytes hold = hold_after_claim (read_lease bytes)
hold_after_write kind.Renew bytes hold = hold_after_renewal (read_lease bytes)
hold_after_write kind.Release bytes hold = Nothing
hold_after_write other bytes hold = hold

-- what is held of one lease after an answer, where only its own block is read and written
abbrev pub lease_after : Option ℕ → Ask → List ℕ → Answer → Hold → Hold
lease_after sample (ask.Read block) bytes (answer.Bytes found) hold = hold_after_read sample found hold
lease_after sample (ask.Write kind block guard) bytes answer.Done hold = hold_after_write kind bytes hold
lease_after sample (ask.Write kind block guard) bytes answer.Fault hold = Nothing
lease_after sample (ask.Write kind block guard) bytes (answer.Missed reading) hold = Nothing
lease_after sample ask bytes (answer.Reading reading) hold = hold_after_reading reading hold
lease_after sample ask bytes other hold = hold

-- what is held of any other lease then: a write that failed or was missed drops all
abbrev pub other_after : Ask → Answer → Hold → Hold
other_after (ask.Write kind block guard) answer.Fault hold = Nothing
other_after (ask.Write kind block guard) (answer.Missed reading) hold = Nothing
other_after ask (answer.Reading reading) hold = hold_after_reading reading hold
other_after ask other hold = hold

-- how far a claim has come with its lease, by where it stands
abbrev pub claim_hold_at : ClaimAt → Claim → Hold
claim_hold_at at.Sample claim = Nothing
claim_hold_at at.Read claim = Nothing
claim_hold_at at.Damaged claim = Nothing
claim_hold_at at.Write claim = Seen claim.sample
claim_hold_at at.Wait claim = Wrote claim (end_of_term claim)
claim_hold_at at.Reread claim = Waited claim (end_of_term claim)
claim_hold_at at.DamagedLate claim = Nothing

-- what is held while a claim stands where it does
abbrev pub claim_hold : {K : Type 0} → LeaseClaim K → Hold
claim_hold c = claim_hold_at c.at c.claim

-- the last answer, where it was a reading that counts
abbrev pub sample_at : ClaimAt → Claim → Option ℕ
sample_at at.Sample claim = None
sample_at at.Read claim = Some claim.sample
sample_at at.Damaged claim = None
sample_at at.Write claim = None
sample_at at.Wait claim = None
sample_at at.Reread claim = None
sample_at at.DamagedLate claim = None

-- the last answer of a claim, where it was a reading that counts
abbrev pub claim_sample : {K : Type 0} → LeaseClaim K → Option ℕ
claim_sample c = sample_at c.at c.claim

-- what a claim of the lease with this number asks, by where it stands
abbrev pub claim_ask_at : ClaimAt → (lease : ℕ) → Claim → Ask
claim_ask_at at.Sample lease claim = ask.Clock
claim_ask_at at.Read lease claim = ask.Read (record { 0 = lease_at lease })
claim_ask_at at.Damaged lease claim = ask.Clock
claim_ask_at at.Write lease claim = ask.Write kind.Claim (record { 0 = lease_at lease }) (claim.sample + window)
claim_ask_at at.Wait lease claim = ask.Until (claim.sample + wait)
claim_ask_at at.Reread lease claim = ask.Read (record { 0 = lease_at lease })
claim_ask_at at.DamagedLate lease claim = ask.Clock

-- what a claim asks
abbrev pub claim_ask : {K : Type 0} → LeaseClaim K → Ask
claim_ask c = claim_ask_at c.at c.number c.claim

-- what is held at the end of a claim: the lease by the claim that it ends with, else not; where another record stands there, nothing is left of the claim
abbrev pub HoldsAtEnd : ClaimEnd → Hold → Type 0
HoldsAtEnd (ClaimHeld claim until) hold = hold ≡ Held claim until
HoldsAtEnd (ClaimBusy seen) hold = hold ≡ Nothing
HoldsAtEnd (ClaimLost due reading) hold = IsNotHeld hold
HoldsAtEnd ClaimReadFault hold = IsNotHeld hold
HoldsAtEnd ClaimWriteFault hold = IsNotHeld hold
HoldsAtEnd ClaimDamaged hold = IsNotHeld hold

-- the last answer was the sample, where the lease is read by it
abbrev pub IsSampledAt : ClaimAt → Claim → Option ℕ → Type 0
IsSampledAt at.Sample claim last = Unit {0}
IsSampledAt at.Read claim last = last ≡ Some claim.sample
IsSampledAt at.Damaged claim last = Unit {0}
IsSampledAt at.Write claim last = Unit {0}
IsSampledAt at.Wait claim last = Unit {0}
IsSampledAt at.Reread claim last = Unit {0}
IsSampledAt at.DamagedLate claim last = Unit {0}

-- so of a claim, wherever it stands
abbrev pub IsSampled : {K : Type 0} → LeaseClaim K → Option ℕ → Type 0
IsSampled c last = IsSampledAt c.at c.claim last

-- what is held, and what the last reading was, once a claim was answered: they fit where the claim stands, or its end
abbrev pub LeavesClaim : {K : Type 0} → Hold → Option ℕ → LeaseClaim K → Option (End K) → Type 0
LeavesClaim hold last c None = (hold ≡ claim_hold c) × IsSampled c last
LeavesClaim hold last c (Some end) = HoldsAtEnd (claim_end end) hold
