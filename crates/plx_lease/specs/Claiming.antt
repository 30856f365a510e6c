-- What a claim still asks, by where it stands.
use Rattle.std.specs.Prelude.{◌≡◌, ◌+◌, ℕ, List, ◌∷◌, Option, Some, None}
use Rattle.plx_base.specs.declared.lease.Claim.{Claim}
use Rattle.plx_gate.specs.Leases.{read_lease}
use Rattle.plx_geom.specs.Geometry.{lease_at}
use Rattle.plx_rules.specs.Process.{Process, Ends, ReadThen, UntilThen}
use Rattle.plx_rules.specs.Claims.{ClaimEnd, ClaimReadFault, claim_damaged, claim_in_time, claim_process, own_use, reread_process, seen_process, written_process}
use Rattle.plx_rules.specs.InUse.{InUse}
use Rattle.plx_rules.specs.Times.{wait}
use Rattle.plx_lease.specs.Uses.{uses_of}
use Rattle.plx_lease.specs.declared.claim.ClaimAt.{ClaimAt}
use Rattle.plx_lease.specs.declared.claim.ClaimAt.TheVariants as at
use Rattle.plx_lease.specs.declared.claim.LeaseClaim.{LeaseClaim}
use Rattle.plx_lease.specs.declared.claim_end.ClaimEnd.{ClaimEnd as End}
use Rattle.plx_lease.specs.declared.claim_end.ClaimEnd.TheVariants as end

-- the first read of the lease
abbrev pub claim_read_process : List InUse → (lease : ℕ) → Claim → Process ClaimEnd
claim_read_process others lease claim = ReadThen (lease_at lease) (λ bytes. seen_process others lease claim (read_lease bytes)) (Ends ClaimReadFault)

-- the leases in use once the claim was written
abbrev pub written_uses : {K : Type 0} → LeaseClaim K → List InUse
written_uses c = own_use c.number c.claim ∷ uses_of c.others

-- the wait
abbrev pub wait_process : {K : Type 0} → LeaseClaim K → Process ClaimEnd
wait_process c = UntilThen (c.claim.sample + wait) (λ reading. claim_in_time (written_uses c) reading (reread_process (written_uses c) c.number c.claim))

-- what is left to ask at each place
abbrev pub claim_at : {K : Type 0} → ClaimAt → LeaseClaim K → Process ClaimEnd
claim_at at.Sample c = claim_process c.claim.boot.0 (uses_of c.others) c.number c.claim.number
claim_at at.Read c = claim_read_process (uses_of c.others) c.number c.claim
claim_at at.Damaged c = claim_damaged (uses_of c.others)
claim_at at.Write c = written_process (uses_of c.others) c.number c.claim
claim_at at.Wait c = wait_process c
claim_at at.Reread c = reread_process (written_uses c) c.number c.claim
claim_at at.DamagedLate c = claim_damaged (written_uses c)

-- what a claim has left to ask
abbrev pub claim_rest : {K : Type 0} → LeaseClaim K → Process ClaimEnd
claim_rest c = claim_at c.at c

-- the lease that is held at the end of a claim is the one that was claimed
abbrev pub EndsWith : {K : Type 0} → K → Option (End K) → Type 0
EndsWith lease None = Unit {0}
EndsWith lease (Some (end.Held held)) = held.lease ≡ lease
EndsWith lease (Some (end.Busy seen)) = Unit {0}
EndsWith lease (Some (end.Lost due reading)) = Unit {0}
EndsWith lease (Some end.ReadFault) = Unit {0}
EndsWith lease (Some end.WriteFault) = Unit {0}
EndsWith lease (Some end.Damaged) = Unit {0}

-- a claim stays one of the same lease
pub record KeepsLease {K : Type 0} (old new : LeaseClaim K) (result : Option (End K)) : Type 0 where
  pub lease : new.lease ≡ old.lease
  pub number : new.number ≡ old.number
  pub held : EndsWith old.lease result
