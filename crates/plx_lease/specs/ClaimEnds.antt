-- How a claim ends, as the definitions see it.
use Rattle.plx_rules.specs.Claims.{ClaimEnd, ClaimHeld, ClaimBusy, ClaimLost, ClaimReadFault, ClaimWriteFault, ClaimDamaged}
use Rattle.plx_lease.specs.Uses.{use_of}
use Rattle.plx_lease.specs.declared.claim_end.ClaimEnd.{ClaimEnd as End}
use Rattle.plx_lease.specs.declared.claim_end.ClaimEnd.TheVariants as end

-- the end of a claim: of the lease that is held its claim and the moment up to which it is held
abbrev pub claim_end : {K : Type 0} → End K → ClaimEnd
claim_end (end.Held held) = ClaimHeld held.claim held.until
claim_end (end.Busy seen) = ClaimBusy seen
claim_end (end.Lost due reading) = ClaimLost (use_of due) reading
claim_end end.ReadFault = ClaimReadFault
claim_end end.WriteFault = ClaimWriteFault
claim_end end.Damaged = ClaimDamaged
