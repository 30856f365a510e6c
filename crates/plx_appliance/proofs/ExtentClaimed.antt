-- The claim of an extent's lease was answered: what is kept of the leases is what the log holds.
use Rattle.std.proofs.Common.{◌≡◌, ◌≢◌, ℕ, ◌<◌, Option, Some, None, refl, sym, ap, ◌∙◌, subst, arith}
use Rattle.plx_commands.proofs.Places.{at-same, at-other}
use Rattle.plx_disk.specs.declared.ask.Answer.{Answer}
use Rattle.plx_geom.specs.Geometry.{Geometry, extent_lease, lease_at}
use Rattle.plx_rules.specs.Boot.{Fits}
use Rattle.plx_rules.specs.Claims.{ClaimEnd, ClaimHeld, ClaimBusy, ClaimLost, ClaimReadFault, ClaimWriteFault, ClaimDamaged}
use Rattle.plx_rules.specs.Holds.{Hold, Nothing, Held, after_answer, sample_of}
use Rattle.plx_rules.specs.Machines.{AsksOnly}
use Rattle.plx_rules.specs.Process.{bytes_out}
use Rattle.plx_lease.specs.ClaimEnds.{claim_end}
use Rattle.plx_lease.specs.Claiming.{claim_rest}
use Rattle.plx_lease.specs.Holding.{HoldsAtEnd, LeavesClaim, claim_ask}
use Rattle.plx_lease.specs.declared.claim.LeaseClaim.{LeaseClaim}
use Rattle.plx_lease.specs.declared.claim_end.ClaimEnd.{ClaimEnd as End}
use Rattle.plx_lease.proofs.Held.{claim-holds}
use Rattle.plx_token.specs.declared.kind.Extent.{Extent}
use Rattle.plx_alloc.specs.Moving.{ClaimMoves, extent_leases_after_claim, extent_leases_after_turn}
use Rattle.plx_alloc.specs.declared.reserve.Reserve.{Reserve}
use Rattle.plx_alloc.specs.declared.space_end.SpaceEnd.{SpaceEnd}
use Rattle.plx_appliance.specs.Holding.{HoldsAs, image_leases_after_write, hold_without_claim}
use Rattle.plx_appliance.specs.Reserves.{IsClaimingExtent}
use Rattle.plx_appliance.proofs.Entered.{held-extent}
use Rattle.plx_appliance.proofs.Moved.{claim-settled, holds-own-extent, not-settled}

end-settled : (end : ClaimEnd) (extent : ℕ) (before : ℕ → Hold) (hold : Hold) → before extent ≡ Nothing → HoldsAtEnd end hold → hold_without_claim hold ≡ extent_leases_after_claim end extent before extent
end-settled (ClaimHeld claim until) extent before hold none h = ap hold_without_claim h ∙ sym (at-same before extent (Held claim until))
end-settled (ClaimBusy seen) extent before hold none h = ap hold_without_claim h ∙ sym none
end-settled (ClaimLost due reading) extent before hold none h = not-settled hold h ∙ sym none
end-settled ClaimReadFault extent before hold none h = not-settled hold h ∙ sym none
end-settled ClaimWriteFault extent before hold none h = not-settled hold h ∙ sym none
end-settled ClaimDamaged extent before hold none h = not-settled hold h ∙ sym none

leaves-settled : (new : LeaseClaim Extent) (end : Option (End Extent)) (extent : ℕ) (before : ℕ → Hold) (hold : Hold) (sample : Option ℕ) → before extent ≡ Nothing →
    LeavesClaim hold sample new end → hold_without_claim hold ≡ extent_leases_after_turn end extent before extent
leaves-settled new None extent before hold sample none h = ap hold_without_claim h.0 ∙ claim-settled new ∙ sym none
leaves-settled new (Some end) extent before hold sample none h = end-settled (claim_end end) extent before hold none h

end-others : (end : ClaimEnd) (extent : ℕ) (before : ℕ → Hold) (other : ℕ) → other ≢ extent → extent_leases_after_claim end extent before other ≡ before other
end-others (ClaimHeld claim until) extent before other ne = at-other before extent other (Held claim until) ne
end-others (ClaimBusy seen) extent before other ne = refl
end-others (ClaimLost due reading) extent before other ne = refl
end-others ClaimReadFault extent before other ne = refl
end-others ClaimWriteFault extent before other ne = refl
end-others ClaimDamaged extent before other ne = refl

claimed-others : (end : Option (End Extent)) (extent : ℕ) (before : ℕ → Hold) (other : ℕ) → other ≢ extent → extent_leases_after_turn end extent before other ≡ before other
claimed-others None extent before other ne = refl
claimed-others (Some end) extent before other ne = end-others (claim_end end) extent before other ne

-- what is kept of the leases once the claim of a take was answered is what the log holds
pub extent-claim-moved : (g : Geometry) (old new : Reserve) (a : Answer) (leases before after holds : ℕ → Hold) (sample : Option ℕ) (result : Option SpaceEnd) →
    old.extent.0 < g.extents → Fits (claim_ask old.claim) a → AsksOnly (lease_at old.claim.number) (claim_ask old.claim) →
    HoldsAs g leases before holds → IsClaimingExtent g old holds sample → ClaimMoves old new a before after result →
    HoldsAs g (image_leases_after_write (claim_ask old.claim) a leases) (image_leases_after_write (claim_ask old.claim) a after) (after_answer sample (claim_ask old.claim) (bytes_out (claim_rest old.claim)) a holds)
extent-claim-moved g old new a leases before after holds sample result within fits only h i m =
    let extent = old.extent.0 in
    let q = claim_ask old.claim in
    let bytes = bytes_out (claim_rest old.claim) in
    let none : before extent ≡ Nothing =
    sym (held-extent g leases before extent) ∙ sym (h (extent_lease g extent) (omega (arith, within))) ∙ ap (λ (n : ℕ). hold_without_claim (holds (lease_at n))) (sym i.number)
    ∙ ap hold_without_claim i.hold ∙ claim-settled old.claim in
    let leaves = claim-holds old.claim new.claim m.end sample a holds i.sampled i.hold (m.hold fits) in
    let own : hold_without_claim (after_answer sample q bytes a holds (lease_at (extent_lease g extent))) ≡ after extent =
    ap (λ (n : ℕ). hold_without_claim (after_answer sample q bytes a holds (lease_at n))) (sym i.number)
    ∙ leaves-settled new.claim m.end extent before (after_answer sample q bytes a holds (lease_at old.claim.number)) (sample_of a) none leaves
    ∙ sym (ap (λ (t : ℕ → Hold). t extent) m.leases) in
    holds-own-extent g extent leases before after holds sample q bytes a (subst (λ (n : ℕ). AsksOnly (lease_at n) q) i.number only) h own
    (λ other ne. ap (λ (t : ℕ → Hold). t other) m.leases ∙ claimed-others m.end extent before other ne)
