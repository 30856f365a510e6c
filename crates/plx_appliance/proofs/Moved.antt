-- What is kept of the leases is what the log holds, after each answer to the command that runs.
use Rattle.std.proofs.Common.{◌≡◌, ◌≢◌, inl, inr, ℕ, ◌+◌, ◌<◌, List, Option, Some, None, refl, sym, ap, ◌∙◌, subst, arith}
use Rattle.std.specs.Prelude.{◌-◌, Bool, true, false, nat_le, nat_lt, ◌&&◌, if◌then◌else◌}
use Rattle.std.proofs.lemmas.Bool.Decides.{eqb_tells, nat_tests}
use Rattle.plx_base.specs.declared.write_kind.WriteKind.TheVariants as kind
use Rattle.plx_commands.specs.Places.{at}
use Rattle.plx_commands.proofs.Places.{at-same, at-other}
use Rattle.plx_disk.specs.declared.ask.Ask.{Ask}
use Rattle.plx_disk.specs.declared.ask.Ask.TheVariants as ask
use Rattle.plx_disk.specs.declared.ask.Answer.{Answer}
use Rattle.plx_disk.specs.declared.ask.Answer.TheVariants as answer
use Rattle.plx_geom.specs.Geometry.{Geometry, extent_lease, image_lease, lease_at}
use Rattle.plx_rules.specs.Boot.{Fits}
use Rattle.plx_rules.specs.Claims.{ClaimEnd, ClaimHeld, ClaimBusy, ClaimLost, ClaimReadFault, ClaimWriteFault, ClaimDamaged}
use Rattle.plx_rules.specs.Holds.{Hold, Nothing, Seen, Wrote, Waited, Held, after_answer}
use Rattle.plx_rules.specs.Machines.{AsksOnly}
use Rattle.law_run.specs.Holdings.{IsNotHeld}
use Rattle.law_run.proofs.Renewing.{lease-one}
use Rattle.plx_lease.specs.Holding.{HoldsAtEnd, LeavesClaim, claim_hold, claim_hold_at, other_after}
use Rattle.plx_lease.specs.ClaimEnds.{claim_end}
use Rattle.plx_lease.specs.declared.claim.ClaimAt.{ClaimAt}
use Rattle.plx_lease.specs.declared.claim.ClaimAt.TheVariants as claim
use Rattle.plx_lease.specs.declared.claim.LeaseClaim.{LeaseClaim}
use Rattle.plx_lease.specs.declared.claim_end.ClaimEnd.{ClaimEnd as End}
use Rattle.plx_lease.proofs.Holding.{other-after}
use Rattle.plx_token.specs.declared.kind.Image.{Image}
use Rattle.plx_base.specs.declared.lease.Claim.{Claim}
use Rattle.plx_appliance.specs.Holding.{HoldsAs, image_leases_after_write, hold_without_claim}
use Rattle.plx_appliance.specs.Attaches.{image_leases_after_claim, image_leases_after_turn}
use Rattle.plx_appliance.specs.Releasing.{image_leases_after_release}
use Rattle.plx_appliance.specs.Tokens.{lease_holds_at}
use Rattle.plx_appliance.proofs.Entered.{held-extent, held-image}
use Rattle.plx_appliance.proofs.Held.{nothing-at, settled-timed}

-- what is held at the block of any lease but that of one image goes by the other images
held-if : (b : Bool) (one other rest : Hold) → (b ≡ true → one ≡ other) → (if b then one else rest) ≡ (if b then other else rest)
held-if true one other rest e = e refl
held-if false one other rest e = refl

not-image : (image lease images : ℕ) → lease ≢ image_lease image → nat_le 2 (lease_at lease) && nat_lt (lease_at lease) (2 + images) ≡ true → lease_at lease - 2 ≢ image
not-image image lease images ne test = both (nat_le 2 (lease_at lease)) refl test
  where
    both : (b : Bool) → nat_le 2 (lease_at lease) ≡ b → b && nat_lt (lease_at lease) (2 + images) ≡ true → lease_at lease - 2 ≢ image
    both true low h = λ e. ne (grind (arith, nat_tests))
    both false low h = absurd cc

held-other : (g : Geometry) (before after extents : ℕ → Hold) (image lease : ℕ) → ((other : ℕ) → other ≢ image → after other ≡ before other) → lease ≢ image_lease image →
    lease_holds_at g before extents (lease_at lease) ≡ lease_holds_at g after extents (lease_at lease)
held-other g before after extents image lease others ne =
    held-if (nat_le 2 (lease_at lease) && nat_lt (lease_at lease) (2 + g.images)) (before (lease_at lease - 2)) (after (lease_at lease - 2))
    (if nat_le (2 + g.images) (lease_at lease) then extents (lease_at lease - (2 + g.images)) else Nothing)
    (λ test. sym (others (lease_at lease - 2) (not-image image lease g.images ne test)))

-- the lease of one image alone changes
pub holds-one : (g : Geometry) (image : ℕ) (before after extents holds new : ℕ → Hold) → image < g.images → HoldsAs g before extents holds →
    hold_without_claim (new (lease_at (image_lease image))) ≡ after image → ((other : ℕ) → other ≢ image → after other ≡ before other) →
    ((block : ℕ) → block ≢ lease_at (image_lease image) → hold_without_claim (new block) ≡ hold_without_claim (holds block)) → HoldsAs g after extents new
holds-one g image before after extents holds new within h own others rest = λ lease low. elim (eqb_tells lease (image_lease image)) [
  | inl same ↦ ap (λ n. hold_without_claim (new (lease_at n))) same.1 ∙ own ∙ sym (held-image g after extents image within) ∙ ap (λ n. lease_holds_at g after extents (lease_at n)) (sym same.1)
  | inr other ↦ rest (lease_at lease) (lease-one lease (image_lease image) other.1) ∙ h lease low ∙ held-other g before after extents image lease others other.1
]

-- what is kept of the leases is what the log holds, after an answer to what asks of one block alone
pub own-holds : (g : Geometry) (block : ℕ) (hold : Hold) (leases extents holds : ℕ → Hold) (sample : Option ℕ) (q : Ask) (bytes : List ℕ) (a : Answer) → AsksOnly block q →
    hold_without_claim (after_answer sample q bytes a holds block) ≡ hold →
    ((new : ℕ → Hold) → hold_without_claim (new block) ≡ hold → ((other : ℕ) → other ≢ block → hold_without_claim (new other) ≡ hold_without_claim (holds other)) → HoldsAs g leases extents new) →
    HoldsAs g (image_leases_after_write q a leases) (image_leases_after_write q a extents) (after_answer sample q bytes a holds)
own-holds g block hold leases extents holds sample q bytes a only own one = by_case q a only own
  where
    kept : (q : Ask) (a : Answer) → AsksOnly block q → hold_without_claim (after_answer sample q bytes a holds block) ≡ hold →
        ((hold : Hold) → hold_without_claim (other_after q a hold) ≡ hold_without_claim hold) → HoldsAs g leases extents (after_answer sample q bytes a holds)
    kept q a only own stays = one (after_answer sample q bytes a holds) own
        (λ other ne. ap hold_without_claim (other-after block other sample q bytes a holds only ne) ∙ stays (holds other))

    by_case : (q : Ask) (a : Answer) → AsksOnly block q → hold_without_claim (after_answer sample q bytes a holds block) ≡ hold →
        HoldsAs g (image_leases_after_write q a leases) (image_leases_after_write q a extents) (after_answer sample q bytes a holds)
    by_case (ask.Read block) (answer.Bytes b) only own = kept (ask.Read block) (answer.Bytes b) only own (λ hold. refl)
    by_case (ask.Read block) answer.Done only own = kept (ask.Read block) answer.Done only own (λ hold. refl)
    by_case (ask.Read block) (answer.Reading r) only own = kept (ask.Read block) (answer.Reading r) only own (settled-timed r)
    by_case (ask.Read block) (answer.Missed r) only own = kept (ask.Read block) (answer.Missed r) only own (λ hold. refl)
    by_case (ask.Read block) answer.Fault only own = kept (ask.Read block) answer.Fault only own (λ hold. refl)
    by_case (ask.Write k block guard) (answer.Bytes b) only own = kept (ask.Write k block guard) (answer.Bytes b) only own (λ hold. refl)
    by_case (ask.Write k block guard) answer.Done only own = kept (ask.Write k block guard) answer.Done only own (λ hold. refl)
    by_case (ask.Write k block guard) (answer.Reading r) only own = kept (ask.Write k block guard) (answer.Reading r) only own (settled-timed r)
    by_case (ask.Write k block guard) (answer.Missed r) only own = λ lease low. nothing-at g (lease_at lease)
    by_case (ask.Write k block guard) answer.Fault only own = λ lease low. nothing-at g (lease_at lease)
    by_case ask.Clock (answer.Bytes b) only own = kept ask.Clock (answer.Bytes b) only own (λ hold. refl)
    by_case ask.Clock answer.Done only own = kept ask.Clock answer.Done only own (λ hold. refl)
    by_case ask.Clock (answer.Reading r) only own = kept ask.Clock (answer.Reading r) only own (settled-timed r)
    by_case ask.Clock (answer.Missed r) only own = kept ask.Clock (answer.Missed r) only own (λ hold. refl)
    by_case ask.Clock answer.Fault only own = kept ask.Clock answer.Fault only own (λ hold. refl)
    by_case (ask.Until from) (answer.Bytes b) only own = kept (ask.Until from) (answer.Bytes b) only own (λ hold. refl)
    by_case (ask.Until from) answer.Done only own = kept (ask.Until from) answer.Done only own (λ hold. refl)
    by_case (ask.Until from) (answer.Reading r) only own = kept (ask.Until from) (answer.Reading r) only own (settled-timed r)
    by_case (ask.Until from) (answer.Missed r) only own = kept (ask.Until from) (answer.Missed r) only own (λ hold. refl)
    by_case (ask.Until from) answer.Fault only own = kept (ask.Until from) answer.Fault only own (λ hold. refl)

-- so it is after an answer to what asks of an image's lease alone
pub holds-own : (g : Geometry) (image : ℕ) (before after extents holds : ℕ → Hold) (sample : Option ℕ) (q : Ask) (bytes : List ℕ) (a : Answer) → image < g.images →
    AsksOnly (lease_at (image_lease image)) q → HoldsAs g before extents holds →
    hold_without_claim (after_answer sample q bytes a holds (lease_at (image_lease image))) ≡ after image → ((other : ℕ) → other ≢ image → after other ≡ before other) →
    HoldsAs g (image_leases_after_write q a after) (image_leases_after_write q a extents) (after_answer sample q bytes a holds)
holds-own g image before after extents holds sample q bytes a within only h own others =
    own-holds g (lease_at (image_lease image)) (after image) after extents holds sample q bytes a only own
    (λ new is rest. holds-one g image before after extents holds new within h is others rest)

-- ---- the lease of one extent alone changes

past-extent : (images lease extent : ℕ) → lease ≢ 1 + images + extent → nat_le (2 + images) (lease_at lease) ≡ true → lease_at lease - (2 + images) ≢ extent
past-extent images lease extent ne test = λ e. ne (grind (arith, nat_tests))

held-past : (g : Geometry) (leases before after : ℕ → Hold) (extent lease : ℕ) → ((other : ℕ) → other ≢ extent → after other ≡ before other) → lease ≢ extent_lease g extent →
    lease_holds_at g leases before (lease_at lease) ≡ lease_holds_at g leases after (lease_at lease)
held-past g leases before after extent lease others ne =
    let place = lease_at lease - (2 + g.images) in
    let same = held-if (nat_le (2 + g.images) (lease_at lease)) (before place) (after place) Nothing
    (λ test. sym (others place (past-extent g.images lease extent ne test))) in
    ap (λ (hold : Hold). if nat_le 2 (lease_at lease) && nat_lt (lease_at lease) (2 + g.images) then leases (lease_at lease - 2) else hold) same

pub holds-extent : (g : Geometry) (extent : ℕ) (leases before after holds new : ℕ → Hold) → HoldsAs g leases before holds →
    hold_without_claim (new (lease_at (extent_lease g extent))) ≡ after extent → ((other : ℕ) → other ≢ extent → after other ≡ before other) →
    ((block : ℕ) → block ≢ lease_at (extent_lease g extent) → hold_without_claim (new block) ≡ hold_without_claim (holds block)) → HoldsAs g leases after new
holds-extent g extent leases before after holds new h own others rest = λ lease low. elim (eqb_tells lease (extent_lease g extent)) [
  | inl same ↦ ap (λ n. hold_without_claim (new (lease_at n))) same.1 ∙ own ∙ sym (held-extent g leases after extent) ∙ ap (λ n. lease_holds_at g leases after (lease_at n)) (sym same.1)
  | inr other ↦ rest (lease_at lease) (lease-one lease (extent_lease g extent) other.1) ∙ h lease low ∙ held-past g leases before after extent lease others other.1
]

-- so it is after an answer to what asks of an extent's lease alone
pub holds-own-extent : (g : Geometry) (extent : ℕ) (leases before after holds : ℕ → Hold) (sample : Option ℕ) (q : Ask) (bytes : List ℕ) (a : Answer) →
    AsksOnly (lease_at (extent_lease g extent)) q → HoldsAs g leases before holds →
    hold_without_claim (after_answer sample q bytes a holds (lease_at (extent_lease g extent))) ≡ after extent → ((other : ℕ) → other ≢ extent → after other ≡ before other) →
    HoldsAs g (image_leases_after_write q a leases) (image_leases_after_write q a after) (after_answer sample q bytes a holds)
holds-own-extent g extent leases before after holds sample q bytes a only h own others =
    own-holds g (lease_at (extent_lease g extent)) (after extent) leases after holds sample q bytes a only own
    (λ new is rest. holds-extent g extent leases before after holds new h is others rest)

-- and once the release of an extent's lease is done
pub extent-released : (g : Geometry) (extent : ℕ) (leases extents holds : ℕ → Hold) → HoldsAs g leases extents holds →
    HoldsAs g leases (at extents extent Nothing) (at holds (lease_at (extent_lease g extent)) Nothing)
extent-released g extent leases extents holds h =
    let block = lease_at (extent_lease g extent) in
    holds-extent g extent leases extents (at extents extent Nothing) holds (at holds block Nothing) h
    (ap hold_without_claim (at-same holds block Nothing) ∙ sym (at-same extents extent Nothing))
    (λ other ne. at-other extents extent other Nothing ne)
    (λ b ne. ap hold_without_claim (at-other holds block b Nothing ne))

-- a release that is done
pub holds-released : (g : Geometry) (image : ℕ) (leases extents holds : ℕ → Hold) → image < g.images → HoldsAs g leases extents holds →
    HoldsAs g (at leases image Nothing) extents (at holds (lease_at (image_lease image)) Nothing)
holds-released g image leases extents holds within h =
    let block = lease_at (image_lease image) in
    holds-one g image leases (at leases image Nothing) extents holds (at holds block Nothing) within h
    (ap hold_without_claim (at-same holds block Nothing) ∙ sym (at-same leases image Nothing))
    (λ other ne. at-other leases image other Nothing ne)
    (λ b ne. ap hold_without_claim (at-other holds block b Nothing ne))

-- so it is once a release was answered
pub release-holds-as : (g : Geometry) (image guard : ℕ) (bytes : List ℕ) (a : Answer) (before after extents holds : ℕ → Hold) (sample : Option ℕ) → image < g.images →
    Fits (ask.Write kind.Release (record { 0 = lease_at (image_lease image) }) guard) a → HoldsAs g before extents holds → after ≡ image_leases_after_release a image before →
    HoldsAs g (image_leases_after_write (ask.Write kind.Release (record { 0 = lease_at (image_lease image) }) guard) a after)
    (image_leases_after_write (ask.Write kind.Release (record { 0 = lease_at (image_lease image) }) guard) a extents)
    (after_answer sample (ask.Write kind.Release (record { 0 = lease_at (image_lease image) }) guard) bytes a holds)
release-holds-as g image guard bytes answer.Done before after extents holds sample within fits h is =
    subst (λ (ls : ℕ → Hold). HoldsAs g ls extents (after_answer sample (ask.Write kind.Release (record { 0 = lease_at (image_lease image) }) guard) bytes answer.Done holds)) (sym is)
    (holds-released g image before extents holds within h)
release-holds-as g image guard bytes answer.Fault before after extents holds sample within fits h is = λ lease low. nothing-at g (lease_at lease)
release-holds-as g image guard bytes (answer.Missed r) before after extents holds sample within fits h is = λ lease low. nothing-at g (lease_at lease)
release-holds-as g image guard bytes (answer.Bytes b) before after extents holds sample within fits h is = absurd fits
release-holds-as g image guard bytes (answer.Reading r) before after extents holds sample within fits h is = absurd fits

-- a claim that goes on doesn't hold its lease
claim-at-settled : (a : ClaimAt) (c : Claim) → hold_without_claim (claim_hold_at a c) ≡ Nothing
claim-at-settled claim.Sample c = refl
claim-at-settled claim.Read c = refl
claim-at-settled claim.Damaged c = refl
claim-at-settled claim.Write c = refl
claim-at-settled claim.Wait c = refl
claim-at-settled claim.Reread c = refl
claim-at-settled claim.DamagedLate c = refl

pub claim-settled : {K : Type 0} (c : LeaseClaim K) → hold_without_claim (claim_hold c) ≡ Nothing
claim-settled c = claim-at-settled c.at c.claim

pub not-settled : (hold : Hold) → IsNotHeld hold → hold_without_claim hold ≡ Nothing
not-settled Nothing h = refl
not-settled (Seen sample) h = refl
not-settled (Wrote claim until) h = refl
not-settled (Waited claim until) h = refl
not-settled (Held claim until) h = absurd (let P : ⊥ = cc in P)

end-settled : (end : ClaimEnd) (image : ℕ) (before : ℕ → Hold) (hold : Hold) → before image ≡ Nothing → HoldsAtEnd end hold → hold_without_claim hold ≡ image_leases_after_claim end image before image
end-settled (ClaimHeld claim until) image before hold none h = ap hold_without_claim h ∙ sym (at-same before image (Held claim until))
end-settled (ClaimBusy seen) image before hold none h = ap hold_without_claim h ∙ sym none
end-settled (ClaimLost due reading) image before hold none h = not-settled hold h ∙ sym none
end-settled ClaimReadFault image before hold none h = not-settled hold h ∙ sym none
end-settled ClaimWriteFault image before hold none h = not-settled hold h ∙ sym none
end-settled ClaimDamaged image before hold none h = not-settled hold h ∙ sym none

-- what is left of the hold of a claim's lease is what is kept of it
pub leaves-settled : (new : LeaseClaim Image) (end : Option (End Image)) (image : ℕ) (before : ℕ → Hold) (hold : Hold) (sample : Option ℕ) → before image ≡ Nothing →
    LeavesClaim hold sample new end → hold_without_claim hold ≡ image_leases_after_turn end image before image
leaves-settled new None image before hold sample none h = ap hold_without_claim h.0 ∙ claim-settled new ∙ sym none
leaves-settled new (Some end) image before hold sample none h = end-settled (claim_end end) image before hold none h

end-others : (end : ClaimEnd) (image : ℕ) (before : ℕ → Hold) (other : ℕ) → other ≢ image → image_leases_after_claim end image before other ≡ before other
end-others (ClaimHeld claim until) image before other ne = at-other before image other (Held claim until) ne
end-others (ClaimBusy seen) image before other ne = refl
end-others (ClaimLost due reading) image before other ne = refl
end-others ClaimReadFault image before other ne = refl
end-others ClaimWriteFault image before other ne = refl
end-others ClaimDamaged image before other ne = refl

-- of every other image what was kept stays
pub claimed-others : (end : Option (End Image)) (image : ℕ) (before : ℕ → Hold) (other : ℕ) → other ≢ image → image_leases_after_turn end image before other ≡ before other
claimed-others None image before other ne = refl
claimed-others (Some end) image before other ne = end-others (claim_end end) image before other ne
