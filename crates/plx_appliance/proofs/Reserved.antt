-- A reserve that was answered: what is kept of the leases, what is in hand, and how far its claim has come.
use Rattle.std.proofs.Common.{◌≡◌, ◌≢◌, inl, inr, ℕ, ◌<◌, List, Option, Some, None, refl, sym, ap, ◌∙◌, subst, arith}
use Rattle.std.proofs.lemmas.Bool.Decides.{eqb_tells}
use Rattle.plx_base.specs.declared.numbers.BlockNo.{BlockNo}
use Rattle.plx_base.specs.declared.numbers.ExtentNo.{ExtentNo}
use Rattle.plx_base.specs.declared.write_kind.WriteKind.TheVariants as kind
use Rattle.plx_commands.specs.declared.reply.Reply.{Reply}
use Rattle.plx_disk.specs.declared.ask.Ask.{Ask}
use Rattle.plx_disk.specs.declared.ask.Ask.TheVariants as ask
use Rattle.plx_disk.specs.declared.ask.Answer.{Answer}
use Rattle.plx_disk.specs.declared.ask.Answer.TheVariants as answer
use Rattle.plx_geom.specs.Geometry.{Geometry, extent_lease, lease_at, lease_count, map_at}
use Rattle.plx_rules.specs.Boot.{Fits}
use Rattle.plx_rules.specs.Claims.{ClaimEnd, ClaimHeld, ClaimBusy, ClaimLost, ClaimReadFault, ClaimWriteFault, ClaimDamaged}
use Rattle.plx_rules.specs.Hands.{found_by, hand_answered}
use Rattle.plx_rules.specs.Holds.{Hold, Nothing, Seen, Wrote, Waited, Held, after_answer, sample_of, hold_after_reading}
use Rattle.plx_rules.specs.Machines.{Asks, AsksOnly}
use Rattle.plx_rules.specs.Process.{bytes_out, standing}
use Rattle.plx_rules.proofs.Nested.{asks-followed, bytes-followed, standing-followed}
use Rattle.plx_lease.specs.ClaimEnds.{claim_end}
use Rattle.plx_lease.specs.Claiming.{claim_rest}
use Rattle.plx_lease.specs.Holding.{HoldsAtEnd, LeavesClaim, claim_ask, claim_ask_at, other_after}
use Rattle.plx_lease.specs.declared.claim.ClaimAt.{ClaimAt}
use Rattle.plx_lease.specs.declared.claim.ClaimAt.TheVariants as claim
use Rattle.plx_base.specs.declared.lease.Claim.{Claim}
use Rattle.plx_appliance.proofs.InHand.{FillsNone}
use Rattle.plx_lease.specs.declared.claim_end.ClaimEnd.{ClaimEnd as End'}
use Rattle.plx_lease.proofs.Asking.{claim-asks}
use Rattle.plx_lease.proofs.Held.{claim-holds, claim-standing}
use Rattle.plx_lease.proofs.Holding.{other-after}
use Rattle.plx_token.specs.declared.kind.Extent.{Extent}
use Rattle.plx_alloc.specs.Moving.{ClaimMoves, TakeGoesOn, GoesPast, ReadsFirst, SpareMoves, TellsTaken, reserve_ask_at, reserve_ask, reserve_moves}
use Rattle.plx_alloc.specs.Asking.{reserve_spares}
use Rattle.plx_alloc.specs.Suiting.{SuitsReserve}
use Rattle.plx_alloc.specs.Tables.{hand_numbers, held_hand}
use Rattle.plx_alloc.specs.Tables.{extent_leases as extents_of}
use Rattle.plx_alloc.specs.Takes.{Outer, reserve_at}
use Rattle.plx_alloc.specs.declared.allocator.Allocator.{Allocator}
use Rattle.plx_alloc.specs.declared.reserve.Reserve.{Reserve as Take}
use Rattle.plx_alloc.specs.declared.reserve.ReserveAt.{ReserveAt}
use Rattle.plx_alloc.specs.declared.reserve.ReserveAt.TheVariants as at
use Rattle.plx_alloc.specs.declared.space_end.SpaceEnd.{SpaceEnd}
use Rattle.plx_appliance.specs.Holding.{HoldsAs, image_leases_after_write, hold_without_claim}
use Rattle.plx_appliance.specs.Lent.{Lent}
use Rattle.plx_appliance.specs.Reserves.{HasNoClaim, HaveNoClaims, IsClaimingExtent, IsReserving, ReserveMoves, claiming_at, outer_of, reserve_work_rest}
use Rattle.plx_appliance.specs.Space.{AreWithin, IsHand}
use Rattle.plx_appliance.specs.declared.reserve.Reserve.{Reserve}
use Rattle.plx_appliance.proofs.Entered.{held-extent}
use Rattle.plx_appliance.proofs.ExtentClaimed.{extent-claim-moved}
use Rattle.plx_session.proofs.Machines.{EndsOnFailure}
use Rattle.plx_appliance.proofs.Failing.{claim-fails, same-ask}
use Rattle.plx_appliance.proofs.Held.{nothing-at, spare-holds}

-- the map of an extent lies past the leases
map-past : (g : Geometry) (extent : ℕ) → lease_count g < map_at g extent
map-past g extent = omega arith

-- once the write of a map was answered
pub take-holds : (g : Geometry) (leases extents holds : ℕ → Hold) (sample : Option ℕ) (map : BlockNo) (until : ℕ) (bytes : List ℕ) (a : Answer) →
    Fits (ask.Write kind.Take map until) a → HoldsAs g leases extents holds →
    HoldsAs g (image_leases_after_write (ask.Write kind.Take map until) a leases) (image_leases_after_write (ask.Write kind.Take map until) a extents) (after_answer sample (ask.Write kind.Take map until) bytes a holds)
take-holds g leases extents holds sample map until bytes answer.Done fits h = h
take-holds g leases extents holds sample map until bytes answer.Fault fits h = λ lease low. nothing-at g (lease_at lease)
take-holds g leases extents holds sample map until bytes (answer.Missed r) fits h = λ lease low. nothing-at g (lease_at lease)
take-holds g leases extents holds sample map until bytes (answer.Bytes b) fits h = absurd fits
take-holds g leases extents holds sample map until bytes (answer.Reading r) fits h = absurd fits

-- a take stands in no claim
abbrev pub IsInNoClaim : ReserveAt → Type 0
IsInNoClaim at.Claim = ⊥
IsInNoClaim other = Unit {0}

pub outside-holds : (g : Geometry) (place : ReserveAt) (m : Take) (a : Answer) (leases extents holds : ℕ → Hold) (sample : Option ℕ) (bytes : List ℕ) →
    m.map.0 ≡ map_at g m.extent.0 → IsInNoClaim place → Fits (reserve_ask_at place m) a → HoldsAs g leases extents holds →
    HoldsAs g (image_leases_after_write (reserve_ask_at place m) a leases) (image_leases_after_write (reserve_ask_at place m) a extents) (after_answer sample (reserve_ask_at place m) bytes a holds)
outside-holds g at.Map m a leases extents holds sample bytes map outside fits h =
    spare-holds g leases extents holds sample (ask.Read m.map) bytes a (subst (λ (n : ℕ). lease_count g < n) (sym map) (map-past g m.extent.0)) h
outside-holds g at.Look m a leases extents holds sample bytes map outside fits h =
    spare-holds g leases extents holds sample (ask.Read m.map) bytes a (subst (λ (n : ℕ). lease_count g < n) (sym map) (map-past g m.extent.0)) h
outside-holds g at.Write m a leases extents holds sample bytes map outside fits h = take-holds g leases extents holds sample m.map m.until bytes a fits h
outside-holds g at.Claim m a leases extents holds sample bytes map outside fits h = absurd outside
outside-holds g at.Damaged m a leases extents holds sample bytes map outside fits h = spare-holds g leases extents holds sample ask.Clock bytes a tt h

-- ---- its asks

pub take-asks : (o : Outer) (a : Allocator) (place : ReserveAt) (m : Take) → Asks (reserve_at place o a m)
take-asks o a at.Map m = tt
take-asks o a at.Write m = tt
take-asks o a at.Look m = tt
take-asks o a at.Claim m = asks-followed (claim_rest m.claim) _ (claim-asks m.claim)
take-asks o a at.Damaged m = tt

pub take-fails : (o : Outer) (a : Allocator) (place : ReserveAt) (m : Take) → EndsOnFailure (reserve_at place o a m)
take-fails o a at.Map m = tt
take-fails o a at.Write m = (λ h. h, λ reading h. h)
take-fails o a at.Look m = tt
take-fails o a at.Claim m = claim-fails m.claim.at m.claim _ (λ h. h) (λ due reading h. h)
take-fails o a at.Damaged m = tt

take-standing : (o : Outer) (a : Allocator) (place : ReserveAt) (m : Take) → standing (reserve_at place o a m) ≡ Some (reserve_ask_at place m)
take-standing o a at.Map m = refl
take-standing o a at.Write m = refl
take-standing o a at.Look m = refl
take-standing o a at.Claim m = standing-followed (claim_rest m.claim) _ (claim-asks m.claim) ∙ claim-standing m.claim
take-standing o a at.Damaged m = refl

-- the ask of a take is the one that stands
pub take-ask-stands : (lent : Lent) (r : Reserve) (q : Ask) → Some q ≡ standing (reserve_work_rest lent r) → reserve_ask r.work ≡ q
take-ask-stands lent r q stands =
    let o = outer_of r.setting lent.known.sessions in
    sym (same-ask q (reserve_ask r.work) (stands ∙ take-standing o lent.space r.work.at r.work))

-- what the write of a map writes
take-bytes : (o : Outer) (a : Allocator) (place : ReserveAt) (m : Take) → place ≡ at.Write → bytes_out (reserve_at place o a m) ≡ m.out
take-bytes o a at.Map m e = absurd cc
take-bytes o a at.Write m e = refl
take-bytes o a at.Look m e = absurd cc
take-bytes o a at.Claim m e = absurd cc
take-bytes o a at.Damaged m e = absurd cc

-- ---- the leases

-- it moves no lease but in a claim
spare-moved : (g own : Geometry) (place : ReserveAt) (old new : Take) (a : Answer) (leases before after holds : ℕ → Hold) (sample : Option ℕ) (bytes : List ℕ) (end : Option SpaceEnd) →
    old.map.0 ≡ map_at g old.extent.0 → IsInNoClaim place → Fits (reserve_ask_at place old) a → HoldsAs g leases before holds → SpareMoves own new before after end →
    HoldsAs g (image_leases_after_write (reserve_ask_at place old) a leases) (image_leases_after_write (reserve_ask_at place old) a after) (after_answer sample (reserve_ask_at place old) bytes a holds)
spare-moved g own place old new a leases before after holds sample bytes end map outside fits h m =
    subst (λ (es : ℕ → Hold). HoldsAs g (image_leases_after_write (reserve_ask_at place old) a leases) (image_leases_after_write (reserve_ask_at place old) a es) (after_answer sample (reserve_ask_at place old) bytes a holds)) (sym m.leases)
    (outside-holds g place old a leases before holds sample bytes map outside fits h)

holds-at : (g own : Geometry) (o : Outer) (space : Allocator) (place : ReserveAt) (old new : Take) (a : Answer) (leases before after holds : ℕ → Hold) (sample : Option ℕ) (end : Option SpaceEnd) →
    old.extent.0 < g.extents → old.map.0 ≡ map_at g old.extent.0 → reserve_spares place own old (reserve_ask_at place old) → Fits (reserve_ask_at place old) a → HoldsAs g leases before holds →
    claiming_at place g old holds sample → reserve_moves place own old new a before after end →
    HoldsAs g (image_leases_after_write (reserve_ask_at place old) a leases) (image_leases_after_write (reserve_ask_at place old) a after) (after_answer sample (reserve_ask_at place old) (bytes_out (reserve_at place o space old)) a holds)
holds-at g own o space at.Map old new a leases before after holds sample end within map spare fits h i m =
    spare-moved g own at.Map old new a leases before after holds sample (bytes_out (reserve_at at.Map o space old)) end map tt fits h m
holds-at g own o space at.Write old new a leases before after holds sample end within map spare fits h i m =
    spare-moved g own at.Write old new a leases before after holds sample (bytes_out (reserve_at at.Write o space old)) end map tt fits h m
holds-at g own o space at.Look old new a leases before after holds sample end within map spare fits h i m =
    spare-moved g own at.Look old new a leases before after holds sample (bytes_out (reserve_at at.Look o space old)) end map tt fits h m
holds-at g own o space at.Claim old new a leases before after holds sample end within map spare fits h i m =
    subst (λ (bs : List ℕ). HoldsAs g (image_leases_after_write (claim_ask old.claim) a leases) (image_leases_after_write (claim_ask old.claim) a after) (after_answer sample (claim_ask old.claim) bs a holds))
    (sym (bytes-followed (claim_rest old.claim) _ (claim-asks old.claim)))
    (extent-claim-moved g old new a leases before after holds sample end within fits spare h i m)
holds-at g own o space at.Damaged old new a leases before after holds sample end within map spare fits h i m =
    spare-moved g own at.Damaged old new a leases before after holds sample (bytes_out (reserve_at at.Damaged o space old)) end map tt fits h m

-- what is kept of the leases is what the log holds
pub reserve-holds : (g : Geometry) (lent later : Lent) (old new : Reserve) (q : Ask) (a : Answer) (holds : ℕ → Hold) (sample : Option ℕ) (found : Option (ℕ × List ℕ)) (result : Option Reply) →
    old.setting.geometry ≡ g → lent.space.geometry ≡ g → SuitsReserve lent.space old.work → Some q ≡ standing (reserve_work_rest lent old) → ((space : Allocator) → SuitsReserve space old.work → reserve_spares old.work.at space.geometry old.work q) → Fits q a →
    HoldsAs g lent.leases (extents_of lent.space) holds → IsReserving old holds sample found → ReserveMoves old new a lent later result →
    HoldsAs g (image_leases_after_write q a later.leases) (image_leases_after_write q a (extents_of later.space)) (after_answer sample q (bytes_out (reserve_work_rest lent old)) a holds)
reserve-holds g lent later old new q a holds sample found result same space suits stands spare fits h i m =
    let e = take-ask-stands lent old q stands in
    let o = outer_of old.setting lent.known.sessions in
    let within = suits.extent in
    subst (λ (r : Ask). HoldsAs g (image_leases_after_write r a later.leases) (image_leases_after_write r a (extents_of later.space)) (after_answer sample r (bytes_out (reserve_work_rest lent old)) a holds)) e
    (subst (λ (ls : ℕ → Hold). HoldsAs g (image_leases_after_write (reserve_ask old.work) a ls) (image_leases_after_write (reserve_ask old.work) a (extents_of later.space)) (after_answer sample (reserve_ask old.work) (bytes_out (reserve_work_rest lent old)) a holds)) (sym m.images)
    (holds-at g lent.space.geometry o lent.space old.work.at old.work new.work a lent.leases (extents_of lent.space) (extents_of later.space) holds sample m.end
    (subst (λ (k : Geometry). old.work.extent.0 < k.extents) space within) (subst (λ (k : Geometry). old.work.map.0 ≡ map_at k old.work.extent.0) space suits.map)
    (subst (λ (r : Ask). reserve_spares old.work.at lent.space.geometry old.work r) (sym e) (spare lent.space suits)) (subst (λ (r : Ask). Fits r a) (sym e) fits) h
    (subst (λ (k : Geometry). claiming_at old.work.at k old.work holds sample) same i.claim) m.extents))

-- ---- how far its claim has come

settled-twice : (reading : ℕ) (hold : Hold) → hold ≡ hold_without_claim hold → hold_after_reading reading hold ≡ hold_without_claim (hold_after_reading reading hold)
settled-twice reading Nothing is = refl
settled-twice reading (Seen sample) is = absurd cc
settled-twice reading (Wrote claim until) is = absurd cc
settled-twice reading (Waited claim until) is = absurd cc
settled-twice reading (Held claim until) is = refl

other-settled : (q : Ask) (a : Answer) (hold : Hold) → hold ≡ hold_without_claim hold → other_after q a hold ≡ hold_without_claim (other_after q a hold)
other-settled (ask.Read block) (answer.Bytes b) hold is = is
other-settled (ask.Read block) answer.Done hold is = is
other-settled (ask.Read block) (answer.Reading r) hold is = settled-twice r hold is
other-settled (ask.Read block) (answer.Missed r) hold is = is
other-settled (ask.Read block) answer.Fault hold is = is
other-settled (ask.Write k block guard) (answer.Bytes b) hold is = is
other-settled (ask.Write k block guard) answer.Done hold is = is
other-settled (ask.Write k block guard) (answer.Reading r) hold is = settled-twice r hold is
other-settled (ask.Write k block guard) (answer.Missed r) hold is = refl
other-settled (ask.Write k block guard) answer.Fault hold is = refl
other-settled ask.Clock (answer.Bytes b) hold is = is
other-settled ask.Clock answer.Done hold is = is
other-settled ask.Clock (answer.Reading r) hold is = settled-twice r hold is
other-settled ask.Clock (answer.Missed r) hold is = is
other-settled ask.Clock answer.Fault hold is = is
other-settled (ask.Until from) (answer.Bytes b) hold is = is
other-settled (ask.Until from) answer.Done hold is = is
other-settled (ask.Until from) (answer.Reading r) hold is = settled-twice r hold is
other-settled (ask.Until from) (answer.Missed r) hold is = is
other-settled (ask.Until from) answer.Fault hold is = is

-- of the leases of which it doesn't ask no claim is under way
apart-settled : (g : Geometry) (own extent : ℕ) (q : Ask) (bytes : List ℕ) (a : Answer) (holds : ℕ → Hold) (sample : Option ℕ) → AsksOnly own q → lease_at (extent_lease g extent) ≢ own →
    HasNoClaim g holds extent → HasNoClaim g (after_answer sample q bytes a holds) extent
apart-settled g own extent q bytes a holds sample only ne is =
    let block = lease_at (extent_lease g extent) in
    subst (λ (hold : Hold). hold ≡ hold_without_claim hold) (sym (other-after own block sample q bytes a holds only ne)) (other-settled q a (holds block) is)

-- what asks of a map alone leaves all of them so
maps-settled : (g : Geometry) (map : ℕ) (q : Ask) (bytes : List ℕ) (a : Answer) (holds : ℕ → Hold) (sample : Option ℕ) → lease_count g < map → AsksOnly map q →
    HaveNoClaims g holds → HaveNoClaims g (after_answer sample q bytes a holds)
maps-settled g map q bytes a holds sample past only clean = λ extent within.
    apart-settled g map extent q bytes a holds sample only (λ e. absurd (omega (arith, e, past, within))) (clean extent within)

-- nothing is held of a lease of which nothing was
dropped-nothing : (q : Ask) (a : Answer) (leases : ℕ → Hold) (place : ℕ) → leases place ≡ Nothing → image_leases_after_write q a leases place ≡ Nothing
dropped-nothing (ask.Read block) a leases place none = none
dropped-nothing (ask.Write k block guard) (answer.Bytes b) leases place none = none
dropped-nothing (ask.Write k block guard) answer.Done leases place none = none
dropped-nothing (ask.Write k block guard) (answer.Reading r) leases place none = none
dropped-nothing (ask.Write k block guard) (answer.Missed r) leases place none = refl
dropped-nothing (ask.Write k block guard) answer.Fault leases place none = refl
dropped-nothing ask.Clock a leases place none = none
dropped-nothing (ask.Until from) a leases place none = none

-- a take that was at a map: a claim may begin
spare-claims : (g : Geometry) (place : ReserveAt) (q : Ask) (new : Take) (a : Answer) (leases before after now : ℕ → Hold) (sample : Option ℕ) (end : Option SpaceEnd) →
    new.extent.0 < g.extents → HaveNoClaims g now → HoldsAs g (image_leases_after_write q a leases) (image_leases_after_write q a after) now → SpareMoves g new before after end → end ≡ None → new.at ≡ place →
    claiming_at place g new now sample
spare-claims g at.Map q new a leases before after now sample end within clean h m none here = clean
spare-claims g at.Write q new a leases before after now sample end within clean h m none here = clean
spare-claims g at.Look q new a leases before after now sample end within clean h m none here = clean
spare-claims g at.Damaged q new a leases before after now sample end within clean h m none here = clean
spare-claims g at.Claim q new a leases before after now sample end within clean h m none here =
    let starts = m.starts none here in
    let extent = new.extent.0 in
    let kept : now (lease_at (extent_lease g extent)) ≡ Nothing =
    clean extent within ∙ h (extent_lease g extent) (omega (arith, within)) ∙ held-extent g (image_leases_after_write q a leases) (image_leases_after_write q a after) extent
    ∙ dropped-nothing q a after extent starts.none in
    record {
      number = starts.number;
      hold = ap (λ (n : ℕ). now (lease_at n)) starts.number ∙ kept ∙ sym starts.fresh;
      sampled = starts.sampled sample;
      others = λ other below ne. clean other below;
    }

-- what is left at the end of a claim after which a take goes on
past-settled : (end : ClaimEnd) (hold : Hold) → GoesPast end → HoldsAtEnd end hold → hold ≡ hold_without_claim hold
past-settled (ClaimHeld claim until) hold past is = is ∙ ap hold_without_claim (sym is)
past-settled (ClaimBusy seen) hold past is = is ∙ ap hold_without_claim (sym is)
past-settled (ClaimLost due reading) hold past is = absurd past
past-settled ClaimReadFault hold past is = absurd past
past-settled ClaimWriteFault hold past is = absurd past
past-settled ClaimDamaged hold past is = absurd past

-- a take that reads is in no claim
reads-settled : (g : Geometry) (place : ReserveAt) (m : Take) (holds : ℕ → Hold) (sample : Option ℕ) → ReadsFirst place → HaveNoClaims g holds → claiming_at place g m holds sample
reads-settled g at.Map m holds sample reads clean = clean
reads-settled g at.Write m holds sample reads clean = absurd reads
reads-settled g at.Look m holds sample reads clean = clean
reads-settled g at.Claim m holds sample reads clean = absurd reads
reads-settled g at.Damaged m holds sample reads clean = absurd reads

-- where the claim of a take stands, or what it left
claim-goes : (g : Geometry) (old new : Take) (a : Answer) (before after holds : ℕ → Hold) (sample : Option ℕ) (result : Option SpaceEnd) (end : Option (End' Extent)) (place : ReserveAt) →
    Fits (claim_ask old.claim) a → AsksOnly (lease_at old.claim.number) (claim_ask old.claim) → IsClaimingExtent g old holds sample → (m : ClaimMoves old new a before after result) → result ≡ None →
    m.end ≡ end → new.at ≡ place → TakeGoesOn end place →
    LeavesClaim (after_answer sample (claim_ask old.claim) (bytes_out (claim_rest old.claim)) a holds (lease_at old.claim.number)) (sample_of a) new.claim end →
    claiming_at place g new (after_answer sample (claim_ask old.claim) (bytes_out (claim_rest old.claim)) a holds) (sample_of a)
claim-goes g old new a before after holds sample result None place fits only i m none is here goes leaves =
    let q = claim_ask old.claim in
    let bytes = bytes_out (claim_rest old.claim) in
    let now = after_answer sample q bytes a holds in
    let same = (m.ends none (here ∙ goes)).1 in
    subst (λ (p : ReserveAt). claiming_at p g new now (sample_of a)) (sym goes) (record {
      number = m.number ∙ i.number ∙ ap (λ (e : ExtentNo). extent_lease g e.0) (sym same);
      hold = ap (λ (n : ℕ). now (lease_at n)) m.number ∙ leaves.0;
      sampled = leaves.1;
      others = λ extent within ne.
          let apart : lease_at (extent_lease g extent) ≢ lease_at old.claim.number = λ e. ne (let n = i.number in let s = ap (λ (x : ExtentNo). x.0) same in omega (arith, e, n, s)) in
          apart-settled g (lease_at old.claim.number) extent q bytes a holds sample only apart (i.others extent within (λ e. ne (e ∙ sym (ap (λ (x : ExtentNo). x.0) same))));
    })
claim-goes g old new a before after holds sample result (Some end) place fits only i m none is here goes leaves =
    let q = claim_ask old.claim in
    let bytes = bytes_out (claim_rest old.claim) in
    let now = after_answer sample q bytes a holds in
    reads-settled g place new now (sample_of a) goes.0 (λ extent within. elim (eqb_tells extent old.extent.0) [
      | inl same ↦
          let there : lease_at (extent_lease g extent) ≡ lease_at old.claim.number = let n = i.number in let e = same.1 in omega (arith, n, e) in
          subst (λ (b : ℕ). now b ≡ hold_without_claim (now b)) (sym there) (past-settled (claim_end end) (now (lease_at old.claim.number)) goes.1 leaves)
      | inr other ↦
          let apart : lease_at (extent_lease g extent) ≢ lease_at old.claim.number = λ e. other.1 (let n = i.number in omega (arith, e, n)) in
          apart-settled g (lease_at old.claim.number) extent q bytes a holds sample only apart (i.others extent within other.1)
    ])

-- a take stands past the leases where it isn't in a claim
spare-settled : (g : Geometry) (place : ReserveAt) (m : Take) (bytes : List ℕ) (a : Answer) (holds : ℕ → Hold) (sample : Option ℕ) → m.map.0 ≡ map_at g m.extent.0 → IsInNoClaim place →
    HaveNoClaims g holds → HaveNoClaims g (after_answer sample (reserve_ask_at place m) bytes a holds)
spare-settled g at.Map m bytes a holds sample map outside clean =
    maps-settled g m.map.0 (ask.Read m.map) bytes a holds sample (subst (λ (n : ℕ). lease_count g < n) (sym map) (map-past g m.extent.0)) refl clean
spare-settled g at.Write m bytes a holds sample map outside clean =
    maps-settled g m.map.0 (ask.Write kind.Take m.map m.until) bytes a holds sample (subst (λ (n : ℕ). lease_count g < n) (sym map) (map-past g m.extent.0)) (refl, m.guard) clean
spare-settled g at.Look m bytes a holds sample map outside clean =
    maps-settled g m.map.0 (ask.Read m.map) bytes a holds sample (subst (λ (n : ℕ). lease_count g < n) (sym map) (map-past g m.extent.0)) refl clean
spare-settled g at.Claim m bytes a holds sample map outside clean = absurd outside
spare-settled g at.Damaged m bytes a holds sample map outside clean =
    maps-settled g m.map.0 ask.Clock bytes a holds sample (subst (λ (n : ℕ). lease_count g < n) (sym map) (map-past g m.extent.0)) tt clean

claims-at : (g own : Geometry) (o : Outer) (space : Allocator) (place : ReserveAt) (old new : Take) (a : Answer) (leases before after holds : ℕ → Hold) (sample : Option ℕ) (end : Option SpaceEnd) →
    new.extent.0 < g.extents → old.map.0 ≡ map_at g old.extent.0 → reserve_spares place own old (reserve_ask_at place old) → Fits (reserve_ask_at place old) a →
    HoldsAs g (image_leases_after_write (reserve_ask_at place old) a leases) (image_leases_after_write (reserve_ask_at place old) a after) (after_answer sample (reserve_ask_at place old) (bytes_out (reserve_at place o space old)) a holds) →
    claiming_at place g old holds sample → reserve_moves place g old new a before after end → end ≡ None →
    claiming_at new.at g new (after_answer sample (reserve_ask_at place old) (bytes_out (reserve_at place o space old)) a holds) (sample_of a)
claims-at g own o space at.Map old new a leases before after holds sample end within map spare fits h i m none =
    spare-claims g new.at (reserve_ask_at at.Map old) new a leases before after (after_answer sample (reserve_ask_at at.Map old) (bytes_out (reserve_at at.Map o space old)) a holds) (sample_of a) end within
    (spare-settled g at.Map old (bytes_out (reserve_at at.Map o space old)) a holds sample map tt i) h m none refl
claims-at g own o space at.Write old new a leases before after holds sample end within map spare fits h i m none =
    spare-claims g new.at (reserve_ask_at at.Write old) new a leases before after (after_answer sample (reserve_ask_at at.Write old) (bytes_out (reserve_at at.Write o space old)) a holds) (sample_of a) end within
    (spare-settled g at.Write old (bytes_out (reserve_at at.Write o space old)) a holds sample map tt i) h m none refl
claims-at g own o space at.Look old new a leases before after holds sample end within map spare fits h i m none =
    spare-claims g new.at (reserve_ask_at at.Look old) new a leases before after (after_answer sample (reserve_ask_at at.Look old) (bytes_out (reserve_at at.Look o space old)) a holds) (sample_of a) end within
    (spare-settled g at.Look old (bytes_out (reserve_at at.Look o space old)) a holds sample map tt i) h m none refl
claims-at g own o space at.Damaged old new a leases before after holds sample end within map spare fits h i m none =
    spare-claims g new.at (reserve_ask_at at.Damaged old) new a leases before after (after_answer sample (reserve_ask_at at.Damaged old) (bytes_out (reserve_at at.Damaged o space old)) a holds) (sample_of a) end within
    (spare-settled g at.Damaged old (bytes_out (reserve_at at.Damaged o space old)) a holds sample map tt i) h m none refl
claims-at g own o space at.Claim old new a leases before after holds sample end within map spare fits h i m none =
    subst (λ (bs : List ℕ). claiming_at new.at g new (after_answer sample (claim_ask old.claim) bs a holds) (sample_of a)) (sym (bytes-followed (claim_rest old.claim) _ (claim-asks old.claim)))
    (claim-goes g old new a before after holds sample end m.end new.at fits spare i m none refl refl (m.goes_on none)
    (claim-holds old.claim new.claim m.end sample a holds i.sampled i.hold (m.hold fits)))

-- a reserve goes on where its claim and what was read last are
pub reserve-inside : (g : Geometry) (lent later : Lent) (old new : Reserve) (q : Ask) (a : Answer) (holds : ℕ → Hold) (sample : Option ℕ) (found : Option (ℕ × List ℕ)) (result : Option Reply) →
    old.setting.geometry ≡ g → lent.space.geometry ≡ g → SuitsReserve lent.space old.work → Some q ≡ standing (reserve_work_rest lent old) → ((space : Allocator) → SuitsReserve space old.work → reserve_spares old.work.at space.geometry old.work q) → Fits q a →
    HoldsAs g (image_leases_after_write q a later.leases) (image_leases_after_write q a (extents_of later.space)) (after_answer sample q (bytes_out (reserve_work_rest lent old)) a holds) →
    IsReserving old holds sample found → ReserveMoves old new a lent later result → result ≡ None →
    new.setting.geometry ≡ g → later.space.geometry ≡ g → SuitsReserve later.space new.work →
    IsReserving new (after_answer sample q (bytes_out (reserve_work_rest lent old)) a holds) (sample_of a) (found_by q a)
reserve-inside g lent later old new q a holds sample found result same space suits stands spare fits h i m none after kept left =
    let e = take-ask-stands lent old q stands in
    let o = outer_of old.setting lent.known.sessions in
    let bytes = bytes_out (reserve_work_rest lent old) in
    let own = reserve_ask old.work in
    let fits' = subst (λ (r : Ask). Fits r a) (sym e) fits in
    let within = left.extent in
    let claim : claiming_at new.work.at g new.work (after_answer sample own bytes a holds) (sample_of a) =
    claims-at g lent.space.geometry o lent.space old.work.at old.work new.work a later.leases (extents_of lent.space) (extents_of later.space) holds sample m.end
    (subst (λ (k : Geometry). new.work.extent.0 < k.extents) kept within) (subst (λ (k : Geometry). old.work.map.0 ≡ map_at k old.work.extent.0) space suits.map)
    (subst (λ (r : Ask). reserve_spares old.work.at lent.space.geometry old.work r) (sym e) (spare lent.space suits)) fits'
    (subst (λ (r : Ask). HoldsAs g (image_leases_after_write r a later.leases) (image_leases_after_write r a (extents_of later.space)) (after_answer sample r bytes a holds)) (sym e) h)
    (subst (λ (k : Geometry). claiming_at old.work.at k old.work holds sample) same i.claim)
    (subst (λ (k : Geometry). reserve_moves old.work.at k old.work new.work a (extents_of lent.space) (extents_of later.space) m.end) space m.extents) (m.goes_on none) in
    record {
      claim = subst (λ (k : Geometry). claiming_at new.work.at k new.work (after_answer sample q bytes a holds) (sample_of a)) (sym after)
          (subst (λ (r : Ask). claiming_at new.work.at g new.work (after_answer sample r bytes a holds) (sample_of a)) e claim);
      tells = subst (λ (k : Geometry). TellsTaken k new.work (found_by q a)) (kept ∙ sym after) (subst (λ (r : Ask). TellsTaken later.space.geometry new.work (found_by r a)) e (m.found fits' none));
    }

-- ---- the hand

-- what a reserve asks fills no block
claim-fills : (place : ClaimAt) (lease : ℕ) (c : Claim) → FillsNone (claim_ask_at place lease c)
claim-fills claim.Sample lease c = tt
claim-fills claim.Read lease c = tt
claim-fills claim.Damaged lease c = tt
claim-fills claim.Write lease c = tt
claim-fills claim.Wait lease c = tt
claim-fills claim.Reread lease c = tt
claim-fills claim.DamagedLate lease c = tt

pub reserve-fills : (place : ReserveAt) (m : Take) → FillsNone (reserve_ask_at place m)
reserve-fills at.Map m = tt
reserve-fills at.Write m = tt
reserve-fills at.Look m = tt
reserve-fills at.Claim m = claim-fills m.claim.at m.claim.number m.claim.claim
reserve-fills at.Damaged m = tt

pub reserve-hand : (g : Geometry) (lent later : Lent) (old new : Reserve) (q : Ask) (a : Answer) (holds : ℕ → Hold) (sample : Option ℕ) (found : Option (ℕ × List ℕ)) (result : Option Reply) →
    old.setting.geometry ≡ g → lent.space.geometry ≡ g → Some q ≡ standing (reserve_work_rest lent old) → IsReserving old holds sample found → IsHand g (extents_of later.space) (hand_numbers later.space) →
    ReserveMoves old new a lent later result →
    AreWithin g (hand_answered g found q (bytes_out (reserve_work_rest lent old)) a (hand_numbers lent.space))
    × (held_hand g (extents_of later.space) (hand_answered g found q (bytes_out (reserve_work_rest lent old)) a (hand_numbers lent.space)) ≡ hand_numbers later.space)
reserve-hand g lent later old new q a holds sample found result same space stands i kept m =
    let e = take-ask-stands lent old q stands in
    let o = outer_of old.setting lent.known.sessions in
    let bytes = bytes_out (reserve_work_rest lent old) in
    let tells = subst (λ (k : Geometry). TellsTaken k old.work found) (same ∙ sym space) i.tells in
    let moved = m.hand found bytes tells (take-bytes o lent.space old.work.at old.work) in
    let is : hand_numbers later.space ≡ hand_answered g found q bytes a (hand_numbers lent.space) =
    subst (λ (r : Ask). hand_numbers later.space ≡ hand_answered g found r bytes a (hand_numbers lent.space)) e
    (subst (λ (k : Geometry). hand_numbers later.space ≡ hand_answered k found (reserve_ask old.work) bytes a (hand_numbers lent.space)) space moved) in
    (subst (AreWithin g) is kept.within, ap (held_hand g (extents_of later.space)) (sym is) ∙ kept.held)
