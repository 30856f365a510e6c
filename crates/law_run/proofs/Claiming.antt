-- Attaches that claim the lease of their image.
use Rattle.std.proofs.Common.{◌≡◌, ◌≢◌, ℕ, suc, ◌+◌, ◌≤◌, ◌<◌, ◌^◌, List, [], ◌∷◌, drop, Bool, true, false, Option, Some, None, refl, ap, sym, subst, ◌∙◌, arith, inl, inr}
use Rattle.std.specs.Prelude.{if◌then◌else◌, nat_le}
use Rattle.std.specs.Str.{bytes_eq}
use Rattle.std.proofs.lemmas.Slice.Eq.{bytes_eq-Decides}
use Rattle.std.proofs.lemmas.Bool.Decides.{leb_tells}
use Rattle.plx_base.specs.declared.lease.Claim.{Claim}
use Rattle.plx_base.specs.declared.lease.LeaseName.{LeaseName}
use Rattle.plx_base.specs.declared.lease.LeaseName.TheVariants as lease
use Rattle.plx_base.specs.declared.lease.LeaseRecord.{LeaseRecord}
use Rattle.plx_base.specs.declared.numbers.SlotNo.{SlotNo}
use Rattle.plx_base.specs.declared.write_kind.WriteKind.TheVariants as kind
use Rattle.plx_commands.specs.Limits.{last_claim}
use Rattle.plx_commands.specs.declared.command.Command.TheVariants.{Attach}
use Rattle.plx_commands.specs.declared.reply.Reply.{Reply}
use Rattle.plx_commands.specs.declared.reply.Reply.TheVariants as reply
use Rattle.plx_disk.specs.declared.ask.Ask.{Ask}
use Rattle.plx_disk.specs.declared.ask.Ask.TheVariants as ask
use Rattle.plx_disk.specs.declared.ask.Answer.{Answer}
use Rattle.plx_disk.specs.declared.ask.Answer.TheVariants as answer
use Rattle.plx_gate.specs.Leases.{lease_bytes, read_lease}
use Rattle.plx_gate.proofs.Leases.{lease-only}
use Rattle.plx_geom.specs.Geometry.{Geometry, lease_count, image_lease, lease_at, descriptor_at, record_at}
use Rattle.plx_geom.proofs.Places.{image-below, lease-lease, lease-record, lease-log, lease-descriptor, lease-data, lease-map}
use Rattle.plx_rules.specs.Process.{Process, Ends}
use Rattle.plx_rules.specs.Attaching.{load_image, after_claim, claim_image}
use Rattle.plx_rules.specs.Claims.{ClaimEnd, ClaimReadFault, ClaimDamaged, claim_of, own_record, own_use, claim_in_time, reread_by, reread_process, written_process, if_expired, seen_process}
use Rattle.plx_rules.specs.Ends.{End, ends, lost_process}
use Rattle.plx_rules.specs.Hands.{is_held}
use Rattle.plx_rules.specs.Holds.{Hold, Nothing, Seen, Wrote, Waited, Held, hold_after_reread, hold_after_reading}
use Rattle.plx_rules.specs.Processes.{followed_by}
use Rattle.plx_rules.specs.Session.{Known, with_claim, nothing_known}
use Rattle.plx_rules.specs.Settings.{Setting}
use Rattle.plx_rules.specs.Times.{window, wait, term, is_expired}
use Rattle.law_run.specs.AllowedAsks.{WentOn, claim_of_lease}
use Rattle.law_run.specs.CommandLogs.{Exchange, Finished, IsIn, older_than, first_reading}
use Rattle.law_run.specs.Causes.{HasReadOutside, HasReached, IsRefused, MayFollow}
use Rattle.law_run.specs.Holdings as holdings
use Rattle.law_run.specs.Holdings.{at_first, holds_after, hold_by_log, IsUntil, is_clock, claims_in, claims_begun, IsNotHeld}
use Rattle.law_run.specs.KnownBytes.{nothing_given, given_with, given_after_command}
use Rattle.law_run.specs.Outside.{no_lease}
use Rattle.law_run.specs.Refusals.{NeedsClaim, NamesBlock, of_read, of_write, NeedsImage, of_delete, of_block}
use Rattle.law_run.specs.Busy.{unexpired, taken}
use Rattle.law_run.specs.Replies.{of_clock, of_wait, of_claim, ReadRestsOn, of_record, of_log, of_descriptor, of_data, of_image, in_image}
use Rattle.law_run.specs.Replies as replies
use Rattle.law_run.specs.Sessions.{names, attached_by, is_attached}
use Rattle.law_run.proofs.Asking.{IsFine, replied-fine}
use Rattle.law_run.proofs.Attaching.{twice, attach-one, unattached-by, right-load}
use Rattle.law_run.proofs.Detaching.{lease-apart}
use Rattle.law_run.proofs.Grown.{with-other}
use Rattle.law_run.proofs.Holding.{first-hold, first-more, claims-more, LeavesOthers, Spared, spared-first, spared-more, Course}
use Rattle.law_run.proofs.Beside.{after_clock, sight-unbusy, reread-unbusy}
use Rattle.law_run.proofs.Following.{first-follows, read-nothing, read-inside, none-unbusy}
use Rattle.law_run.proofs.Inside.{inside-lease, lease-inside}
use Rattle.law_run.proofs.OnImage.{names-own, names-only, lease-name}
use Rattle.law_run.proofs.Passed.{Passed, passed-all}
use Rattle.law_run.specs.Uses as uses
use Rattle.law_run.specs.Uses.{IsInUse, IsOfCommand}
use Rattle.plx_rules.proofs.InUse.{same-first}
use Rattle.plx_rules.specs.InUse.{InUse, IsNamedFirst}
use Rattle.law_run.proofs.Uses.{claim_block, block_second, block_found, claim_written, not-claim, of-one, no-map}
use Rattle.law_run.proofs.Rests.{KeepsHolds, rests-lost, rests-failed}
use Rattle.law_run.proofs.Right.{clock, Rests, finish, log_on, Right}
use Rattle.law_run.proofs.Runs.{HasFirst}
use Rattle.law_run.proofs.Spelled.{lease-rest}
use Rattle.plx_base.proofs.Tests.{clash}
use Rattle.law_run.proofs.ClaimRules.{bytes-other}
use Rattle.law_run.proofs.ClaimSteps.{read_of_lease, claim_write, claim_wait, after_sight, after_claiming, after_waiting, after_rereading, counts-sight, counts-claiming, counts-waiting, counts-rereading, own-limits, own-back, held-sight, held-claiming, held-waiting, held-late, held-rereading}

-- ---- refusals of an attach

no-block : (slot : SlotNo) (image v : ℕ) → ¬ NamesBlock (Attach slot) image v
no-block slot image v (of_read other is same) = let P : ⊥ = cc in P
no-block slot image v (of_write other payload is same) = let P : ⊥ = cc in P

no-image : (slot : SlotNo) (image : ℕ) → ¬ NeedsImage (Attach slot) image
no-image slot image (of_delete other is same) = let P : ⊥ = cc in P
no-image slot image (of_block vblock names) = no-block slot image vblock names

pub attach-passed : (s : Setting) (before : List Finished) (slot : SlotNo) (done : List Exchange) (n : ℕ) → (3 ≤ n → is_attached before slot.0 ≡ false) → (5 ≤ n → slot.0 < s.geometry.images) →
    (10 ≤ n → NeedsClaim s (log_on before (Attach slot) done) slot.0 → claims_begun s.geometry before < last_claim) → Passed s (log_on before (Attach slot) done) n
attach-passed s before slot done n missing within few = record {
  sessions = λ lt image needed. absurd (let P : ⊥ = cc in P);
  unattached = λ lt other is. (let same : other ≡ slot = cc in ap (λ (x : SlotNo). is_attached before x.0) same ∙ missing lt);
  in_time = λ lt one reading is. clash (is_attached before slot.0)
      (subst (λ n'. is_attached before n' ≡ true) (names-only (Attach slot) slot.0 (attach-one slot) is.image is.used) is.attached) (missing (omega (arith, lt)));
  slots = λ lt other is. (let same : slot ≡ other = cc in subst (λ (x : SlotNo). x.0 < s.geometry.images) same (within lt));
  images = λ lt image kept needs found. absurd (no-image slot image needs);
  free = λ lt other size label kept is found. absurd (let P : ⊥ = cc in P);
  blocks = λ lt image v kept names found. absurd (no-block slot image v names);
  sizes = λ lt other size label is. absurd (let P : ⊥ = cc in P);
  fresh = λ lt other size label kept is found. absurd (let P : ⊥ = cc in P);
  counted = λ lt other v payload kept count is found counts. absurd (let P : ⊥ = cc in P);
  claimed = λ lt other is needed. (let same : other ≡ slot = cc in few lt (subst (λ (x : SlotNo). NeedsClaim s (log_on before (Attach slot) done) x.0) same needed));
  room = λ lt other v payload kept count is found counts. absurd (let P : ⊥ = cc in P);
}

-- reads of a lease rest on no image's lease
rests-on-none : (g : Geometry) (number : ℕ) → number < lease_count g → (other : ℕ) → other < g.images → ¬ ReadRestsOn g (lease_at number) other
rests-on-none g number within other less (of_record is) = lease-record g number other within is
rests-on-none g number within other less (of_log is) = lease-log g number other within is
rests-on-none g number within other less (of_descriptor t lt is) = lease-descriptor g number other t within is
rests-on-none g number within other less (of_data t lt is) = lease-data g number other t within is

abbrev ends_by_clock : List Exchange → Bool
ends_by_clock [] = false
ends_by_clock (x ∷ older) = is_clock x.ask

-- a lease of which nothing is held is held until no moment
pub nothing-used : (until : ℕ) (hold : Hold) → hold ≡ Nothing → ¬ IsUntil until hold
nothing-used until hold is (holdings.wrote c e) = let P : ⊥ = cc in P
nothing-used until hold is (holdings.waited c e) = let P : ⊥ = cc in P
nothing-used until hold is (holdings.held c e) = let P : ⊥ = cc in P

written-until : (claim : Claim) (until other : ℕ) (hold : Hold) → hold ≡ Wrote claim until → IsUntil other hold → until ≡ other
written-until claim until other hold is (holdings.wrote c e) = let f : Wrote claim until ≡ Wrote c other = sym is ∙ e in cc
written-until claim until other hold is (holdings.waited c e) = absurd (let P : ⊥ = cc in P)
written-until claim until other hold is (holdings.held c e) = absurd (let P : ⊥ = cc in P)

pub waited-until : (claim : Claim) (until other : ℕ) (hold : Hold) → hold ≡ Waited claim until → IsUntil other hold → until ≡ other
waited-until claim until other hold is (holdings.wrote c e) = absurd (let P : ⊥ = cc in P)
waited-until claim until other hold is (holdings.waited c e) = let f : Waited claim until ≡ Waited c other = sym is ∙ e in cc
waited-until claim until other hold is (holdings.held c e) = absurd (let P : ⊥ = cc in P)

-- at the first reading a lease is held, or nothing of it
unheld-at-first : (attached : Bool) (reading : ℕ) (hold : Hold) → IsNotHeld (at_first attached reading hold) → at_first attached reading hold ≡ Nothing
unheld-at-first true reading Nothing none = refl
unheld-at-first true reading (Seen sample) none = refl
unheld-at-first true reading (Wrote c u) none = refl
unheld-at-first true reading (Waited c u) none = refl
unheld-at-first true reading (Held c u) none = absurd (let P : ⊥ = cc in P)
unheld-at-first false reading Nothing none = refl
unheld-at-first false reading (Seen sample) none = refl
unheld-at-first false reading (Wrote c u) none = refl
unheld-at-first false reading (Waited c u) none = refl
unheld-at-first false reading (Held c u) none = by-flag (nat_le u reading) none
  where
    by-flag : (test : Bool) → IsNotHeld (if test then Nothing else Held c u) → (if test then Nothing else Held c u) ≡ Nothing
    by-flag true none' = refl
    by-flag false none' = absurd (let P : ⊥ = cc in P)

-- ---- a claim of the lease of the image

module _ (s : Setting) (boot_small : s.boot < 2 ^ 128) (before : List Finished) (known : Known) (slot : SlotNo) (reading : ℕ) (within : slot.0 < s.geometry.images) (missing : is_attached before slot.0 ≡ false)
    (rests : Rests s before known) (few : known.claims < last_claim) (not_held : IsNotHeld (hold_by_log s before (clock reading ∷ []) (image_lease slot.0))) where
  fine : IsFine s before (Attach slot) reading
  fine done first = attach-passed s before slot done 11 (λ lt. missing) (λ lt. within) (λ lt needed. (let c = rests.claims in omega arith))

  lease-within : image_lease slot.0 < lease_count s.geometry
  lease-within = image-below s.geometry slot.0 within

  few-claims : known.claims < 2 ^ 40
  few-claims = omega (arith, few)

  -- the exchanges of the claim
  abbrev d0 : List Exchange
  d0 = clock reading ∷ []

  abbrev read_lease_of : (x : Answer) → Exchange
  read_lease_of x = read_of_lease (image_lease slot.0) x

  abbrev claims_lease : (sample : ℕ) → (x : Answer) → Exchange
  claims_lease sample x = claim_write s.boot (image_lease slot.0) known.claims sample x

  abbrev d1 : (sample : ℕ) → List Exchange
  d1 sample = clock sample ∷ d0

  abbrev d2 : (sample : ℕ) → (bytes : List ℕ) → List Exchange
  d2 sample bytes = after_sight d0 (image_lease slot.0) sample bytes

  abbrev d3 : (sample : ℕ) → (bytes : List ℕ) → List Exchange
  d3 sample bytes = after_claiming d0 s.boot (image_lease slot.0) known.claims sample bytes

  abbrev d4 : (sample : ℕ) → (bytes : List ℕ) → (reading' : ℕ) → List Exchange
  d4 sample bytes reading' = after_waiting d0 s.boot (image_lease slot.0) known.claims sample bytes reading'

  abbrev d5 : (sample : ℕ) → (bytes : List ℕ) → (reading' : ℕ) → (again : List ℕ) → List Exchange
  d5 sample bytes reading' again = after_rereading d0 s.boot (image_lease slot.0) known.claims sample bytes reading' again

  -- the leases of the other images along it
  others : (done : List Exchange) (x : Exchange) → HasFirst done → LeavesOthers slot.0 x → Spared s before done slot.0 → Spared s before (x ∷ done) slot.0
  others done x has leave spared = spared-more s before done x slot.0 has leave spared

  spared1 : (sample : ℕ) → Spared s before (d1 sample) slot.0
  spared1 sample = others d0 (clock sample) tt (λ other apart. tt) (spared-first s before reading slot.0)

  spared2 : (sample : ℕ) (x : Answer) → Spared s before (read_lease_of x ∷ d1 sample) slot.0
  spared2 sample x = others (d1 sample) (read_lease_of x) tt (λ other apart. tt) (spared1 sample)

  spared3 : (sample : ℕ) (bytes : List ℕ) → Spared s before (d3 sample bytes) slot.0
  spared3 sample bytes = others (d2 sample bytes) (claims_lease sample answer.Done) tt (λ other apart. lease-apart slot.0 other apart) (spared2 sample (answer.Bytes bytes))

  spared4 : (sample : ℕ) (bytes : List ℕ) (reading' : ℕ) → Spared s before (d4 sample bytes reading') slot.0
  spared4 sample bytes reading' = others (d3 sample bytes) (claim_wait sample reading') tt (λ other apart. tt) (spared3 sample bytes)

  spared5 : (sample : ℕ) (bytes : List ℕ) (reading' : ℕ) (x : Answer) → Spared s before (read_lease_of x ∷ d4 sample bytes reading') slot.0
  spared5 sample bytes reading' x = others (d4 sample bytes reading') (read_lease_of x) tt (λ other apart. tt) (spared4 sample bytes reading')

  -- none of them ends the command
  went1 : (sample : ℕ) → WentOn (d1 sample)
  went1 sample = (tt, (tt, tt))

  went2 : (sample : ℕ) (bytes : List ℕ) → WentOn (d2 sample bytes)
  went2 sample bytes = (tt, went1 sample)

  went3 : (sample : ℕ) (bytes : List ℕ) → WentOn (d3 sample bytes)
  went3 sample bytes = (tt, went2 sample bytes)

  went4 : (sample : ℕ) (bytes : List ℕ) (reading' : ℕ) → WentOn (d4 sample bytes reading')
  went4 sample bytes reading' = (tt, went3 sample bytes)

  went5 : (sample : ℕ) (bytes : List ℕ) (reading' : ℕ) (again : List ℕ) → WentOn (d5 sample bytes reading' again)
  went5 sample bytes reading' again = (tt, went4 sample bytes reading')

  -- how many claims began
  begun2 : (sample : ℕ) (x : Answer) → claims_in s.geometry (read_lease_of x ∷ d1 sample) ≡ 1
  begun2 sample x = counts-sight s.geometry d0 (image_lease slot.0) sample x tt lease-within

  begun3 : (sample : ℕ) (bytes : List ℕ) (x : Answer) → claims_in s.geometry (claims_lease sample x ∷ d2 sample bytes) ≡ 1
  begun3 sample bytes x = counts-claiming s.geometry d0 s.boot (image_lease slot.0) known.claims sample bytes x tt lease-within

  begun4 : (sample : ℕ) (bytes : List ℕ) (reading' : ℕ) → claims_in s.geometry (d4 sample bytes reading') ≡ 1
  begun4 sample bytes reading' = counts-waiting s.geometry d0 s.boot (image_lease slot.0) known.claims sample bytes reading' tt lease-within

  begun5 : (sample : ℕ) (bytes : List ℕ) (reading' : ℕ) (x : Answer) → claims_in s.geometry (read_lease_of x ∷ d4 sample bytes reading') ≡ 1
  begun5 sample bytes reading' x = counts-rereading s.geometry d0 s.boot (image_lease slot.0) known.claims sample bytes reading' x tt lease-within

  begun6 : (sample : ℕ) (bytes : List ℕ) (reading' : ℕ) (again : List ℕ) (last : ℕ) → claims_in s.geometry (clock last ∷ d5 sample bytes reading' again) ≡ 1
  begun6 sample bytes reading' again last = claims-more s.geometry (d5 sample bytes reading' again) (clock last) (no-map s.geometry (lease_at (image_lease slot.0)) again (λ extent at. lease-map s.geometry (image_lease slot.0) extent lease-within at)) ∙ begun5 sample bytes reading' (answer.Bytes again)

  one-more : (done : List Exchange) → claims_in s.geometry done ≡ 1 → known.claims + 1 ≡ claims_in s.geometry done + claims_begun s.geometry before
  one-more done is = let c = rests.claims in omega arith

  -- no claim was written but of its lease
  mine4 : (sample : ℕ) (bytes : List ℕ) (reading' : ℕ) (l guard : ℕ) (written : List ℕ) → IsIn (claim_written l guard written) (d4 sample bytes reading') → l ≡ image_lease slot.0
  mine4 sample bytes reading' l guard written (inl here) = absurd (not-claim _ _ refl refl here)
  mine4 sample bytes reading' l guard written (inr (inl here)) = lease-lease l (image_lease slot.0) (ap (λ (x : Exchange). claim_block x.ask) here)
  mine4 sample bytes reading' l guard written (inr (inr (inl here))) = absurd (not-claim _ _ refl refl here)
  mine4 sample bytes reading' l guard written (inr (inr (inr (inl here)))) = absurd (not-claim _ _ refl refl here)
  mine4 sample bytes reading' l guard written (inr (inr (inr (inr (inl here))))) = absurd (not-claim _ _ refl refl here)
  mine4 sample bytes reading' l guard written (inr (inr (inr (inr (inr none))))) = absurd none

  mine5 : (sample : ℕ) (bytes : List ℕ) (reading' : ℕ) (again : List ℕ) (l guard : ℕ) (written : List ℕ) → IsIn (claim_written l guard written) (d5 sample bytes reading' again) → l ≡ image_lease slot.0
  mine5 sample bytes reading' again l guard written (inl here) = absurd (not-claim _ _ refl refl here)
  mine5 sample bytes reading' again l guard written (inr there) = mine4 sample bytes reading' l guard written there

  its : (done : List Exchange) → ((l guard : ℕ) (written : List ℕ) → IsIn (claim_written l guard written) done → l ≡ image_lease slot.0) →
      (l : ℕ) → IsOfCommand s (log_on before (Attach slot) done) l → image_lease slot.0 ≡ l
  its done mine l of = of-one s (log_on before (Attach slot) done) slot.0 (names-only (Attach slot) slot.0 (attach-one slot)) mine l of

  -- what is held of the lease
  nothing-held : hold_by_log s before d0 (image_lease slot.0) ≡ Nothing
  nothing-held =
      let first = first-hold s before reading slot.0 within in
      first ∙ unheld-at-first (is_attached before slot.0) reading (holds_after s.geometry before (lease_at (image_lease slot.0))) (ap is_held (sym first) ∙ not_held)

  seen2 : (sample : ℕ) → sample < 2 ^ 48 → (bytes : List ℕ) (seen : LeaseRecord) → read_lease bytes ≡ Some seen → is_expired seen sample ≡ true →
      hold_by_log s before (d2 sample bytes) (image_lease slot.0) ≡ Seen sample
  seen2 sample small bytes seen sees expired = held-sight s boot_small before d0 tt (image_lease slot.0) known.claims few-claims sample small bytes nothing-held seen sees expired

  held3 : (sample : ℕ) (bytes : List ℕ) → sample < 2 ^ 48 → hold_by_log s before (d3 sample bytes) (image_lease slot.0) ≡ Wrote (claim_of s.boot known.claims sample) (sample + term)
  held3 sample bytes small = held-claiming s boot_small before d0 tt (image_lease slot.0) known.claims few-claims sample small bytes

  waited4 : (sample : ℕ) (bytes : List ℕ) (reading' : ℕ) → sample < 2 ^ 48 → sample + wait ≤ reading' → reading' < sample + term →
      hold_by_log s before (d4 sample bytes reading') (image_lease slot.0) ≡ Waited (claim_of s.boot known.claims sample) (sample + term)
  waited4 sample bytes reading' small past early = held-waiting s boot_small before d0 tt (image_lease slot.0) known.claims few-claims sample small bytes reading' past early

  wrote4 : (sample : ℕ) (bytes : List ℕ) (reading' : ℕ) → sample < 2 ^ 48 → sample + term ≤ reading' →
      hold_by_log s before (d4 sample bytes reading') (image_lease slot.0) ≡ Wrote (claim_of s.boot known.claims sample) (sample + term)
  wrote4 sample bytes reading' small late = held-late s boot_small before d0 tt (image_lease slot.0) known.claims few-claims sample small bytes reading' late

  held5 : (sample : ℕ) (bytes : List ℕ) (reading' : ℕ) (again : List ℕ) → sample < 2 ^ 48 → sample + wait ≤ reading' → reading' < sample + term →
      hold_by_log s before (d5 sample bytes reading' again) (image_lease slot.0)
      ≡ hold_after_reread (bytes_eq again (lease_bytes (own_record (claim_of s.boot known.claims sample)))) (Held (claim_of s.boot known.claims sample) (sample + term))
  held5 sample bytes reading' again small past early = held-rereading s boot_small before d0 tt (image_lease slot.0) known.claims few-claims sample small bytes reading' again past early

  -- ---- what may follow on its exchanges

  nothing1 : (sample : ℕ) → hold_by_log s before (d1 sample) (image_lease slot.0) ≡ Nothing
  nothing1 sample = ap (hold_after_reading sample) nothing-held

  -- the lease of an image that is named
  own-hold : (done : List Exchange) (image until : ℕ) → names (Attach slot) image ≡ true → IsUntil until (hold_by_log s before done (image_lease image)) →
      IsUntil until (hold_by_log s before done (image_lease slot.0))
  own-hold done image until named is = subst (λ i. IsUntil until (hold_by_log s before done (image_lease i))) (names-only (Attach slot) slot.0 (attach-one slot) image named) is

  no-fact : (done : List Exchange) → first_reading done ≡ Some reading → ¬ IsRefused s (log_on before (Attach slot) done)
  no-fact done first refused = passed-all s (log_on before (Attach slot) done) (fine done first) refused.0 refused.1 refused.2

  follows0 : (a : Ask) → MayFollow s (log_on before (Attach slot) d0) a
  follows0 a = first-follows s before (Attach slot) reading fine (λ image until named is. absurd (nothing-used until _ nothing-held (own-hold d0 image until named is))) a

  mine1 : (sample l guard : ℕ) (written : List ℕ) → IsIn (claim_written l guard written) (d1 sample) → l ≡ image_lease slot.0
  mine1 sample l guard written (inl here) = absurd (not-claim _ _ refl refl here)
  mine1 sample l guard written (inr (inl here)) = absurd (not-claim _ _ refl refl here)
  mine1 sample l guard written (inr (inr none)) = absurd none

  follows1 : (sample : ℕ) (a : Ask) → MayFollow s (log_on before (Attach slot) (d1 sample)) a
  follows1 sample a = (reached, read-nothing s (log_on before (Attach slot) d0) refl, no-fact (d1 sample) refl)
    where
      by-use : (one : InUse) → IsInUse s (log_on before (Attach slot) (d1 sample)) one → ⊥
      by-use one (uses.used u) =
          let same = its (d1 sample) (mine1 sample) one.lease u.of in
          nothing-used one.until _ (ap (hold_by_log s before (d1 sample)) (sym same) ∙ nothing1 sample) u.until
      by-use one (uses.unread c bytes r older below at_end waited none gone) = clash true refl (ap after_clock at_end)
      by-use one (uses.rested extent c bytes r older below at_map at_end none held) = clash true refl (ap after_clock at_end)

      reached : ¬ HasReached s (log_on before (Attach slot) (d1 sample)) sample
      reached late = by-use late.due late.used

  -- bytes of the lease that spell one
  inside : (done : List Exchange) (bytes : List ℕ) → read_lease bytes ≢ None → ¬ HasReadOutside s (log_on before (Attach slot) (read_lease_of (answer.Bytes bytes) ∷ done))
  inside done bytes some =
      read-inside s (log_on before (Attach slot) (read_lease_of (answer.Bytes bytes) ∷ done)) (lease_at (image_lease slot.0)) bytes refl (λ l less same. some)
      (λ e below same. absurd (lease-map s.geometry (image_lease slot.0) e lease-within same))
      (λ image named bad. lease-inside s.geometry _ image (image_lease slot.0) bytes lease-within some bad)

  follows2 : (sample : ℕ) (bytes : List ℕ) (seen : LeaseRecord) → read_lease bytes ≡ Some seen → is_expired seen sample ≡ true → (a : Ask) → MayFollow s (log_on before (Attach slot) (d2 sample bytes)) a
  follows2 sample bytes seen sees is a = (
    λ outside. absurd (inside (d1 sample) bytes (λ e. (let P : ⊥ = cc in P)) outside),
    λ busy. sight-unbusy s (log_on before (Attach slot) []) (d1 sample) (image_lease slot.0) sample bytes seen sees is (nothing1 sample) refl (image_lease busy.slot.0) busy.seen busy.busy,
  )

  follows4 : (sample : ℕ) (bytes : List ℕ) (reading' : ℕ) → sample < 2 ^ 48 → sample + wait ≤ reading' → reading' < sample + term → (a : Ask) →
      MayFollow s (log_on before (Attach slot) (d4 sample bytes reading')) a
  follows4 sample bytes reading' small past early a = (reached, read-nothing s (log_on before (Attach slot) (d3 sample bytes)) refl, no-fact (d4 sample bytes reading') refl)
    where
      by-use : (one : InUse) → IsInUse s (log_on before (Attach slot) (d4 sample bytes reading')) one → reading' < one.until
      by-use one (uses.used u) =
          let same = its (d4 sample bytes reading') (mine4 sample bytes reading') one.lease u.of in
          let ends = waited-until (claim_of s.boot known.claims sample) (sample + term) one.until _
          (ap (hold_by_log s before (d4 sample bytes reading')) (sym same) ∙ waited4 sample bytes reading' small past early) u.until in
          omega (arith, ends, early)
      by-use one (uses.unread c bytes' r older below at_end waited none gone) = let e : false ≡ true = ap ends_by_clock at_end in absurd (clash true refl (sym e))
      by-use one (uses.rested extent c bytes' r older below at_map at_end none held) = let e : false ≡ true = ap ends_by_clock at_end in absurd (clash true refl (sym e))

      reached : ¬ HasReached s (log_on before (Attach slot) (d4 sample bytes reading')) reading'
      reached late = let below = by-use late.due late.used in let past' = late.past in omega (arith, below, past')

  -- ---- its ends

  -- a reply that leaves no session
  unheld : (done : List Exchange) (r : Reply) → ((other : ℕ) (b : Bool) → attached_by r (Attach slot) other b ≡ b) → KeepsHolds r → Spared s before done slot.0 → claims_in s.geometry done ≡ 1 →
      Rests s (finish (Attach slot) done r ∷ before) (with_claim known)
  unheld done r none keeps spared begun =
      unattached-by s before known (with_claim known) slot missing (λ image. refl) rests done r none keeps spared (one-more done begun)

  -- a read of the lease that failed
  read-fails : (done : List Exchange) (n : ℕ) → first_reading done ≡ Some reading → Spared s before (read_lease_of answer.Fault ∷ done) slot.0 → claims_in s.geometry (read_lease_of answer.Fault ∷ done) ≡ 1 →
      Right s before (Attach slot) (read_lease_of answer.Fault ∷ done) (after_claim s (with_claim known) slot.0 ClaimReadFault) n
  read-fails done n first spared begun = (
    replied-fine s before (Attach slot) reading fine (read_lease_of answer.Fault ∷ done) (first-more done (read_lease_of answer.Fault) reading first)
        (reply.ReadFault (record { 0 = lease_at (image_lease slot.0) })) (done, refl),
    unheld (read_lease_of answer.Fault ∷ done) (reply.ReadFault (record { 0 = lease_at (image_lease slot.0) })) (λ other b. refl) (λ h. refl) spared begun,
  )

  -- bytes that are no lease
  no-lease : (done : List Exchange) (bytes : List ℕ) (last n : ℕ) → first_reading done ≡ Some reading → read_lease bytes ≡ None → Spared s before (read_lease_of (answer.Bytes bytes) ∷ done) slot.0 →
      claims_in s.geometry (clock last ∷ read_lease_of (answer.Bytes bytes) ∷ done) ≡ 1 →
      Right s before (Attach slot) (clock last ∷ read_lease_of (answer.Bytes bytes) ∷ done) (after_claim s (with_claim known) slot.0 ClaimDamaged) n
  no-lease done bytes last n first none spared begun =
      let done' = read_lease_of (answer.Bytes bytes) ∷ done in
      let block = lease_at (image_lease slot.0) in (
        replied-fine s before (Attach slot) reading fine (clock last ∷ done') (first-more done' (clock last) reading (first-more done (read_lease_of (answer.Bytes bytes)) reading first))
            (reply.Damaged (record { 0 = block }))
            (in_image (record {
              image = slot.0;
              named = names-own (Attach slot) slot.0 (attach-one slot);
              bytes = bytes;
              reading = last;
              read = inr (inl refl);
              outside = no_lease (image_lease slot.0) lease-within refl none;
              last = (done', refl);
              below = λ other less on. absurd (rests-on-none s.geometry (image_lease slot.0) lease-within other less on);
            })),
        unheld (clock last ∷ done') (reply.Damaged (record { 0 = block })) (λ other b. refl) (λ h. refl) (others done' (clock last) tt (λ other apart. tt) spared) begun,
      )

  -- the lease is held by this boot's claim
  goes-held : (sample : ℕ) (bytes : List ℕ) (reading' : ℕ) (again : List ℕ) → read_lease bytes ≢ None → read_lease again ≢ None →
      MayFollow s (log_on before (Attach slot) (d5 sample bytes reading' again)) (ask.Read (record { 0 = record_at s.geometry slot.0 })) →
      hold_by_log s before (d5 sample bytes reading' again) (image_lease slot.0) ≡ Held (claim_of s.boot known.claims sample) (sample + term) →
      Right s before (Attach slot) (d5 sample bytes reading' again) (load_image s (with_claim known) slot.0 (sample + term)) (suc (suc (twice s.geometry.slots)))
  goes-held sample bytes reading' again some some' on held =
      let c : Course = record { reading = reading; claim = claim_of s.boot known.claims sample; until = sample + term; begun = 1 } in
      right-load s before known (with_claim known) slot c within missing fine (let k = rests.claims in omega arith) (λ image. refl) rests (d5 sample bytes reading' again)
      (record {
        has = tt;
        first = refl;
        held = held;
        spared = spared5 sample bytes reading' (answer.Bytes again);
        begun = begun5 sample bytes reading' (answer.Bytes again);
        went = went5 sample bytes reading' again;
        mine = mine5 sample bytes reading' again;
        quiet = λ block found is. (
            let same : lease_at (image_lease slot.0) ≡ block = ap block_found is in (
              (λ l below at. sym (lease-lease (image_lease slot.0) l (same ∙ at))),
              (λ extent at. lease-map s.geometry (image_lease slot.0) extent lease-within (same ∙ at)),
            ));
      }) on
      (λ place. unknown place)
      (λ kept. (inside-lease s.geometry slot.0 kept (image_lease slot.0) again lease-within some', (tt, (tt, (inside-lease s.geometry slot.0 kept (image_lease slot.0) bytes lease-within some, (tt, (tt, tt)))))))
    where
      unknown : (place : ℕ) → given_after_command s.geometry slot.0 (Attach slot) (d5 sample bytes reading' again) nothing_given (descriptor_at s.geometry slot.0 place) ≡ None
      unknown place =
          let block = lease_at (image_lease slot.0) in
          let apart : descriptor_at s.geometry slot.0 place ≢ block = λ e. lease-descriptor s.geometry (image_lease slot.0) slot.0 place lease-within (sym e) in
          with-other (given_with (given_with nothing_given block bytes) block (lease_bytes (own_record (claim_of s.boot known.claims sample)))) block again (descriptor_at s.geometry slot.0 place) apart
          ∙ (with-other (given_with nothing_given block bytes) block (lease_bytes (own_record (claim_of s.boot known.claims sample))) (descriptor_at s.geometry slot.0 place) apart
          ∙ with-other nothing_given block bytes (descriptor_at s.geometry slot.0 place) apart)

  -- a reading has reached the end of the claim
  lost-name : (done : List Exchange) (until last n : ℕ) → Right s before (Attach slot) done (ends (reply.Lost (lease.Image slot) until last) (nothing_known (known.claims + 1))) n →
      Right s before (Attach slot) done (lost_process s (with_claim known) (record { lease = image_lease slot.0; until = until }) last) n
  lost-name done until last n right =
      subst (λ (name : LeaseName). Right s before (Attach slot) done (ends (reply.Lost name until last) (nothing_known (known.claims + 1))) n) (sym (lease-name s.geometry slot.0 within)) right

  -- the rest by the end of the claim's own lease
  by-own-rest : (P : Process End → Type 0) (sample last : ℕ) (rest : Process ClaimEnd) →
      (sample + term ≤ last → P (lost_process s (with_claim known) (record { lease = image_lease slot.0; until = sample + term }) last)) →
      (last < sample + term → P (followed_by rest (after_claim s (with_claim known) slot.0))) →
      P (followed_by (claim_in_time (own_use (image_lease slot.0) (claim_of s.boot known.claims sample) ∷ []) last rest) (after_claim s (with_claim known) slot.0))
  by-own-rest P sample last rest late soon = elim (leb_tells (sample + term) last) [
    | inl past ↦ rw past.0 (late past.1)
    | inr early ↦ rw early.0 (soon (omega (arith, early.1)))
  ]

  -- ---- the reread

  after-reread : (sample : ℕ) (bytes : List ℕ) (reading' : ℕ) (again : List ℕ) → sample < 2 ^ 48 → read_lease bytes ≢ None → sample + wait ≤ reading' → reading' < sample + term → (same : Bool) →
      bytes_eq again (lease_bytes (own_record (claim_of s.boot known.claims sample))) ≡ same → (found : Option LeaseRecord) → read_lease again ≡ found →
      Right s before (Attach slot) (d5 sample bytes reading' again)
      (followed_by (reread_by same (own_use (image_lease slot.0) (claim_of s.boot known.claims sample) ∷ []) (claim_of s.boot known.claims sample) found) (after_claim s (with_claim known) slot.0))
      (suc (suc (twice s.geometry.slots)))
  after-reread sample bytes reading' again small some past early true is found sees =
      let own' = claim_of s.boot known.claims sample in
      let same : again ≡ lease_bytes (own_record own') = (bytes_eq-Decides again (lease_bytes (own_record own'))).0 is in
      let spelled : read_lease again ≡ Some (own_record own') = ap read_lease same ∙ own-back s boot_small before d0 tt (image_lease slot.0) known.claims few-claims sample small again in
      goes-held sample bytes reading' again some (λ e. (let P : ⊥ = cc in P)) (
        λ outside. absurd (inside (d4 sample bytes reading') again (λ e. (let P : ⊥ = cc in P)) outside),
        λ busy. reread-unbusy s (log_on before (Attach slot) []) (d4 sample bytes reading') (image_lease slot.0) again own' (sample + term) spelled (waited4 sample bytes reading' small past early) refl
            (image_lease busy.slot.0) busy.seen busy.busy,
      ) (held5 sample bytes reading' again small past early
      ∙ ap (λ t. hold_after_reread t (Held (claim_of s.boot known.claims sample) (sample + term))) is)
  after-reread sample bytes reading' again small some past early false is (Some seen) sees =
      let own' = claim_of s.boot known.claims sample in
      let done = d5 sample bytes reading' again in
      let name = lease-name s.geometry slot.0 within in
      subst (λ (n : LeaseName). Right s before (Attach slot) done (ends (reply.Busy n seen) (with_claim known)) (suc (suc (twice s.geometry.slots)))) (sym name) (
        replied-fine s before (Attach slot) reading fine done refl (reply.Busy (lease.Image slot) seen)
            (of_image slot (names-own (Attach slot) slot.0 (attach-one slot)) (taken own' (sample + term) again (d4 sample bytes reading') refl (waited4 sample bytes reading' small past early) sees
            (λ e. bytes-other again (lease_bytes (own_record own')) is ((lease-only again seen sees).1 ∙ ap lease_bytes e)))),
        unheld done (reply.Busy (lease.Image slot) seen) (λ other b. refl) (λ h. refl) (spared5 sample bytes reading' (answer.Bytes again)) (begun5 sample bytes reading' (answer.Bytes again)),
      )
  after-reread sample bytes reading' again small some past early false is None sees = (
    ((went5 sample bytes reading' again, tt), (λ outside. refl, none-unbusy s (log_on before (Attach slot) (d5 sample bytes reading' again)) (lease_at (image_lease slot.0)) again refl sees)),
    λ last small'.
        let own' = claim_of s.boot known.claims sample in
        let until = sample + term in
        let done = d5 sample bytes reading' again in
        let n = suc (twice s.geometry.slots) in
        let P : Process End → Type 0 = λ process. Right s before (Attach slot) (clock last ∷ done) process n in
        by-own-rest P sample last (Ends ClaimDamaged) (λ late. lost-name (clock last ∷ done) until last n (
          replied-fine s before (Attach slot) reading fine (clock last ∷ done) refl (reply.Lost (lease.Image slot) until last)
              (replies.reached (record { lease = image_lease slot.0; until = until }) (sym (lease-name s.geometry slot.0 within)) refl (of_clock (done, refl)) (in-use last) late
              (λ other used le. alone last other used)),
          rests-lost s before (Attach slot) (clock last ∷ done) (lease.Image slot) until last (known.claims + 1) (one-more (clock last ∷ done) (begun6 sample bytes reading' again last)),
        ))
        (λ soon. no-lease (d4 sample bytes reading') again last n refl sees (spared5 sample bytes reading' (answer.Bytes again)) (begun6 sample bytes reading' again last)),
  )
    where
      gone : (last : ℕ) → hold_by_log s before (clock last ∷ d5 sample bytes reading' again) (image_lease slot.0) ≡ Nothing
      gone last = ap (hold_after_reading last) (held5 sample bytes reading' again small past early ∙ ap (λ t. hold_after_reread t (Held (claim_of s.boot known.claims sample) (sample + term))) is)

      in-use : (last : ℕ) → IsInUse s (log_on before (Attach slot) (clock last ∷ d5 sample bytes reading' again)) (record { lease = image_lease slot.0; until = sample + term })
      in-use last = uses.unread (claim_of s.boot known.claims sample) again last (d4 sample bytes reading') lease-within refl
          (waited4 sample bytes reading' small past early) sees (gone last)

      alone : (last : ℕ) (other : InUse) → IsInUse s (log_on before (Attach slot) (clock last ∷ d5 sample bytes reading' again)) other →
          IsNamedFirst (record { lease = image_lease slot.0; until = sample + term }) other
      alone last other (uses.used u) =
          let done = clock last ∷ d5 sample bytes reading' again in
          let same = its done (λ l guard written is'. elim is' [ inl here ↦ absurd (not-claim (clock last) (claim_written l guard written) refl refl here) | inr there ↦ mine5 sample bytes reading' again l guard written there ]) other.lease u.of in
          absurd (nothing-used other.until _ (ap (hold_by_log s before done) (sym same) ∙ gone last) u.until)
      alone last other (uses.unread c bytes' r older below at_end waited none gone') =
          let same : image_lease slot.0 ≡ other.lease = lease-lease (image_lease slot.0) other.lease (ap block_second at_end) in
          let e : d4 sample bytes reading' ≡ older = ap (λ (d : List Exchange). older_than (older_than d)) at_end in
          let w : hold_by_log s before (d4 sample bytes reading') (image_lease slot.0) ≡ Waited c other.until = (λ i. hold_by_log s before (e i) (same i)) ∙ waited in
          let u : Waited (claim_of s.boot known.claims sample) (sample + term) ≡ Waited c other.until = sym (waited4 sample bytes reading' small past early) ∙ w in
          same-first (record { lease = image_lease slot.0; until = sample + term }) other (let v : sample + term ≡ other.until = cc in v) same
      alone last other (uses.rested extent c bytes' r older below at_map at_end none held) = absurd (lease-map s.geometry (image_lease slot.0) extent lease-within (ap block_second at_end))

  -- ---- the wait

  after-wait : (sample : ℕ) (bytes : List ℕ) (reading' : ℕ) → sample < 2 ^ 48 → read_lease bytes ≢ None → sample + wait ≤ reading' →
      Right s before (Attach slot) (d4 sample bytes reading')
      (followed_by (claim_in_time (own_use (image_lease slot.0) (claim_of s.boot known.claims sample) ∷ []) reading'
      (reread_process (own_use (image_lease slot.0) (claim_of s.boot known.claims sample) ∷ []) (image_lease slot.0) (claim_of s.boot known.claims sample))) (after_claim s (with_claim known) slot.0))
      (suc (suc (suc (twice s.geometry.slots))))
  after-wait sample bytes reading' small some past =
      let own' = claim_of s.boot known.claims sample in
      let until = sample + term in
      let done = d4 sample bytes reading' in
      let n = suc (suc (suc (twice s.geometry.slots))) in
      by-own-rest (λ process. Right s before (Attach slot) done process n) sample reading' _
      (λ late. lost-name done until reading' n (
        replied-fine s before (Attach slot) reading fine done refl (reply.Lost (lease.Image slot) until reading')
            (replies.reached (record { lease = image_lease slot.0; until = until }) (sym (lease-name s.geometry slot.0 within)) refl (of_wait (sample + wait) (d3 sample bytes, refl))
            (uses.used (record { of = uses.named slot.0 within (names-own (Attach slot) slot.0 (attach-one slot)) refl; until = holdings.wrote own' (wrote4 sample bytes reading' small late) })) late
            (λ other used le. alone late other used)),
        rests-lost s before (Attach slot) done (lease.Image slot) until reading' (known.claims + 1) (one-more done (begun4 sample bytes reading')),
      ))
      (λ early. (
        ((went4 sample bytes reading', tt), follows4 sample bytes reading' small past early ask.Clock),
        λ again long. after-reread sample bytes reading' again small some past early (bytes_eq again (lease_bytes (own_record own'))) refl (read_lease again) refl,
        read-fails done (suc (suc (twice s.geometry.slots))) refl (spared5 sample bytes reading' answer.Fault) (begun5 sample bytes reading' answer.Fault),
      ))
    where
      alone : sample + term ≤ reading' → (other : InUse) → IsInUse s (log_on before (Attach slot) (d4 sample bytes reading')) other →
          IsNamedFirst (record { lease = image_lease slot.0; until = sample + term }) other
      alone late other (uses.used u) =
          let same = its (d4 sample bytes reading') (mine4 sample bytes reading') other.lease u.of in
          same-first (record { lease = image_lease slot.0; until = sample + term }) other
          (written-until (claim_of s.boot known.claims sample) (sample + term) other.until _
          (ap (hold_by_log s before (d4 sample bytes reading')) (sym same) ∙ wrote4 sample bytes reading' small late) u.until) same
      alone late other (uses.unread c bytes' r older below at_end waited none gone) =
          let e : false ≡ true = ap ends_by_clock at_end in absurd (clash true refl (sym e))
      alone late other (uses.rested extent c bytes' r older below at_map at_end none held) =
          let e : false ≡ true = ap ends_by_clock at_end in absurd (clash true refl (sym e))

  -- ---- the claim

  after-seen : (sample : ℕ) (bytes : List ℕ) → sample < 2 ^ 48 → (found : Option LeaseRecord) → read_lease bytes ≡ found →
      Right s before (Attach slot) (d2 sample bytes)
      (followed_by (seen_process [] (image_lease slot.0) (claim_of s.boot known.claims sample) found) (after_claim s (with_claim known) slot.0))
      (suc (suc (suc (suc (suc (twice s.geometry.slots))))))
  after-seen sample bytes small None sees = (
    ((went2 sample bytes, tt), (λ outside. refl, none-unbusy s (log_on before (Attach slot) (d2 sample bytes)) (lease_at (image_lease slot.0)) bytes refl sees)),
    λ last small'. no-lease (d1 sample) bytes last (suc (suc (suc (suc (twice s.geometry.slots))))) refl sees (spared2 sample (answer.Bytes bytes))
        (claims-more s.geometry (d2 sample bytes) (clock last) (no-map s.geometry (lease_at (image_lease slot.0)) bytes (λ extent at. lease-map s.geometry (image_lease slot.0) extent lease-within at)) ∙ begun2 sample (answer.Bytes bytes)),
  )
  after-seen sample bytes small (Some seen) sees = by-expired (is_expired seen sample) refl
    where
      by-expired : (test : Bool) → is_expired seen sample ≡ test →
          Right s before (Attach slot) (d2 sample bytes)
          (followed_by (if_expired test seen (written_process [] (image_lease slot.0) (claim_of s.boot known.claims sample))) (after_claim s (with_claim known) slot.0))
          (suc (suc (suc (suc (suc (twice s.geometry.slots))))))
      by-expired false is =
          subst (λ (n : LeaseName). Right s before (Attach slot) (d2 sample bytes) (ends (reply.Busy n seen) (with_claim known)) (suc (suc (suc (suc (suc (twice s.geometry.slots)))))))
          (sym (lease-name s.geometry slot.0 within)) (
            replied-fine s before (Attach slot) reading fine (d2 sample bytes) refl (reply.Busy (lease.Image slot) seen)
                (of_image slot (names-own (Attach slot) slot.0 (attach-one slot)) (unexpired sample bytes d0 refl sees is)),
            unheld (d2 sample bytes) (reply.Busy (lease.Image slot) seen) (λ other b. refl) (λ h. refl) (spared2 sample (answer.Bytes bytes)) (begun2 sample (answer.Bytes bytes)),
          )
      by-expired true is =
          let own' = claim_of s.boot known.claims sample in
          let block = lease_at (image_lease slot.0) in
          let n = suc (suc (suc (suc (twice s.geometry.slots)))) in (
            (
              (
                went2 sample bytes,
                claim_of_lease (image_lease slot.0) own' seen bytes d0 lease-within refl (ap is_held (seen2 sample small bytes seen sees is)) refl sees is refl (let c = rests.claims in omega arith)
                    (own-limits s boot_small before d0 tt (image_lease slot.0) known.claims few-claims sample small bytes) refl
                    (lease-rest (own_record own') ∙ sym (ap (drop 512) (lease-only bytes seen sees).1 ∙ lease-rest seen)) refl,
              ),
              follows2 sample bytes seen sees is _,
            ),
            (
              ((went3 sample bytes, record { lease = image_lease slot.0; claim = own'; until = sample + term; wrote = held3 sample bytes small; after = refl }), tt),
              λ reading' past small'. after-wait sample bytes reading' small (λ e. (let P : ⊥ = cc in P)) past,
            ),
            (
              replied-fine s before (Attach slot) reading fine (claims_lease sample answer.Fault ∷ d2 sample bytes) refl (reply.WriteFault (record { 0 = block }))
                  (kind.Claim, sample + window, lease_bytes (own_record own'), (d2 sample bytes, refl)),
              rests-failed s before (Attach slot) (claims_lease sample answer.Fault ∷ d2 sample bytes) (record { 0 = block }) (known.claims + 1)
                  (one-more (claims_lease sample answer.Fault ∷ d2 sample bytes) (begun3 sample bytes answer.Fault)),
            ),
            λ late past small'. lost-name (claims_lease sample (answer.Missed late) ∷ d2 sample bytes) (sample + window) late n (
              replied-fine s before (Attach slot) reading fine (claims_lease sample (answer.Missed late) ∷ d2 sample bytes) refl (reply.Lost (lease.Image slot) (sample + window) late)
                  (replies.missed kind.Claim (record { 0 = block }) (lease_bytes (own_record own')) (d2 sample bytes, refl) (of_claim refl)),
              rests-lost s before (Attach slot) (claims_lease sample (answer.Missed late) ∷ d2 sample bytes) (lease.Image slot) (sample + window) late (known.claims + 1)
                  (one-more (claims_lease sample (answer.Missed late) ∷ d2 sample bytes) (begun3 sample bytes (answer.Missed late))),
            ),
          )

  -- the lease is claimed, and the image is loaded
  pub right-claim : Right s before (Attach slot) (clock reading ∷ []) (claim_image true s known slot.0) (suc (suc (suc (suc (suc (suc (suc (twice s.geometry.slots))))))))
  right-claim = (
    (((tt, tt), tt), follows0 ask.Clock),
    λ sample small. (
      ((went1 sample, tt), follows1 sample ask.Clock),
      λ bytes long. after-seen sample bytes small (read_lease bytes) refl,
      read-fails (d1 sample) (suc (suc (suc (suc (suc (twice s.geometry.slots)))))) refl (spared2 sample answer.Fault) (begun2 sample answer.Fault),
    ),
  )
