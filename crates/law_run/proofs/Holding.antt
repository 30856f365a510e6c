-- What is held along the exchanges of a command.
use Rattle.std.proofs.Common.{◌≡◌, ◌≢◌, ℕ, ◌+◌, ◌-◌, ◌<◌, List, [], ◌∷◌, Bool, true, false, Option, Some, refl, ap, sym, ◌∙◌, arith, inl, inr}
use Rattle.std.specs.Prelude.{if◌then◌else◌}
use Rattle.std.proofs.lemmas.Bool.Decides.{eqb_tells, leb_tells}
use Rattle.plx_base.specs.declared.lease.Claim.{Claim}
use Rattle.plx_base.specs.declared.write_kind.WriteKind.{WriteKind}
use Rattle.plx_base.specs.declared.write_kind.WriteKind.TheVariants as kind
use Rattle.plx_disk.specs.declared.ask.Ask.{Ask}
use Rattle.plx_disk.specs.declared.ask.Ask.TheVariants as ask
use Rattle.plx_disk.specs.declared.ask.Answer.{Answer}
use Rattle.plx_disk.specs.declared.ask.Answer.TheVariants as answer
use Rattle.plx_geom.specs.Geometry.{Geometry, image_lease, lease_at}
use Rattle.plx_commands.specs.Places.{at}
use Rattle.plx_rules.specs.Holds.{Hold, Nothing, Seen, Wrote, Waited, Held, after_answer, after_write, hold_after_read, hold_after_reading}
use Rattle.plx_rules.specs.Settings.{Setting}
use Rattle.law_run.specs.AllowedAsks.{GoesOn, WentOn}
use Rattle.law_run.specs.CommandLogs.{Exchange, Finished, IsIn, first_reading}
use Rattle.law_run.specs.Holdings.{lease_attached, at_first, holds_along, holds_after, hold_by_log, is_lease_read, claims_in, begins_claim}
use Rattle.law_run.specs.Sessions.{is_attached}
use Rattle.law_run.proofs.Right.{clock, IsHeld}
use Rattle.law_run.proofs.Runs.{HasFirst, last_sample, along-more}
use Rattle.law_run.proofs.Uses.{claims_at, claim_written, not-claim, IsQuiet, quiet-none, quiet-unfound}
use Rattle.plx_base.proofs.Tests.{nat_le-true, nat_lt-true}
use Rattle.plx_commands.proofs.Places.{at-other}

-- an exchange leaves a lease held in this block: it is no write that failed or was missed, and no claim, renewal or release of it
abbrev pub LeavesHeld : (block : ℕ) → Ask → Answer → Type 0
LeavesHeld block (ask.Write k b guard) answer.Fault = ⊥
LeavesHeld block (ask.Write k b guard) (answer.Missed reading) = ⊥
LeavesHeld block (ask.Write kind.Claim b guard) answer.Done = block ≢ b.0
LeavesHeld block (ask.Write kind.Renew b guard) answer.Done = block ≢ b.0
LeavesHeld block (ask.Write kind.Release b guard) answer.Done = block ≢ b.0
LeavesHeld block a x = Unit {0}

leaves-write : (k : WriteKind) (b guard : ℕ) (bytes : List ℕ) (holds : ℕ → Hold) (block : ℕ) (claim : Claim) (until : ℕ) →
    LeavesHeld block (ask.Write k (record { 0 = b }) guard) answer.Done → holds block ≡ Held claim until → after_write k b bytes holds block ≡ Held claim until
leaves-write kind.Claim b guard bytes holds block claim until apart held = at-other holds b block _ apart ∙ held
leaves-write kind.Renew b guard bytes holds block claim until apart held = at-other holds b block _ apart ∙ held
leaves-write kind.Release b guard bytes holds block claim until apart held = at-other holds b block _ apart ∙ held
leaves-write k b guard bytes holds block claim until apart held = held

shown-stays-held : (sample : Option ℕ) (found : List ℕ) (holds : ℕ → Hold) (b block : ℕ) (claim : Claim) (until : ℕ) → holds block ≡ Held claim until →
    at holds b (hold_after_read sample found (holds b)) block ≡ Held claim until
shown-stays-held sample found holds b block claim until held = elim (eqb_tells block b) [
  | inl same ↦ rw same.0 (ap (λ n. hold_after_read sample found (holds n)) (sym same.1) ∙ ap (hold_after_read sample found) held)
  | inr other ↦ rw other.0 held
]

pub answer-leaves : (sample : Option ℕ) (a : Ask) (bytes : List ℕ) (x : Answer) (holds : ℕ → Hold) (block : ℕ) (claim : Claim) (until : ℕ) →
    LeavesHeld block a x → holds block ≡ Held claim until → after_answer sample a bytes x holds block ≡ Held claim until
answer-leaves sample (ask.Read b) bytes (answer.Bytes found) holds block claim until leave held = shown-stays-held sample found holds b.0 block claim until held
answer-leaves sample (ask.Read b) bytes (answer.Reading reading) holds block claim until leave held = ap (hold_after_reading reading) held
answer-leaves sample (ask.Read b) bytes x holds block claim until leave held = held
answer-leaves sample (ask.Write k b guard) bytes answer.Done holds block claim until leave held = leaves-write k b.0 guard bytes holds block claim until leave held
answer-leaves sample (ask.Write k b guard) bytes answer.Fault holds block claim until leave held = absurd leave
answer-leaves sample (ask.Write k b guard) bytes (answer.Missed reading) holds block claim until leave held = absurd leave
answer-leaves sample (ask.Write k b guard) bytes (answer.Reading reading) holds block claim until leave held = ap (hold_after_reading reading) held
answer-leaves sample (ask.Write k b guard) bytes (answer.Bytes found) holds block claim until leave held = held
answer-leaves sample ask.Clock bytes (answer.Reading reading) holds block claim until leave held = ap (hold_after_reading reading) held
answer-leaves sample ask.Clock bytes x holds block claim until leave held = held
answer-leaves sample (ask.Until from) bytes (answer.Reading reading) holds block claim until leave held = ap (hold_after_reading reading) held
answer-leaves sample (ask.Until from) bytes x holds block claim until leave held = held

-- a lease that is held stays so
pub hold-stays : (s : Setting) (before : List Finished) (done : List Exchange) (x : Exchange) (lease : ℕ) (claim : Claim) (until : ℕ) → HasFirst done →
    LeavesHeld (lease_at lease) x.ask x.answer → hold_by_log s before done lease ≡ Held claim until → hold_by_log s before (x ∷ done) lease ≡ Held claim until
hold-stays s before done x lease claim until has leave held =
    ap (λ (h : ℕ → Hold). h (lease_at lease)) (along-more s.geometry (is_attached before) (holds_after s.geometry before) x done has)
    ∙ answer-leaves (last_sample done) x.ask x.bytes x.answer (holds_along s.geometry (is_attached before) (holds_after s.geometry before) done) (lease_at lease) claim until leave held

-- ---- the first reading

-- the block of an image's lease tells whether the image is attached
pub lease-attached : (g : Geometry) (attached : ℕ → Bool) (image : ℕ) → image < g.images → lease_attached g attached (lease_at (image_lease image)) ≡ attached image
lease-attached g attached image within =
    let back : lease_at (image_lease image) - 2 ≡ image = omega arith in
    rw (nat_le-true 2 (lease_at (image_lease image)) (omega arith), nat_lt-true (lease_at (image_lease image)) (2 + g.images) (omega (arith, within))) (ap attached back)

-- what the first reading leaves of an image's lease
pub first-hold : (s : Setting) (before : List Finished) (reading image : ℕ) → image < s.geometry.images →
    hold_by_log s before (clock reading ∷ []) (image_lease image) ≡ at_first (is_attached before image) reading (holds_after s.geometry before (lease_at (image_lease image)))
first-hold s before reading image within =
    ap (λ test. at_first test reading (holds_after s.geometry before (lease_at (image_lease image)))) (lease-attached s.geometry (is_attached before) image within)

-- a session's lease is held as before
pub hold-after-first : (s : Setting) (before : List Finished) (reading image : ℕ) (claim : Claim) (until : ℕ) → image < s.geometry.images → is_attached before image ≡ true →
    holds_after s.geometry before (lease_at (image_lease image)) ≡ Held claim until → hold_by_log s before (clock reading ∷ []) (image_lease image) ≡ Held claim until
hold-after-first s before reading image claim until within attached held =
    first-hold s before reading image within
    ∙ (ap (λ test. at_first test reading (holds_after s.geometry before (lease_at (image_lease image)))) attached ∙ ap (at_first true reading) held)

-- a lease without a session that is held after the first reading ends later
pub unattached-early : (reading : ℕ) (hold : Hold) (claim : Claim) (until : ℕ) → at_first false reading hold ≡ Held claim until → reading < until
unattached-early reading Nothing claim until is = absurd (let P : ⊥ = cc in P)
unattached-early reading (Seen sample) claim until is = absurd (let P : ⊥ = cc in P)
unattached-early reading (Wrote c u) claim until is = absurd (let P : ⊥ = cc in P)
unattached-early reading (Waited c u) claim until is = absurd (let P : ⊥ = cc in P)
unattached-early reading (Held c u) claim until is = elim (leb_tells u reading) [
  | inl past ↦ absurd (let e : Nothing ≡ Held claim until = sym (ap (λ test. if test then Nothing else Held c u) past.0) ∙ is in let P : ⊥ = cc in P)
  | inr early ↦
      let e : Held c u ≡ Held claim until = sym (ap (λ test. if test then Nothing else Held c u) early.0) ∙ is in
      let same : u ≡ until = cc in
      omega (arith, early.1, same)
]

-- ---- the leases of the other sessions

-- the leases of all other attached images are still held
abbrev pub Spared : Setting → List Finished → List Exchange → (image : ℕ) → Type 0
Spared s before done image = (other : ℕ) → other ≢ image → other < s.geometry.images → is_attached before other ≡ true →
    IsHeld (holds_after s.geometry before (lease_at (image_lease other))) → IsHeld (hold_by_log s before done (image_lease other))

-- an exchange leaves them held
abbrev pub LeavesOthers : (image : ℕ) → Exchange → Type 0
LeavesOthers image x = (other : ℕ) → other ≢ image → LeavesHeld (lease_at (image_lease other)) x.ask x.answer

pub spared-first : (s : Setting) (before : List Finished) (reading image : ℕ) → Spared s before (clock reading ∷ []) image
spared-first s before reading image other ne within attached held =
    (held.0, held.1, hold-after-first s before reading other held.0 held.1 within attached held.2)

pub spared-more : (s : Setting) (before : List Finished) (done : List Exchange) (x : Exchange) (image : ℕ) → HasFirst done → LeavesOthers image x →
    Spared s before done image → Spared s before (x ∷ done) image
spared-more s before done x image has leave spared other ne within attached held =
    let old = spared other ne within attached held in
    (old.0, old.1, hold-stays s before done x (image_lease other) old.0 old.1 has (leave other ne) old.2)

-- ---- along a command whose image's lease is held

-- what stays the same along a command: its first reading, the claim and the end of its image's lease, and how many claims it began
pub record Course : Type 0 where
  pub reading : ℕ
  pub claim : Claim
  pub until : ℕ
  pub begun : ℕ

-- exchanges along which they do, and along which the leases of the other attached images are still held
pub record Going (s : Setting) (before : List Finished) (done : List Exchange) (image : ℕ) (c : Course) : Type 0 where
  pub has : HasFirst done
  pub first : first_reading done ≡ Some c.reading
  pub held : hold_by_log s before done (image_lease image) ≡ Held c.claim c.until
  pub spared : Spared s before done image
  pub begun : claims_in s.geometry done ≡ c.begun
  pub went : WentOn done
  pub mine : (l guard : ℕ) (bytes : List ℕ) → IsIn (claim_written l guard bytes) done → l ≡ image_lease image
  pub quiet : IsQuiet s.geometry image done

pub going-first : (s : Setting) (before : List Finished) (image : ℕ) (claim : Claim) (until reading : ℕ) → hold_by_log s before (clock reading ∷ []) (image_lease image) ≡ Held claim until →
    Going s before (clock reading ∷ []) image (record { reading = reading; claim = claim; until = until; begun = 0 })
going-first s before image claim until reading held = record {
  has = tt;
  first = refl;
  held = held;
  spared = spared-first s before reading image;
  begun = refl;
  went = (tt, tt);
  mine = λ l guard bytes is. elim is [ inl here ↦ absurd (not-claim (clock reading) (claim_written l guard bytes) refl refl here) | inr none ↦ absurd none ];
  quiet = quiet-none s.geometry image (clock reading ∷ []) refl;
}

pub first-more : (done : List Exchange) (x : Exchange) (reading : ℕ) → first_reading done ≡ Some reading → first_reading (x ∷ done) ≡ Some reading
first-more done x reading first = rw first refl

-- an exchange that begins no claim leaves their number
pub claims-more : (g : Geometry) (done : List Exchange) (x : Exchange) → begins_claim g x.ask done ≡ false → claims_in g (x ∷ done) ≡ claims_in g done
claims-more g done x none = rw none (omega arith)

-- the read of a block that is no lease begins none
pub reads-no-claim : (g : Geometry) (block : ℕ) (done : List Exchange) → is_lease_read g (ask.Read (record { 0 = block })) ≡ false →
    begins_claim g (ask.Read (record { 0 = block })) done ≡ false
reads-no-claim g block done none = rw none refl

pub going-more : (s : Setting) (before : List Finished) (done : List Exchange) (x : Exchange) (image : ℕ) (c : Course) →
    LeavesHeld (lease_at (image_lease image)) x.ask x.answer → LeavesOthers image x → begins_claim s.geometry x.ask done ≡ false → GoesOn x.answer →
    claims_at x.ask ≡ false → IsQuiet s.geometry image (x ∷ done) → Going s before done image c → Going s before (x ∷ done) image c
going-more s before done x image c leave others none on unclaimed quiet g = record {
  has = tt;
  first = first-more done x c.reading g.first;
  held = hold-stays s before done x (image_lease image) c.claim c.until g.has leave g.held;
  spared = spared-more s before done x image g.has others g.spared;
  begun = claims-more s.geometry done x none ∙ g.begun;
  went = (on, g.went);
  mine = λ l guard bytes is. elim is [
    | inl here ↦ absurd (not-claim x (claim_written l guard bytes) unclaimed refl here)
    | inr there ↦ g.mine l guard bytes there
  ];
  quiet = quiet;
}

-- one more reading of the clock
pub going-clock : (s : Setting) (before : List Finished) (done : List Exchange) (reading image : ℕ) (c : Course) → Going s before done image c →
    Going s before (clock reading ∷ done) image c
going-clock s before done reading image c g = going-more s before done (clock reading) image c tt (λ other ne. tt) (quiet-unfound s.geometry image done g.quiet) tt refl (quiet-none s.geometry image (clock reading ∷ done) refl) g
