-- Attaches, from the held lease on.
use Rattle.std.proofs.Common.{◌≡◌, ◌≢◌, ℕ, zero, suc, ◌+◌, ◌<◌, List, [], ◌∷◌, Bool, true, false, Option, Some, None, refl, ap, sym, subst, ◌∙◌, arith, inl, inr, ◌⊎◌}
use Rattle.std.specs.Prelude.{if◌then◌else◌, nat_lt}
use Rattle.plx_base.specs.declared.numbers.SlotNo.{SlotNo}
use Rattle.plx_commands.specs.declared.command.Command.TheVariants.{Attach}
use Rattle.plx_commands.specs.declared.reply.Reply.{Reply}
use Rattle.plx_commands.specs.declared.reply.Reply.TheVariants as reply
use Rattle.plx_disk.specs.declared.ask.Ask.{Ask}
use Rattle.plx_disk.specs.declared.ask.Ask.TheVariants as ask
use Rattle.plx_disk.specs.declared.ask.Answer.TheVariants as answer
use Rattle.plx_gate.specs.Descriptors.{read_descriptor}
use Rattle.plx_gate.specs.Images.{read_image}
use Rattle.plx_gate.specs.declared.descriptor.Descriptor.{Descriptor}
use Rattle.plx_gate.specs.declared.image.ImageRecord.{ImageRecord}
use Rattle.plx_geom.specs.Geometry.{Geometry, lease_count, image_lease, extents_start, record_at, descriptor_at, data_at, map_at}
use Rattle.plx_geom.proofs.Places.{record-record, record-log, record-descriptor, record-data, log-descriptor, descriptor-descriptor, data-descriptor, descriptor-below, data-below, record-map, map-descriptor, map-data}
use Rattle.plx_rules.specs.Process.{Process}
use Rattle.plx_rules.specs.Journaled.{Journaled}
use Rattle.plx_rules.specs.Attaching.{image_use, attach_ends, after_load, load_journal, after_record, load_image}
use Rattle.plx_rules.specs.Ends.{End, read_then, damaged_process}
use Rattle.plx_rules.specs.Journal.{journal_slot, Finding, Outside, Unused, Counts, finding, descriptor_of}
use Rattle.plx_rules.specs.Loading.{LoadEnd, gap_found, load_found, load_read, load_process}
use Rattle.plx_rules.specs.Processes.{followed_by}
use Rattle.plx_rules.specs.Records.{is_live, is_plain, size_of, applied_of, plain_record, attached_record}
use Rattle.plx_rules.specs.Session.{Session, Known, with_session, with_write_by_number, first_gap, session_report}
use Rattle.plx_rules.specs.Settings.{Setting}
use Rattle.plx_rules.specs.Stored.{Given, record_in, record_on, Stores, IsCounted}
use Rattle.law_run.specs.Causes.{record_alone, MayFollow}
use Rattle.law_run.specs.CommandLogs.{Exchange, Finished, IsIn}
use Rattle.law_run.specs.Holdings.{hold_by_log, is_lease_read, claims_in, claims_begun}
use Rattle.plx_rules.specs.Holds.{Held}
use Rattle.law_run.specs.KnownBytes.{nothing_given, given_with, given_after_command, known_in}
use Rattle.law_run.specs.Outside.{IsOutside, no_record, not_plain, no_descriptor, misplaced, past_size, past_gap}
use Rattle.law_run.specs.Replies.{ReadRestsOn, of_record, of_log, of_descriptor, of_data, in_image}
use Rattle.law_run.specs.Sessions.{attached_by, is_attached}
use Rattle.law_run.proofs.Asking.{IsFine, replied-fine, asks-confirm}
use Rattle.law_run.proofs.Counted.{write-counted}
use Rattle.law_run.proofs.Facts.{stored_by_session, plain-parts}
use Rattle.law_run.proofs.Grown.{with-block-same, with-other, fits-empty}
use Rattle.law_run.proofs.Holding.{first-more, claims-more, Spared, spared-more, Course, Going, going-more, reads-no-claim}
use Rattle.law_run.proofs.Following.{read-inside, past-unbusy}
use Rattle.law_run.proofs.Inside.{IsInside, AllInside, inside-of, inside-record, inside-descriptor, not-outside, alone-inside}
use Rattle.law_run.proofs.Inserted.{gap-is}
use Rattle.law_run.proofs.Loading.{Says, says, Loading, loads-first, loads-none, loads-write, loaded-fits, whole-spelled}
use Rattle.law_run.proofs.Meets.{exchange, meets-more}
use Rattle.law_run.proofs.OnImage.{NamesOne, names-own, names-other, names-only}
use Rattle.law_run.proofs.Rests.{KeepsHolds, rests-by}
use Rattle.law_run.proofs.Uses.{quiet-read}
use Rattle.law_run.proofs.Right.{read_of, clock, FitsSession, FitsAt, Rests, finish, log_on, May, Shows, Right}
use Rattle.law_run.specs.Senses.{seen_in}
use Rattle.law_run.proofs.Senses.{stores-seen}
use Rattle.plx_base.proofs.Tests.{nat_le-true, nat_le-false, lt-cases, clash, eqb-isn't}
use Rattle.plx_commands.proofs.Places.{at-other, at-same}

-- two asks a slot
abbrev pub twice : ℕ → ℕ
twice zero = zero
twice (suc n) = suc (suc (twice n))

pub twice-is : (n : ℕ) → twice n ≡ n + n
twice-is zero = refl
twice-is (suc n) = let e = twice-is n in omega arith

pub attach-one : (slot : SlotNo) → NamesOne (Attach slot) slot.0
attach-one slot = λ other. refl

-- a read past the leases begins no claim
pub no-claim : (g : Geometry) (block : ℕ) → lease_count g < block → is_lease_read g (ask.Read (record { 0 = block })) ≡ false
no-claim g block past = rw (nat_le-true 1 block (omega arith), nat_le-false block (lease_count g) past) refl

-- what a record that can't be attached is
bad-record : (bytes : List ℕ) (found : Option ImageRecord) → read_image bytes ≡ found → plain_record found ≡ None →
    (read_image bytes ≡ None) ⊎ ((kept : ImageRecord) × (read_image bytes ≡ Some kept) × (is_plain kept ≡ false))
bad-record bytes None is bad = inl is
bad-record bytes (Some kept) is bad = by-plain (is_plain kept) refl bad
  where
    by-plain : (plain : Bool) → is_plain kept ≡ plain → (if plain then Some kept else None) ≡ None →
        (read_image bytes ≡ None) ⊎ ((k : ImageRecord) × (read_image bytes ≡ Some k) × (is_plain k ≡ false))
    by-plain true e b = absurd (let P : ⊥ = cc in P)
    by-plain false e b = inr (kept, is, e)

good-record : (found : Option ImageRecord) (kept : ImageRecord) → plain_record found ≡ Some kept → (found ≡ Some kept) × (is_plain kept ≡ true)
good-record None kept is = absurd (let P : ⊥ = cc in P)
good-record (Some other) kept is = by-plain (is_plain other) refl is
  where
    by-plain : (plain : Bool) → is_plain other ≡ plain → (if plain then Some other else None) ≡ Some kept → (Some other ≡ Some kept) × (is_plain kept ≡ true)
    by-plain true e b = (b, (let same : kept ≡ other = cc in ap is_plain same ∙ e))
    by-plain false e b = absurd (let P : ⊥ = cc in P)

-- a descriptor that is found outside the format
outside-found : (g : Geometry) (given : Given) (image : ℕ) (kept : ImageRecord) (slot : ℕ) (bytes : List ℕ) → slot < g.slots → record_on g given image ≡ Some kept →
    Says kept g.slots slot (read_descriptor bytes) Outside → IsOutside g given image (descriptor_at g image slot) bytes
outside-found g given image kept slot bytes within found (inl none) = no_descriptor slot within refl none
outside-found g given image kept slot bytes within found (inr (d, is, unapplied, inl elsewhere)) =
    misplaced kept slot d within refl found is unapplied (eqb-isn't (journal_slot g.slots d.number) slot elsewhere)
outside-found g given image kept slot bytes within found (inr (d, is, unapplied, inr past)) =
    past_size kept slot d within refl found is unapplied (elim (lt-cases d.vblock (size_of kept)) [
      | inl below ↦ absurd (clash (nat_lt d.vblock (size_of kept)) below.0 past)
      | inr above ↦ above.1
    ])

no-session : (s : Setting) (before : List Finished) (image : ℕ) → is_attached before image ≡ false → (found : Option Session) → FitsAt s before image found → found ≡ None
no-session s before image missing None fits = refl
no-session s before image missing (Some session) fits = absurd (clash (is_attached before image) fits.0 missing)

-- a reply of an attach that begins no session
pub unattached-by : (s : Setting) (before : List Finished) (known next : Known) (slot : SlotNo) → is_attached before slot.0 ≡ false → ((image : ℕ) → next.sessions image ≡ known.sessions image) →
    Rests s before known → (done : List Exchange) (r : Reply) → ((other : ℕ) (b : Bool) → attached_by r (Attach slot) other b ≡ b) → KeepsHolds r → Spared s before done slot.0 →
    next.claims ≡ claims_in s.geometry done + claims_begun s.geometry before → Rests s (finish (Attach slot) done r ∷ before) next
unattached-by s before known next slot missing same rests done r none keeps spared claims =
    rests-by s before (Attach slot) done r known next slot.0 (names-other (Attach slot) slot.0 (attach-one slot)) (λ other apart. same other) (λ other b apart. none other b) keeps spared
    (subst (λ o. FitsAt s (finish (Attach slot) done r ∷ before) slot.0 o) (sym (same slot.0 ∙ no-session s before slot.0 missing (known.sessions slot.0) (rests.sessions slot.0)))
    (none slot.0 (is_attached before slot.0) ∙ missing)) claims rests

-- an attach that holds the lease of its image
module _ (s : Setting) (before : List Finished) (known next : Known) (slot : SlotNo) (c : Course) (within : slot.0 < s.geometry.images) (missing : is_attached before slot.0 ≡ false)
    (fine : IsFine s before (Attach slot) c.reading) (claims : next.claims ≡ c.begun + claims_begun s.geometry before) (same : (image : ℕ) → next.sessions image ≡ known.sessions image)
    (rests : Rests s before known) where
  -- what is known of the image
  abbrev told_now : List Exchange → Given
  told_now done = given_after_command s.geometry slot.0 (Attach slot) done nothing_given

  known-now : (done : List Exchange) → known_in s.geometry (log_on before (Attach slot) done) slot.0 ≡ told_now done
  known-now done = rw (names-own (Attach slot) slot.0 (attach-one slot), missing) refl

  -- a reply that begins no session
  pub unattached : (done : List Exchange) (r : Reply) → ((other : ℕ) (b : Bool) → attached_by r (Attach slot) other b ≡ b) → KeepsHolds r → Going s before done slot.0 c →
      Rests s (finish (Attach slot) done r ∷ before) next
  unattached done r none keeps going =
      unattached-by s before known next slot missing same rests done r none keeps going.spared (let b = going.begun in omega arith)

  -- after a read past the leases
  going-bytes : (done : List Exchange) (block : ℕ) (bytes : List ℕ) → lease_count s.geometry < block → block < extents_start s.geometry → Going s before done slot.0 c →
      Going s before (read_of block bytes ∷ done) slot.0 c
  going-bytes done block bytes past before' going =
      going-more s before done (read_of block bytes) slot.0 c tt (λ other apart. tt) (reads-no-claim s.geometry block done (no-claim s.geometry block past)) tt refl (quiet-read s.geometry slot.0 done block bytes past before') going

  -- after bytes that were read past the leases, and that are within the format as far as the record tells, any ask may follow
  reads-follow : (done : List Exchange) (block : ℕ) (bytes : List ℕ) (kept : ImageRecord) → lease_count s.geometry < block → ((extent : ℕ) → block ≢ map_at s.geometry extent) →
      IsInside s.geometry slot.0 kept block bytes → is_plain kept ≡ true → record_on s.geometry (told_now (read_of block bytes ∷ done)) slot.0 ≡ Some kept →
      (a : Ask) → MayFollow s (log_on before (Attach slot) (read_of block bytes ∷ done)) a
  reads-follow done block bytes kept past no_map inside plain found a = (
    λ outside. absurd (read-inside s (log_on before (Attach slot) done') block bytes refl (λ lease less same. absurd (omega (arith, past, less, same))) (λ extent below same. absurd (no_map extent same))
        (λ image named bad. (
        let same = names-only (Attach slot) slot.0 (attach-one slot) image named in
        let here : IsOutside s.geometry (record_alone s.geometry (known_in s.geometry (log_on before (Attach slot) done') slot.0) slot.0) slot.0 block bytes =
        subst (λ i. IsOutside s.geometry (record_alone s.geometry (known_in s.geometry (log_on before (Attach slot) done') i) i) i block bytes) same bad in
        alone-inside s.geometry (told_now done') slot.0 kept block bytes within found plain inside
        (subst (λ (g : Given). IsOutside s.geometry (record_alone s.geometry g slot.0) slot.0 block bytes) (known-now done') here))) outside),
    past-unbusy s (log_on before (Attach slot) done') slot within refl block bytes refl past,
  )
    where
      done' : List Exchange
      done' = read_of block bytes ∷ done

  -- and after any bytes the clock
  clock-follows : (done : List Exchange) (block : ℕ) (bytes : List ℕ) → lease_count s.geometry < block → MayFollow s (log_on before (Attach slot) (read_of block bytes ∷ done)) ask.Clock
  clock-follows done block bytes past = (λ outside. refl, past-unbusy s (log_on before (Attach slot) (read_of block bytes ∷ done)) slot within refl block bytes refl past)

  -- a read past the leases, which may fail
  pub asks-read : (done : List Exchange) (block : ℕ) (rest : List ℕ → Process End) (n : ℕ) → lease_count s.geometry < block → block < extents_start s.geometry → Going s before done slot.0 c →
      MayFollow s (log_on before (Attach slot) done) (ask.Read (record { 0 = block })) →
      ((bytes : List ℕ) → Going s before (read_of block bytes ∷ done) slot.0 c →
      Right s before (Attach slot) (read_of block bytes ∷ done) (rest bytes) n) →
      Right s before (Attach slot) done (read_then block next rest) (suc n)
  asks-read done block rest n past before' going on right = (
    ((going.went, tt), on),
    λ bytes long. right bytes (going-bytes done block bytes past before' going),
    (
        let x = exchange (ask.Read (record { 0 = block })) [] answer.Fault in (
          replied-fine s before (Attach slot) c.reading fine (x ∷ done) (first-more done x c.reading going.first) (reply.ReadFault (record { 0 = block })) (done, refl),
          unattached-by s before known next slot missing same rests (x ∷ done) (reply.ReadFault (record { 0 = block })) (λ other b. refl) (λ h. refl)
              (spared-more s before done x slot.0 going.has (λ other apart. tt) going.spared)
              (let more = claims-more s.geometry done x (reads-no-claim s.geometry block done (no-claim s.geometry block past)) in let b = going.begun in omega arith),
        )
        ),
  )

  -- bytes outside the format, of a block whose reads rest on the lease of the image alone
  right-damaged : (done : List Exchange) (block : ℕ) (bytes : List ℕ) → Going s before done slot.0 c → MayFollow s (log_on before (Attach slot) done) ask.Clock →
      IsIn (read_of block bytes) done → IsOutside s.geometry (told_now done) slot.0 block bytes →
      ((other : ℕ) → other < s.geometry.images → ReadRestsOn s.geometry block other → other ≡ slot.0) → (n : ℕ) →
      Right s before (Attach slot) done (damaged_process s next (image_use slot.0 c.until) block) (suc n)
  right-damaged done block bytes going on read outside own n =
      asks-confirm s before next (Attach slot) slot c (attach-one slot) within fine claims done (reply.Damaged (record { 0 = block })) next n going on
      (λ reading early after confirmed. (
        in_image (record {
          image = slot.0;
          named = names-own (Attach slot) slot.0 (attach-one slot);
          bytes = bytes;
          reading = reading;
          read = inr read;
          outside = subst (λ (g : Given). IsOutside s.geometry g slot.0 block bytes) (sym (known-now (clock reading ∷ done))) outside;
          last = (done, refl);
          below = λ other less rests'. (
              let is = own other less rests' in
              (c.until, (c.claim, subst (λ o. hold_by_log s before (clock reading ∷ done) (image_lease o) ≡ Held c.claim c.until) (sym is) after.held), early));
        }),
        unattached (clock reading ∷ done) (reply.Damaged (record { 0 = block })) (λ other b. refl) (λ h. refl) after,
      ))

  -- the attach ends with a session
  right-ends : (done : List Exchange) (session : Session) → Going s before done slot.0 c → MayFollow s (log_on before (Attach slot) done) ask.Clock → AllInside s.geometry slot.0 session.image done → FitsSession s.geometry (told_now done) slot.0 session → (n : ℕ) →
      Right s before (Attach slot) done (attach_ends s next slot.0 c.until session) (suc n)
  right-ends done session going on inside fits n =
      let r = reply.Attached (session_report session) in
      let more = with_session next slot.0 (Some session) in
      asks-confirm s before next (Attach slot) slot c (attach-one slot) within fine claims done r more n going on
      (λ reading early after confirmed.
      let here = known-now (clock reading ∷ done) in (
        λ sense any. record {
          slot = slot;
          command = refl;
          confirmed = confirmed;
          image = stored_by_session session;
          stores = subst (λ (g : Given). Stores s.geometry (seen_in sense s.geometry g) slot.0 (stored_by_session session)) (sym here)
              (stores-seen sense s.geometry (told_now done) slot.0 session fits);
          whole = refl;
          told = ap (λ n. record (session_report session) { taken = n }) (plain-parts session.image fits.plain).0;
          inside = λ block bytes there. subst (λ (g : Given). ¬ IsOutside s.geometry g slot.0 block.0 bytes) (sym here)
              (not-outside s.geometry (told_now done) slot.0 session block.0 bytes fits
              (inside-of s.geometry slot.0 session.image (ask.Read block) (answer.Bytes bytes) (clock reading ∷ done) (tt, inside) there));
        },
        rests-by s before (Attach slot) (clock reading ∷ done) r known more slot.0 (names-other (Attach slot) slot.0 (attach-one slot))
            (λ other apart. at-other next.sessions slot.0 other (Some session) apart ∙ same other) (λ other b apart. rw (names-other (Attach slot) slot.0 (attach-one slot) other apart) refl) (λ h. refl)
            after.spared
            (subst (λ o. FitsAt s (finish (Attach slot) (clock reading ∷ done) r ∷ before) slot.0 o) (sym (at-same next.sessions slot.0 (Some session)))
            (rw (names-own (Attach slot) slot.0 (attach-one slot)) refl, subst (λ (g : Given). FitsSession s.geometry g slot.0 session) (sym here) fits, (c.claim, c.until, after.held)))
            (let b = after.begun in omega arith) rests,
      ))

  -- ---- the journal

  own-descriptor : (place : ℕ) → place < s.geometry.slots → (other : ℕ) → other < s.geometry.images → ReadRestsOn s.geometry (descriptor_at s.geometry slot.0 place) other → other ≡ slot.0
  own-descriptor place below other less (of_record is) = absurd (record-descriptor s.geometry other slot.0 place less (sym is))
  own-descriptor place below other less (of_log is) = absurd (log-descriptor s.geometry other slot.0 place less (sym is))
  own-descriptor place below other less (of_descriptor t lt is) = sym (descriptor-descriptor s.geometry slot.0 other place t below lt is)
  own-descriptor place below other less (of_data t lt is) = absurd (data-descriptor s.geometry other slot.0 t place (sym is))

  module _ (kept : ImageRecord) (plain : is_plain kept ≡ true) where
    abbrev after : LoadEnd → Process End
    after = after_load s next slot.0 c.until kept

    -- all slots were read
    all-read : (done : List Exchange) (writes : List Journaled) → Going s before done slot.0 c → MayFollow s (log_on before (Attach slot) done) ask.Clock →
        Loading s.geometry (told_now done) slot.0 kept s.geometry.slots writes done → (gap : Option ℕ) → first_gap (applied_of kept) writes ≡ gap →
        Right s before (Attach slot) done (after_load s next slot.0 c.until kept (gap_found s.geometry slot.0 writes gap)) 1
    all-read done writes going on l None follows =
        right-ends done (record { image = kept; writes = writes }) going on l.inside
        (loaded-fits s.geometry (told_now done) slot.0 kept writes done within plain l follows) 0
    all-read done writes going on l (Some number) follows =
        let g = s.geometry in
        let gap = gap-is (applied_of kept) writes number l.ascending follows in
        let at = ap (journal_slot g.slots) gap.is in
        let below : journal_slot g.slots number < g.slots = (let b = l.below gap.write gap.has in omega arith) in
        let read = l.was_read (journal_slot g.slots number) below in
        right-damaged done (descriptor_at g slot.0 (journal_slot g.slots number)) read.0 going on read.1
        (past_gap kept (journal_slot g.slots gap.write.number) (descriptor_of kept gap.write) gap.missing (ap (descriptor_at g slot.0) (sym at)) l.found (l.counts gap.write gap.has)
        (record {
          above = gap.above;
          absent = λ vblock block' counted. (
              let o = l.only counted.slot counted.descriptor counted.counts in
              let n = ap (λ (e : Descriptor). e.number) o.2 in
              let same' = counted.numbered in
              let low = gap.least o.0 o.1 (omega arith) in
              let high = gap.below in
              omega arith);
          there = λ n above under. (
              let w = gap.there n above under in
              let its = data_at g slot.0 (journal_slot g.slots w.0.number) in (
                w.0.vblock,
                its,
                subst (λ m. IsCounted g (told_now done) slot.0 kept m w.0.vblock its) w.2
                    (write-counted g (told_now done) slot.0 kept (journal_slot g.slots w.0.number) (descriptor_of kept w.0) (l.counts w.0 w.1)),
              ));
        })
        (let b = gap.below in let i = gap.is in omega arith)
        (λ number' vblock its counted more. (
        let o = l.only counted.slot counted.descriptor counted.counts in
        let n = ap (λ (d : Descriptor). d.number) o.2 in
        let same' = counted.numbered in
        let least = gap.least o.0 o.1 (omega arith) in
        let i = gap.is in
        omega arith)))
        (own-descriptor (journal_slot g.slots number) below) 0

    -- the exchanges once a descriptor was read, and once its data was; and the writes with that one
    abbrev after_descriptor : (place : ℕ) → (bytes : List ℕ) → List Exchange → List Exchange
    after_descriptor place bytes done = read_of (descriptor_at s.geometry slot.0 place) bytes ∷ done

    abbrev after_data : (place : ℕ) → (bytes : List ℕ) → List Exchange → List Exchange
    after_data place bytes done = read_of (data_at s.geometry slot.0 place) bytes ∷ done

    abbrev with_read : Descriptor → (bytes : List ℕ) → List Journaled → List Journaled
    with_read d bytes writes = with_write_by_number (record { number = d.number; vblock = d.vblock; block = bytes }) writes

    -- the journal is read up to this slot, and the rest of its reading is right
    abbrev IsLoading : (place : ℕ) → List Journaled → List Exchange → Type 0
    IsLoading place writes done = Loading s.geometry (told_now done) slot.0 kept place writes done

    abbrev Loads : (left place : ℕ) → List Journaled → List Exchange → Type 0
    Loads left place writes done =
        Right s before (Attach slot) done (followed_by (load_process s.geometry slot.0 kept left place writes) (after_load s next slot.0 c.until kept)) (suc (twice left))

    loads : (left place : ℕ) (done : List Exchange) (writes : List Journaled) → left + place ≡ s.geometry.slots → Going s before done slot.0 c →
        ((a : Ask) → MayFollow s (log_on before (Attach slot) done) a) → IsLoading place writes done → Loads left place writes done
    loads zero place done writes all going on l =
        let e : place ≡ s.geometry.slots = omega arith in
        all-read done writes going (on ask.Clock) (subst (λ p. Loading s.geometry (told_now done) slot.0 kept p writes done) e l) (first_gap (applied_of kept) writes) refl
    loads (suc left) place done writes all going on l =
        let g = s.geometry in
        let block = descriptor_at g slot.0 place in
        let room : place < g.slots = omega arith in
        let given = told_now done in
        asks-read done block _ (suc (suc (twice left))) (omega arith) (let b = descriptor-below g slot.0 place within room in omega (arith, b)) going (on (ask.Read (record { 0 = block })))
        (λ bytes going1.
        let done1 = after_descriptor place bytes done in
        by-finding bytes going1 (finding kept g.slots place bytes) (says kept g.slots place (read_descriptor bytes))
        (λ none. loads left (place + 1) done1 writes (omega arith) going1
        (reads-follow done block bytes kept (omega arith) (λ extent same. map-descriptor g extent slot.0 place within room (sym same)) none.inside.0 plain none.found) none)
        (λ d data' going2 counts. loads left (place + 1) (after_data place data' done1) (with_read d data' writes) (omega arith) going2
        (reads-follow done1 (data_at g slot.0 place) data' kept (omega arith) (λ extent same. map-data g extent slot.0 place within room (sym same)) counts.inside.0 plain counts.found) counts))
      where
        by-finding : (bytes : List ℕ) → Going s before (after_descriptor place bytes done) slot.0 c → (f : Finding) → Says kept s.geometry.slots place (read_descriptor bytes) f →
            (IsLoading (place + 1) writes (after_descriptor place bytes done) → Loads left (place + 1) writes (after_descriptor place bytes done)) →
            ((d : Descriptor) (data' : List ℕ) → Going s before (after_data place data' (after_descriptor place bytes done)) slot.0 c →
            IsLoading (place + 1) (with_read d data' writes) (after_data place data' (after_descriptor place bytes done)) →
            Loads left (place + 1) (with_read d data' writes) (after_data place data' (after_descriptor place bytes done))) →
            Right s before (Attach slot) (after_descriptor place bytes done)
            (followed_by (load_found (descriptor_at s.geometry slot.0 place) f (load_process s.geometry slot.0 kept left (place + 1) writes)
            (λ number vblock. load_read (data_at s.geometry slot.0 place) (λ data'.
            load_process s.geometry slot.0 kept left (place + 1) (with_write_by_number (record { number = number; vblock = vblock; block = data' }) writes)))) (after_load s next slot.0 c.until kept))
            (suc (suc (twice left)))
        by-finding bytes going1 Outside says' none counts =
            let g = s.geometry in
            let room : place < g.slots = omega arith in
            let done1 = read_of (descriptor_at g slot.0 place) bytes ∷ done in
            let given1 = given_with (told_now done) (descriptor_at g slot.0 place) bytes in
            let found : record_on g given1 slot.0 ≡ Some kept =
            ap record_in (with-other (told_now done) (descriptor_at g slot.0 place) bytes (record_at g slot.0) (record-descriptor g slot.0 slot.0 place within)) ∙ l.found in
            right-damaged done1 (descriptor_at g slot.0 place) bytes going1 (clock-follows done (descriptor_at g slot.0 place) bytes (omega arith)) (inl refl)
            (outside-found g given1 slot.0 kept place bytes room found says') (own-descriptor place room) (suc (twice left))
        by-finding bytes going1 Unused says' none counts =
            let g = s.geometry in
            let done1 = read_of (descriptor_at g slot.0 place) bytes ∷ done in
            let whole = whole-spelled bytes says'.1.0 says'.1.1 in
            let sound = says'.2 in
            meets-more (May s before (Attach slot)) (Shows s before (Attach slot)) (followed_by (load_process g slot.0 kept left (place + 1) writes) (after_load s next slot.0 c.until kept)) done1 (suc (twice left))
            (none (loads-none g (told_now done) slot.0 kept place writes done l within (omega arith) bytes whole sound says'.0))
        by-finding bytes going1 (Counts d) says' none counts =
            let g = s.geometry in
            let done1 = read_of (descriptor_at g slot.0 place) bytes ∷ done in
            let whole = whole-spelled bytes (Some d) says'.1 in
            let sound = says'.2 in
            let found : record_on g (given_with (told_now done) (descriptor_at g slot.0 place) bytes) slot.0 ≡ Some kept =
            ap record_in (with-other (told_now done) (descriptor_at g slot.0 place) bytes (record_at g slot.0) (record-descriptor g slot.0 slot.0 place within)) ∙ l.found in
            asks-read done1 (data_at g slot.0 place) _ (suc (twice left)) (omega arith) (data-below g slot.0 place within (omega arith)) going1
            (reads-follow done (descriptor_at g slot.0 place) bytes kept (omega arith) (λ extent same. map-descriptor g extent slot.0 place within (omega arith) (sym same))
            (inside-descriptor g slot.0 kept place bytes within sound) plain found (ask.Read (record { 0 = data_at g slot.0 place })))
            (λ data' going2. counts d data' going2
            (loads-write g (told_now done) slot.0 kept place writes done l within (omega arith) bytes whole sound d says'.0 data'))

  -- ---- the record

  own-record : (other : ℕ) → other < s.geometry.images → ReadRestsOn s.geometry (record_at s.geometry slot.0) other → other ≡ slot.0
  own-record other less (of_record is) = sym (record-record s.geometry slot.0 other is)
  own-record other less (of_log is) = absurd (record-log s.geometry slot.0 other within is)
  own-record other less (of_descriptor t lt is) = absurd (record-descriptor s.geometry slot.0 other t within is)
  own-record other less (of_data t lt is) = absurd (record-data s.geometry slot.0 other t within is)

  -- the record is read, and then the journal of a live image
  pub right-load : (done : List Exchange) → Going s before done slot.0 c → MayFollow s (log_on before (Attach slot) done) (ask.Read (record { 0 = record_at s.geometry slot.0 })) →
      ((place : ℕ) → told_now done (descriptor_at s.geometry slot.0 place) ≡ None) →
      ((kept : ImageRecord) → AllInside s.geometry slot.0 kept done) → Right s before (Attach slot) done (load_image s next slot.0 c.until) (suc (suc (twice s.geometry.slots)))
  right-load done going on unknown inside =
      let g = s.geometry in
      asks-read done (record_at g slot.0) _ (suc (twice g.slots)) (omega arith) (omega (arith, within)) going on
      (λ bytes going1. by-record bytes going1 (attached_record bytes) refl)
    where
      record-now : (bytes : List ℕ) (kept : ImageRecord) → read_image bytes ≡ Some kept →
          record_on s.geometry (given_with (told_now done) (record_at s.geometry slot.0) bytes) slot.0 ≡ Some kept
      record-now bytes kept found = ap record_in (with-block-same (told_now done) (record_at s.geometry slot.0) bytes) ∙ found

      journal-unknown : (bytes : List ℕ) (place : ℕ) →
          given_with (told_now done) (record_at s.geometry slot.0) bytes (descriptor_at s.geometry slot.0 place) ≡ None
      journal-unknown bytes place =
          with-other (told_now done) (record_at s.geometry slot.0) bytes (descriptor_at s.geometry slot.0 place)
          (λ e. record-descriptor s.geometry slot.0 slot.0 place within (sym e)) ∙ unknown place

      record-follows : (bytes : List ℕ) (kept : ImageRecord) → is_plain kept ≡ true → read_image bytes ≡ Some kept →
          (a : Ask) → MayFollow s (log_on before (Attach slot) (read_of (record_at s.geometry slot.0) bytes ∷ done)) a
      record-follows bytes kept plain found =
          reads-follow done (record_at s.geometry slot.0) bytes kept (omega arith) (λ extent same. record-map s.geometry slot.0 extent within same)
          (inside-record s.geometry slot.0 kept bytes within found) plain (record-now bytes kept found)

      by-live : (bytes : List ℕ) (kept : ImageRecord) → is_plain kept ≡ true → Going s before (read_of (record_at s.geometry slot.0) bytes ∷ done) slot.0 c →
          read_image bytes ≡ Some kept → (live : Bool) → is_live kept ≡ live →
          Right s before (Attach slot) (read_of (record_at s.geometry slot.0) bytes ∷ done) (load_journal s next slot.0 c.until kept live) (suc (twice s.geometry.slots))
      by-live bytes kept plain going1 found true is =
          let g = s.geometry in
          loads kept plain g.slots 0 (read_of (record_at g slot.0) bytes ∷ done) [] (omega arith) going1 (record-follows bytes kept plain found)
          (loads-first g (given_with (told_now done) (record_at g slot.0) bytes) slot.0 kept
          (read_of (record_at g slot.0) bytes ∷ done) (record-now bytes kept found) (journal-unknown bytes) (inside-record g slot.0 kept bytes within found, inside kept))
      by-live bytes kept plain going1 found false is =
          let g = s.geometry in
          right-ends (read_of (record_at g slot.0) bytes ∷ done) (record { image = kept; writes = [] }) going1 (record-follows bytes kept plain found ask.Clock) (inside-record g slot.0 kept bytes within found, inside kept)
          (fits-empty g (given_with (told_now done) (record_at g slot.0) bytes) slot.0 kept within (record-now bytes kept found) plain (journal-unknown bytes)) (twice g.slots)

      by-record : (bytes : List ℕ) → Going s before (read_of (record_at s.geometry slot.0) bytes ∷ done) slot.0 c →
          (found : Option ImageRecord) → attached_record bytes ≡ found →
          Right s before (Attach slot) (read_of (record_at s.geometry slot.0) bytes ∷ done) (after_record s next slot.0 c.until found) (suc (twice s.geometry.slots))
      by-record bytes going1 None is =
          right-damaged (read_of (record_at s.geometry slot.0) bytes ∷ done) (record_at s.geometry slot.0) bytes going1 (clock-follows done (record_at s.geometry slot.0) bytes (omega arith)) (inl refl)
          (elim (bad-record bytes (read_image bytes) refl is) [
            | inl none ↦ no_record refl none
            | inr bad ↦ not_plain bad.0 refl bad.1 bad.2
          ]) own-record (twice s.geometry.slots)
      by-record bytes going1 (Some kept) is =
          let good = good-record (read_image bytes) kept is in by-live bytes kept good.1 going1 good.0 (is_live kept) refl
