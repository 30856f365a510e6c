-- Creates and deletes.
use Rattle.std.proofs.Common.{◌≡◌, ℕ, ◌+◌, ◌≤◌, ◌<◌, ◌^◌, List, [], ◌∷◌, drop, Bool, true, false, Some, None, refl, ap, sym, subst, ◌∙◌, arith, inl}
use Rattle.std.specs.Prelude.{not, nat_lt, nat_le}
use Rattle.plx_base.specs.Labels.{IsLabel}
use Rattle.plx_base.specs.declared.label.Label.{Label}
use Rattle.plx_base.specs.declared.lease.Claim.{Claim}
use Rattle.plx_base.specs.declared.numbers.SlotNo.{SlotNo}
use Rattle.plx_base.specs.declared.write_kind.WriteKind.TheVariants as kind
use Rattle.plx_commands.specs.Facts.{is_size, is_worn}
use Rattle.plx_commands.specs.Limits.{last_generation, greatest_size}
use Rattle.plx_commands.specs.declared.command.Command.{Command}
use Rattle.plx_commands.specs.declared.command.Command.TheVariants.{Create, Delete}
use Rattle.plx_commands.specs.declared.reply.Reply.{Reply}
use Rattle.plx_commands.specs.declared.reply.Reply.TheVariants as reply
use Rattle.plx_disk.specs.declared.ask.Ask.TheVariants as ask
use Rattle.plx_disk.specs.declared.ask.Answer.TheVariants as answer
use Rattle.plx_gate.specs.Images.{image_bytes, IsImage}
use Rattle.plx_gate.specs.declared.image.ImageRecord.{ImageRecord}
use Rattle.plx_gate.specs.declared.image.ImageRecord.TheVariants as image_is
use Rattle.plx_gate.proofs.Images.{image-back, image-only}
use Rattle.plx_geom.specs.Geometry.{Geometry, image_lease, record_at, descriptor_at, journal_start}
use Rattle.plx_geom.proofs.Places.{image-below}
use Rattle.plx_rules.specs.Commands.{create_process, delete_process, record_process, command_process}
use Rattle.plx_rules.specs.Ends.{ends_in_time}
use Rattle.plx_rules.specs.Records.{is_live, generation_of, is_plain, made_record}
use Rattle.plx_rules.specs.Session.{Session, Known, with_session, new_session}
use Rattle.plx_rules.specs.Settings.{Setting}
use Rattle.plx_rules.specs.Attaching.{image_use}
use Rattle.plx_rules.specs.Stored.{Given, record_in, record_on, Stores}
use Rattle.law_run.specs.AllowedAsks.{last_known, IsFirstSector, MayWrite, record_of_create, record_of_delete}
use Rattle.law_run.specs.CommandLogs.{Exchange, Finished, first_reading}
use Rattle.law_run.specs.KnownBytes.{given_with, without_journal, is_making, given_after, known_from, known_in, known_before}
use Rattle.law_run.specs.Refusals.{NamesBlock, of_read, of_write, NeedsImage, of_delete, of_block, no_image, exists, out_of_limits, generations}
use Rattle.law_run.specs.Replies.{IsConfirmed, refused, Comes, rests_by_log}
use Rattle.law_run.specs.Sessions.{names, attached_by}
use Rattle.law_run.proofs.Asking.{IsFine, asks-write, asks-confirm}
use Rattle.law_run.proofs.Clear.{by-unless, Clear, known-here, clear, ready-follows}
use Rattle.law_run.proofs.Facts.{stored_by_session, limits, record-spelled}
use Rattle.law_run.proofs.Grown.{with-block-same, fits-empty}
use Rattle.law_run.proofs.Holding.{Course, going-first, going-more}
use Rattle.law_run.proofs.Meets.{exchange}
use Rattle.law_run.proofs.OnImage.{OnImage, names-own, names-other, still, on-image, Ready}
use Rattle.law_run.proofs.Passed.{Passed, passed-at-most}
use Rattle.law_run.proofs.Rests.{KeepsHolds, held-after, rests-by}
use Rattle.law_run.proofs.Uses.{quiet-none}
use Rattle.law_run.proofs.Right.{clock, FitsSession, FitsAt, Rests, finish, log_on, Right, May}
use Rattle.law_run.proofs.Runs.{start, hand_start}
use Rattle.law_run.proofs.Spelled.{image-rest}
use Rattle.plx_base.proofs.Tests.{eqb-true, nat_le-true, nat_le-false, nat_le-tells, nat_le-past, nat_lt-tells, not-false, and-parts, opposite-true}
use Rattle.law_run.proofs.Unwritten.{unwritten-quiet}
use Rattle.law_run.specs.Senses.{IsAny, seen_in, Sense}
use Rattle.law_run.proofs.Senses.{stores-seen}
use Rattle.plx_commands.proofs.Places.{at-other, at-same}
use Rattle.law_lease.proofs.Rests.{home-in, record-found}

-- what is known of an image once its record was written anew
abbrev pub made_known : Geometry → (image : ℕ) → ImageRecord → Given → Given
made_known g image made given = without_journal g (given_with given (record_at g image) (image_bytes made))

record-there : (g : Geometry) (image : ℕ) (made : ImageRecord) (given : Given) → image < g.images → made_known g image made given (record_at g image) ≡ Some (image_bytes made)
record-there g image made given within = rw (nat_le-false (journal_start g) (record_at g image) (omega (arith, within))) (with-block-same given (record_at g image) (image_bytes made))

journal-gone : (g : Geometry) (image slot : ℕ) (made : ImageRecord) (given : Given) → made_known g image made given (descriptor_at g image slot) ≡ None
journal-gone g image slot made given = rw (nat_le-true (journal_start g) (descriptor_at g image slot) (omega arith)) refl

-- the session of an image that was just made fits
fits-made : (g : Geometry) (image : ℕ) (made : ImageRecord) (given : Given) → image < g.images → IsImage made → is_plain made ≡ true →
    FitsSession g (made_known g image made given) image (new_session made)
fits-made g image made given within is plain =
    fits-empty g (made_known g image made given) image made within (ap record_in (record-there g image made given within) ∙ image-back made is) plain
    (λ slot. journal-gone g image slot made given)

-- the first sector alone of a record is written
pub first-sector : (g : Geometry) (given : Given) (image : ℕ) (kept made : ImageRecord) → record_on g given image ≡ Some kept → IsImage kept → IsImage made →
    IsFirstSector given (record_at g image) (image_bytes made)
first-sector g given image kept made found is made_is =
    let r = record-spelled g given image kept found in
    image-rest made made_is ∙ sym (ap (λ o. drop 512 (last_known o)) (r.1 ∙ ap Some (image-only r.0 kept r.2).1) ∙ image-rest kept is)

-- a command that writes its image's record anew
module _ (s : Setting) (before : List Finished) (known : Known) (command : Command) (slot : SlotNo) (reading : ℕ) (on : OnImage command slot.0) (rests : Rests s before known)
    (session : Session) (claim : Claim) (until : ℕ) (ready : Ready s before known command slot reading on rests session claim until)
    (making : is_making command ≡ true) (fine : IsFine s before command reading) (made : ImageRecord) (is : IsImage made) (plain : is_plain made ≡ true)
    (r : Reply) (none : (other : ℕ) (b : Bool) → attached_by r command other b ≡ b) (keeps : KeepsHolds r) where
  written : Exchange
  written = exchange (ask.Write kind.Record (record { 0 = record_at s.geometry slot.0 }) until) (image_bytes made) answer.Done

  abbrev Learnt : Given
  Learnt = made_known s.geometry slot.0 made (given_after s.geometry before slot.0)

  known-made : (reading' : ℕ) →
      known_in s.geometry (log_on before command (clock reading' ∷ exchange (ask.Write kind.Record (record { 0 = record_at s.geometry slot.0 }) until) (image_bytes made) answer.Done ∷ clock reading ∷ [])) slot.0
      ≡ made_known s.geometry slot.0 made (given_after s.geometry before slot.0)
  known-made reading' = rw (names-own command slot.0 on.named, ready.attached, eqb-true (record_at s.geometry slot.0) (record_at s.geometry slot.0) refl, making) refl

  pub right-record : MayWrite s (log_on before command (clock reading ∷ [])) kind.Record (record_at s.geometry slot.0) (image_bytes made) until →
      ((reading' : ℕ) →
      let done = clock reading' ∷ exchange (ask.Write kind.Record (record { 0 = record_at s.geometry slot.0 }) until) (image_bytes made) answer.Done ∷ clock reading ∷ [] in
      IsConfirmed s (log_on before command done) slot.0 →
      ((sense : Sense) → Stores s.geometry (seen_in sense s.geometry (known_before s.geometry (log_on before command done) slot.0)) slot.0 (stored_by_session session)) →
      ((sense : Sense) → Stores s.geometry (seen_in sense s.geometry (known_in s.geometry (log_on before command done) slot.0)) slot.0 (stored_by_session (new_session made))) → Comes s IsAny (log_on before command done) r) →
      Right s before command (clock reading ∷ []) (record_process s known slot.0 until made r) 2
  right-record may shows =
      let x = exchange (ask.Write kind.Record (record { 0 = record_at s.geometry slot.0 }) until) (image_bytes made) answer.Done in
      let c : Course = record { reading = reading; claim = claim; until = until; begun = 0 } in
      let next = with_session known slot.0 (Some (new_session made)) in
      let going1 = going-more s before (clock reading ∷ []) x slot.0 c tt (λ other apart. tt) refl tt refl (quiet-none s.geometry slot.0 (x ∷ clock reading ∷ []) refl) (going-first s before slot.0 claim until reading ready.now) in
      asks-write (May s before command) s before known command reading fine (clock reading ∷ []) (image_lease slot.0) until kind.Record (record_at s.geometry slot.0) (image_bytes made)
      (ends_in_time s known (image_use slot.0 until) r next) 1 refl (let a = rests.claims in omega arith) (λ y e. rw e refl) (image-below s.geometry slot.0 ready.fits.within)
      (home-in (image_lease slot.0) (rests_by_log s before command (clock reading ∷ []) kind.Record (record_at s.geometry slot.0) (image_bytes made)) (ap (λ n. Some (image_lease n)) (record-found s.geometry slot.0))) (((tt, tt), may), ready-follows s before known command slot reading on rests session claim until ready fine ask.Clock)
      (asks-confirm s before known command slot c on.named ready.fits.within fine (let a = rests.claims in omega arith) (x ∷ clock reading ∷ []) r next 0 going1 tt
      (λ reading' early going confirmed.
      let done = clock reading' ∷ x ∷ clock reading ∷ [] in
      let fits = fits-made s.geometry slot.0 made (given_after s.geometry before slot.0) ready.fits.within is plain in
      let same = known-made reading' in
      let was : known_before s.geometry (log_on before command done) slot.0 ≡ given_after s.geometry before slot.0 =
      (λ j block. unwritten-quiet done (known_from s.geometry (log_on before command done) slot.0) block (tt, (tt, (tt, tt))) j)
      ∙ known-here s before known command slot reading on rests session claim until ready done in (
        shows reading' confirmed
            (λ sense. subst (λ (g : Given). Stores s.geometry (seen_in sense s.geometry g) slot.0 (stored_by_session session)) (sym was) (stores-seen sense s.geometry (given_after s.geometry before slot.0) slot.0 session ready.fits))
            (λ sense. subst (λ (g : Given). Stores s.geometry (seen_in sense s.geometry g) slot.0 (stored_by_session (new_session made))) (sym same)
            (stores-seen sense s.geometry (made_known s.geometry slot.0 made (given_after s.geometry before slot.0)) slot.0 (new_session made) fits)),
        rests-by s before command done r known next slot.0 (names-other command slot.0 on.named) (λ other apart. at-other known.sessions slot.0 other (Some (new_session made)) apart)
            (λ other b apart. none other b) keeps going.spared
            (subst (λ o. FitsAt s (finish command done r ∷ before) slot.0 o) (sym (at-same known.sessions slot.0 (Some (new_session made)))) (
              none slot.0 _ ∙ ready.attached,
              subst (λ (g : Given). FitsSession s.geometry g slot.0 (new_session made)) (sym same) fits,
              (claim, until, held-after s before command done r (image_lease slot.0) keeps ∙ going.held),
            ))
            (let a = rests.claims in let b = going.begun in omega arith) rests,
      )))

-- ---- create

on-create : (slot : SlotNo) (size : ℕ) (label : Label) → OnImage (Create slot size label) slot.0
on-create slot size label = record { named = λ other. refl; used = λ other. refl; needed = λ other. refl; no_attach = λ other is. (let P : ⊥ = cc in P) }

create-block : (slot : SlotNo) (size : ℕ) (label : Label) (image v : ℕ) → ¬ NamesBlock (Create slot size label) image v
create-block slot size label image v (of_read other is same) = let P : ⊥ = cc in P
create-block slot size label image v (of_write other payload is same) = let P : ⊥ = cc in P

create-image : (slot : SlotNo) (size : ℕ) (label : Label) (image : ℕ) → ¬ NeedsImage (Create slot size label) image
create-image slot size label image (of_delete other is same) = let P : ⊥ = cc in P
create-image slot size label image (of_block vblock names) = create-block slot size label image vblock names

create-clear : (slots : ℕ) (slot : SlotNo) (size : ℕ) (label : Label) (session : Session) (n : ℕ) → (6 ≤ n → is_live session.image ≡ false) → (7 ≤ n → is_size size ≡ true) →
    (10 ≤ n → generation_of session.image < last_generation) → Clear slots (Create slot size label) session n
create-clear slots slot size label session n free sized fresh = record {
  images = λ lt image needs. absurd (create-image slot size label image needs);
  free = λ lt other size' label' is. free lt;
  blocks = λ lt image v names. absurd (create-block slot size label image v names);
  sizes = λ lt other size' label' is. (let same : size ≡ size' = cc in ap is_size (sym same) ∙ sized lt);
  fresh = λ lt other size' label' is. fresh lt;
  counted = λ lt other v payload is. absurd (let P : ⊥ = cc in P);
  room = λ lt other v payload is. absurd (let P : ⊥ = cc in P);
}

free-is : (kept : ImageRecord) → is_live kept ≡ false → kept ≡ image_is.Free (generation_of kept)
free-is (image_is.Free generation) dead = refl
free-is (image_is.Live live) dead = cc

size-parts : (size : ℕ) → is_size size ≡ true → (0 < size) × (size ≤ greatest_size)
size-parts size is = let both = and-parts (nat_lt 0 size) (nat_le size greatest_size) is in (nat_lt-tells 0 size both.0, nat_le-tells size greatest_size both.1)

right-create : (s : Setting) (before : List Finished) (known : Known) (slot : SlotNo) (size : ℕ) (label : Label) (reading : ℕ) (rests : Rests s before known) → IsLabel label →
    (session : Session) (claim : Claim) (until : ℕ) → Ready s before known (Create slot size label) slot reading (on-create slot size label) rests session claim until →
    Right s before (Create slot size label) (clock reading ∷ []) (create_process s known slot.0 size label session until) 2
right-create s before known slot size label reading rests labelled session claim until ready =
    let command = Create slot size label in
    let on = on-create slot size label in
    let log = log_on before command (clock reading ∷ []) in
    let here = known-here s before known command slot reading on rests session claim until ready in
    let known1 : known_in s.geometry log slot.0 ≡ given_after s.geometry before slot.0 = rw (names-own command slot.0 on.named, ready.attached) refl in
    let found = ap (λ (g : Given). record_on s.geometry g slot.0) (here (clock reading ∷ [])) ∙ ready.fits.found in
    let found1 = ap (λ (g : Given). record_on s.geometry g slot.0) known1 ∙ ready.fits.found in
    let generation = generation_of session.image in
    let place : (n : ℕ) → (6 ≤ n → is_live session.image ≡ false) → (7 ≤ n → is_size size ≡ true) → (10 ≤ n → generation < last_generation) → (done : List Exchange) → first_reading done ≡ Some reading →
    Passed s (log_on before command done) n =
    λ n free sized fresh done first. clear s before known command slot reading on rests session claim until ready done n first (create-clear s.geometry.slots slot size label session n free sized fresh) in
    by-unless (λ process. Right s before command (clock reading ∷ []) process 2) (is_live session.image) reply.Exists known _
    (λ live. (
      refused 5 (reading, refl) (exists slot size label session.image refl found live)
          (λ p other refuses. passed-at-most s log 5 p other (place 5 (λ lt. absurd (omega arith)) (λ lt. absurd (omega arith)) (λ lt. absurd (omega arith)) (clock reading ∷ []) refl) refuses),
      still s before known command slot reading on rests reply.Exists (λ other b. refl) (λ h. refl),
    ))
    (λ free. by-unless (λ process. Right s before command (clock reading ∷ []) process 2) (not (is_size size)) (reply.OutOfRange greatest_size) known _
    (λ wrong. (
      refused 6 (reading, refl) (out_of_limits slot size label refl ready.attached (opposite-true (is_size size) wrong))
          (λ p other refuses. passed-at-most s log 6 p other (place 6 (λ lt. free) (λ lt. absurd (omega arith)) (λ lt. absurd (omega arith)) (clock reading ∷ []) refl) refuses),
      still s before known command slot reading on rests (reply.OutOfRange greatest_size) (λ other b. refl) (λ h. refl),
    ))
    (λ sized. by-unless (λ process. Right s before command (clock reading ∷ []) process 2) (is_worn last_generation generation) (reply.WornOut last_generation) known _
    (λ worn. (
      refused 9 (reading, refl) (generations slot size label session.image refl found (nat_le-tells last_generation generation worn))
          (λ p other refuses. passed-at-most s log 9 p other (place 9 (λ lt. free) (λ lt. not-false (is_size size) sized) (λ lt. absurd (omega arith)) (clock reading ∷ []) refl) refuses),
      still s before known command slot reading on rests (reply.WornOut last_generation) (λ other b. refl) (λ h. refl),
    ))
    (λ fresh.
    let below = nat_le-past last_generation generation fresh in
    let good = not-false (is_size size) sized in
    let sizes = size-parts size good in
    let made = made_record (generation + 1) size label in
    let is : IsImage made = record {
      generation_low = omega arith;
      generation_high = omega (arith, below);
      size_low = sizes.0;
      size_high = sizes.1;
      taken_high = omega arith;
      root_pointer = inl refl;
      applied_high = omega arith;
      label_is = labelled;
    } in
    right-record s before known command slot reading on rests session claim until ready refl
    (place 11 (λ lt. free) (λ lt. good) (λ lt. below)) made is refl reply.Created (λ other b. refl) (λ h. refl)
    (record_of_create slot size label generation refl (claim, ready.now) refl (found1 ∙ ap Some (free-is session.image free)) is refl
    (first-sector s.geometry (known_in s.geometry log slot.0) slot.0 session.image made found1 (limits s.geometry (given_after s.geometry before slot.0) slot.0 session ready.fits) is))
    (λ reading' confirmed before' after sense any. record {
      slot = slot;
      size = size;
      label = label;
      command = refl;
      confirmed = confirmed;
      image = stored_by_session session;
      free = free;
      before = before' sense;
      after = after sense;
    }))))

pub create-begins : (s : Setting) (before : List Finished) (known : Known) (slot : SlotNo) (size : ℕ) (label : Label) (reading : ℕ) → Rests s before known → IsLabel label →
    Right s before (Create slot size label) (clock reading ∷ []) (command_process s known (start s before reading) (hand_start s before reading) reading (Create slot size label)) 2
create-begins s before known slot size label reading rests labelled =
    on-image s before known (Create slot size label) slot reading (on-create slot size label) rests 2 (create_process s known slot.0 size label)
    (λ session claim until ready. right-create s before known slot size label reading rests labelled session claim until ready)

-- ---- delete

on-delete : (slot : SlotNo) → OnImage (Delete slot) slot.0
on-delete slot = record { named = λ other. refl; used = λ other. refl; needed = λ other. refl; no_attach = λ other is. (let P : ⊥ = cc in P) }

delete-block : (slot : SlotNo) (image v : ℕ) → ¬ NamesBlock (Delete slot) image v
delete-block slot image v (of_read other is same) = let P : ⊥ = cc in P
delete-block slot image v (of_write other payload is same) = let P : ⊥ = cc in P

delete-clear : (slots : ℕ) (slot : SlotNo) (session : Session) (n : ℕ) → (5 ≤ n → is_live session.image ≡ true) → Clear slots (Delete slot) session n
delete-clear slots slot session n live = record {
  images = λ lt image needs. live lt;
  free = λ lt other size label is. absurd (let P : ⊥ = cc in P);
  blocks = λ lt image v names. absurd (delete-block slot image v names);
  sizes = λ lt other size label is. absurd (let P : ⊥ = cc in P);
  fresh = λ lt other size label is. absurd (let P : ⊥ = cc in P);
  counted = λ lt other v payload is. absurd (let P : ⊥ = cc in P);
  room = λ lt other v payload is. absurd (let P : ⊥ = cc in P);
}

-- a record's generation is within its limits
generation-below : (kept : ImageRecord) → IsImage kept → generation_of kept < 2 ^ 32
generation-below (image_is.Free generation) is = is
generation-below (image_is.Live live) is = is.generation_high

right-delete : (s : Setting) (before : List Finished) (known : Known) (slot : SlotNo) (reading : ℕ) (rests : Rests s before known) (session : Session) (claim : Claim) (until : ℕ) →
    Ready s before known (Delete slot) slot reading (on-delete slot) rests session claim until →
    Right s before (Delete slot) (clock reading ∷ []) (delete_process s known slot.0 session until) 2
right-delete s before known slot reading rests session claim until ready =
    let command = Delete slot in
    let on = on-delete slot in
    let log = log_on before command (clock reading ∷ []) in
    let here = known-here s before known command slot reading on rests session claim until ready in
    let known1 : known_in s.geometry log slot.0 ≡ given_after s.geometry before slot.0 = rw (names-own command slot.0 on.named, ready.attached) refl in
    let found = ap (λ (g : Given). record_on s.geometry g slot.0) (here (clock reading ∷ [])) ∙ ready.fits.found in
    let found1 = ap (λ (g : Given). record_on s.geometry g slot.0) known1 ∙ ready.fits.found in
    let place : (n : ℕ) → (5 ≤ n → is_live session.image ≡ true) → (done : List Exchange) → first_reading done ≡ Some reading → Passed s (log_on before command done) n =
    λ n live done first. clear s before known command slot reading on rests session claim until ready done n first (delete-clear s.geometry.slots slot session n live) in
    by-unless (λ process. Right s before command (clock reading ∷ []) process 2) (not (is_live session.image)) reply.NoImage known _
    (λ dead. (
      refused 4 (reading, refl) (no_image slot.0 session.image (of_delete slot refl refl) found (opposite-true (is_live session.image) dead))
          (λ p other refuses. passed-at-most s log 4 p other (place 4 (λ lt. absurd (omega arith)) (clock reading ∷ []) refl) refuses),
      still s before known command slot reading on rests reply.NoImage (λ other b. refl) (λ h. refl),
    ))
    (λ alive.
    let live = not-false (is_live session.image) alive in
    let is = limits s.geometry (given_after s.geometry before slot.0) slot.0 session ready.fits in
    let made = image_is.Free (generation_of session.image) in
    let made_is : IsImage made = generation-below session.image is in
    right-record s before known command slot reading on rests session claim until ready refl
    (place 11 (λ lt. live)) made made_is refl reply.Deleted (λ other b. refl) (λ h. refl)
    (record_of_delete slot session.image refl (claim, ready.now) refl found1 live made_is refl
    (first-sector s.geometry (known_in s.geometry log slot.0) slot.0 session.image made found1 is made_is))
    (λ reading' confirmed before' after sense any. record {
      slot = slot;
      command = refl;
      confirmed = confirmed;
      image = stored_by_session session;
      live = live;
      before = before' sense;
      after = after sense;
    }))

pub delete-begins : (s : Setting) (before : List Finished) (known : Known) (slot : SlotNo) (reading : ℕ) → Rests s before known →
    Right s before (Delete slot) (clock reading ∷ []) (command_process s known (start s before reading) (hand_start s before reading) reading (Delete slot)) 2
delete-begins s before known slot reading rests =
    on-image s before known (Delete slot) slot reading (on-delete slot) rests 2 (delete_process s known slot.0)
    (λ session claim until ready. right-delete s before known slot reading rests session claim until ready)
