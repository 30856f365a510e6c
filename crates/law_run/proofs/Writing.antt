-- Writes.
use Rattle.std.proofs.Common.{◌≡◌, ℕ, ◌+◌, ◌≤◌, ◌<◌, ◌^◌, List, [], ◌∷◌, length, drop, Bool, true, false, Some, refl, ap, sym, subst, ◌∙◌, arith, inl, length-append}
use Rattle.std.specs.Prelude.{not, if◌then◌else◌, ◌==◌, nat_le}
use Rattle.plx_base.specs.Blocks.{zeros}
use Rattle.plx_base.specs.Payload.{bytes_of}
use Rattle.plx_base.specs.declared.lease.Claim.{Claim}
use Rattle.plx_base.specs.declared.numbers.SlotNo.{SlotNo}
use Rattle.plx_base.specs.declared.payload.Payload.{Payload}
use Rattle.plx_base.specs.declared.write_kind.WriteKind.TheVariants as kind
use Rattle.plx_commands.specs.Facts.{is_worn}
use Rattle.plx_commands.specs.Limits.{last_write}
use Rattle.plx_commands.specs.declared.command.Command.TheVariants.{Write}
use Rattle.plx_commands.specs.declared.reply.Reply.TheVariants as reply
use Rattle.plx_disk.specs.declared.ask.Ask.TheVariants as ask
use Rattle.plx_disk.specs.declared.ask.Answer.TheVariants as answer
use Rattle.plx_gate.specs.Descriptors.{descriptor_bytes, IsDescriptor}
use Rattle.plx_gate.specs.Images.{IsImage}
use Rattle.plx_gate.specs.declared.image.ImageRecord.{ImageRecord}
use Rattle.plx_gate.specs.declared.image.ImageRecord.TheVariants as image_is
use Rattle.plx_gate.proofs.Descriptors.{descriptor-back}
use Rattle.plx_geom.specs.Geometry.{Geometry, image_lease, descriptor_at, data_at}
use Rattle.plx_geom.proofs.Places.{image-below}
use Rattle.plx_rules.specs.Process.{Process}
use Rattle.plx_rules.specs.Journaled.{Journaled}
use Rattle.plx_rules.specs.Attaching.{image_use}
use Rattle.plx_rules.specs.Commands.{next_write, next_descriptor, write_process, journal_process, command_process}
use Rattle.plx_rules.specs.Ends.{End, ends_in_time, write_then}
use Rattle.plx_rules.specs.Journal.{journal_slot, descriptor_of}
use Rattle.plx_rules.specs.Records.{is_live, generation_of, size_of, applied_of}
use Rattle.plx_rules.specs.Session.{Session, Known, write_count, latest, with_write, with_session}
use Rattle.plx_rules.specs.Settings.{Setting}
use Rattle.plx_rules.specs.Stored.{Given, Content, Holds, record_on, IsCounted, IsWriteCount, IsContent, Stores}
use Rattle.law_run.specs.AllowedAsks.{IsNext, last_known, data_of_write, commit_of_write}
use Rattle.law_run.specs.Changes.{written_on}
use Rattle.law_run.specs.CommandLogs.{Exchange, Finished, first_reading}
use Rattle.law_run.specs.KnownBytes.{given_with, given_after, known_from, known_in, known_before}
use Rattle.law_run.specs.Refusals.{NamesBlock, of_read, of_write, of_block, no_image, out_of_range, writes, full}
use Rattle.law_run.specs.Replies.{refused}
use Rattle.law_run.proofs.Asking.{IsFine, asks-write, asks-confirm}
use Rattle.law_run.proofs.Clear.{by-unless, Clear, known-here, clear, ready-follows}
use Rattle.law_run.proofs.Facts.{stored_by_session, limits, next-free, write-count}
use Rattle.law_run.proofs.Grown.{with-block-same, fits-data, fits-more}
use Rattle.law_run.proofs.Holding.{Course, going-first, going-more}
use Rattle.law_lease.proofs.Latest.{latest-push}
use Rattle.law_run.proofs.Meets.{exchange}
use Rattle.law_run.proofs.OnImage.{OnImage, names-own, names-other, still, on-image, Ready}
use Rattle.law_run.proofs.Passed.{Passed, passed-at-most}
use Rattle.law_run.proofs.Rests.{rests-by}
use Rattle.law_run.proofs.Uses.{quiet-none}
use Rattle.law_run.proofs.Right.{clock, FitsSession, FitsAt, Rests, finish, log_on, Right, May}
use Rattle.law_run.proofs.Runs.{start, hand_start}
use Rattle.law_run.proofs.Slots.{slot-below}
use Rattle.law_run.proofs.Unwritten.{unwritten-quiet}
use Rattle.law_run.specs.Senses.{seen_in}
use Rattle.law_run.proofs.Senses.{stores-seen}
use Rattle.plx_base.proofs.Tests.{nat_le-tells, nat_le-past, not-false, eqb-is, eqb-isn't, opposite-true}
use Rattle.plx_commands.proofs.Places.{at-other, at-same}
use Rattle.law_lease.proofs.Rests.{in-one, data-found, descriptor-place-found}

pub on-write : (slot : SlotNo) (vblock : ℕ) (payload : Payload) → OnImage (Write slot vblock payload) slot.0
on-write slot vblock payload = record { named = λ other. refl; used = λ other. refl; needed = λ other. refl; no_attach = λ other is. (let P : ⊥ = cc in P) }

write-block : (slot : SlotNo) (vblock : ℕ) (payload : Payload) (image v : ℕ) → NamesBlock (Write slot vblock payload) image v → v ≡ vblock
write-block slot vblock payload image v (of_read other is same) = absurd (let P : ⊥ = cc in P)
write-block slot vblock payload image v (of_write other payload' is same) = cc

write-clear : (slots : ℕ) (slot : SlotNo) (vblock : ℕ) (payload : Payload) (session : Session) (n : ℕ) → (5 ≤ n → is_live session.image ≡ true) → (7 ≤ n → vblock < size_of session.image) →
    (10 ≤ n → write_count session < last_write) → (11 ≤ n → length session.writes < slots) → Clear slots (Write slot vblock payload) session n
write-clear slots slot vblock payload session n live below counted room = record {
  images = λ lt image needs. live lt;
  free = λ lt other size label is. absurd (let P : ⊥ = cc in P);
  blocks = λ lt image v names. subst (λ b. b < size_of session.image) (sym (write-block slot vblock payload image v names)) (below lt);
  sizes = λ lt other size label is. absurd (let P : ⊥ = cc in P);
  fresh = λ lt other size label is. absurd (let P : ⊥ = cc in P);
  counted = λ lt other v payload' is. counted lt;
  room = λ lt other v payload' is. room lt;
}

-- the image that a session stores once it has one more write
stores-written : (g : Geometry) (given : Given) (image : ℕ) (session : Session) (write : Journaled) → Stores g given image (stored_by_session (with_write session write)) →
    Stores g given image (written_on (stored_by_session session) write.vblock write.block)
stores-written g given image session write stores = record {
  kept = stores.kept;
  found = stores.found;
  live = stores.live;
  generation = stores.generation;
  size = stores.size;
  label = stores.label;
  writes = subst (λ n. IsWriteCount g given image stores.kept n) (simp length-append (omega arith)) stores.writes;
  content = λ v. subst (λ (c : Content). IsContent g given image stores.kept v c) (ap Holds (latest-push zeros v session.writes write) ∙ held (v == write.vblock) (latest zeros v session.writes)) (stores.content v);
  frozen = stores.frozen;
}
  where
    held : (test : Bool) (old : List ℕ) → Holds (if test then write.block else old) ≡ (if test then Holds write.block else Holds old)
    held true old = refl
    held false old = refl

-- a live image's generation and size are within their limits
live-parts : (kept : ImageRecord) → IsImage kept → is_live kept ≡ true → (1 ≤ generation_of kept) × (generation_of kept < 2 ^ 32) × (size_of kept ≤ 2 ^ 27)
live-parts (image_is.Free generation) is live = absurd (let P : ⊥ = cc in P)
live-parts (image_is.Live kept) is live = (is.generation_low, is.generation_high, is.size_high)

module _ (s : Setting) (some : 1 ≤ s.geometry.slots) (before : List Finished) (known : Known) (slot : SlotNo) (vblock : ℕ) (payload : Payload) (reading : ℕ) (rests : Rests s before known)
    (long : length (bytes_of payload) ≡ 4096)
    (session : Session) (claim : Claim) (until : ℕ) (ready : Ready s before known (Write slot vblock payload) slot reading (on-write slot vblock payload) rests session claim until) where
  place : (n : ℕ) → (5 ≤ n → is_live session.image ≡ true) → (7 ≤ n → vblock < size_of session.image) →
      (10 ≤ n → write_count session < last_write) → (11 ≤ n → length session.writes < s.geometry.slots) → (done : List Exchange) → first_reading done ≡ Some reading →
      Passed s (log_on before (Write slot vblock payload) done) n
  place n live below counted room done first =
      clear s before known (Write slot vblock payload) slot reading (on-write slot vblock payload) rests session claim until ready done n first
      (write-clear s.geometry.slots slot vblock payload session n live below counted room)

  -- the next write, where these bytes are known
  abbrev is-next : (done : List Exchange) (given : Given) → known_in s.geometry (log_on before (Write slot vblock payload) done) slot.0 ≡ given → FitsSession s.geometry given slot.0 session →
      is_live session.image ≡ true → length session.writes < s.geometry.slots → IsNext s (log_on before (Write slot vblock payload) done) slot.0 (write_count session + 1)
  is-next done given same fits live room = record {
    attached = ready.attached;
    kept = session.image;
    found = ap (λ (g : Given). record_on s.geometry g slot.0) same ∙ fits.found;
    live = live;
    count = write_count session;
    counts = subst (λ (g : Given). IsWriteCount s.geometry g slot.0 session.image (write_count session)) (sym same) (write-count s.geometry given slot.0 session fits);
    next = refl;
    free = λ other v. subst
        (λ (g : Given). ¬ IsCounted s.geometry g slot.0 session.image other v (data_at s.geometry slot.0 (journal_slot s.geometry.slots (write_count session + 1)))) (sym same)
        (next-free s.geometry given slot.0 session fits room other v);
  }

  right-journal : is_live session.image ≡ true → vblock < size_of session.image → write_count session < last_write → length session.writes < s.geometry.slots →
      Right s before (Write slot vblock payload) (clock reading ∷ []) (journal_process s known slot.0 vblock (bytes_of payload) session until) 3
  right-journal live below counted room =
      let command = Write slot vblock payload in
      let on = on-write slot vblock payload in
      let g = s.geometry in
      let given = given_after g before slot.0 in
      let bytes = bytes_of payload in
      let write = next_write session vblock bytes in
      let d = next_descriptor session vblock in
      let lease = image_lease slot.0 in
      let held_lease = image-below g slot.0 ready.fits.within in
      let at = journal_slot g.slots (write_count session + 1) in
      let block = data_at g slot.0 at in
      let commit = descriptor_at g slot.0 at in
      let slot_below = slot-below g.slots (write_count session + 1) some in
      let fine : IsFine s before command reading = place 11 (λ lt. live) (λ lt. below) (λ lt. counted) (λ lt. room) in
      let c : Course = record { reading = reading; claim = claim; until = until; begun = 0 } in
      let x1 = exchange (ask.Write kind.JData (record { 0 = block }) until) bytes answer.Done in
      let x2 = exchange (ask.Write kind.JCommit (record { 0 = commit }) until) (descriptor_bytes d) answer.Done in
      let done0 = clock reading ∷ [] in
      let done1 = x1 ∷ done0 in
      let done2 = x2 ∷ done1 in
      let going0 = going-first s before slot.0 claim until reading ready.now in
      let going1 = going-more s before done0 x1 slot.0 c tt (λ other apart. tt) refl tt refl (quiet-none s.geometry slot.0 (x1 ∷ done0) refl) going0 in
      let going2 = going-more s before done1 x2 slot.0 c tt (λ other apart. tt) refl tt refl (quiet-none s.geometry slot.0 (x2 ∷ done1) refl) going1 in
      let given1 = given_with given block bytes in
      let given2 = given_with given1 commit (descriptor_bytes d) in
      let known0 : known_in g (log_on before command done0) slot.0 ≡ given = rw (names-own command slot.0 on.named, ready.attached) refl in
      let known1 : known_in g (log_on before command done1) slot.0 ≡ given1 = rw (names-own command slot.0 on.named, ready.attached) refl in
      let processes = live-parts session.image (limits g given slot.0 session ready.fits) live in
      let limit : IsDescriptor (descriptor_of session.image write) = record {
        generation_low = processes.0;
        generation_high = processes.1;
        vblock = (let high = processes.2 in omega (arith, below));
        number_low = omega arith;
        number_high = omega (arith, counted);
      } in
      let fits1 : FitsSession g given1 slot.0 session = fits-data g given slot.0 session bytes ready.fits room in
      let fits2 : FitsSession g given2 slot.0 (with_write session write) =
      fits-more g given1 slot.0 session write fits1 limit live some room refl (with-block-same given block bytes) in
      let next = with_session known slot.0 (Some (with_write session write)) in
      let end_process = ends_in_time s known (image_use slot.0 until) (reply.Written (write_count session + 1)) next in
      let commit_process = write_then s known (record { lease = lease; until = until }) kind.JCommit commit (descriptor_bytes d) end_process in
      asks-write (May s before command) s before known command reading fine done0 lease until kind.JData block bytes commit_process 2 refl (let a = rests.claims in omega arith) (λ y e. rw e refl) held_lease
      (in-one lease _ (sym (ap image_lease (data-found g slot.0 at slot_below)))) (
        (going0.went, data_of_write slot vblock payload (write_count session + 1) refl (claim, going0.held) (is-next done0 given known0 ready.fits live room) refl refl long),
        ready-follows s before known command slot reading on rests session claim until ready fine ask.Clock,
      )
      (asks-write (May s before command) s before known command reading fine done1 lease until kind.JCommit commit (descriptor_bytes d) end_process 1 refl (let a = rests.claims in omega arith) (λ y e. rw e refl) held_lease
      (in-one lease _ (sym (ap image_lease (descriptor-place-found g slot.0 at slot_below)))) (
        (
          going1.went,
          commit_of_write slot vblock payload d refl (claim, going1.held) (is-next done1 given1 known1 fits1 live room) refl limit refl refl refl (inl refl)
              (descriptor-back d ∙ sym (ap (λ (h : Given). drop 512 (last_known (h commit))) known1 ∙ fits1.whole at slot_below)),
        ),
        tt,
      )
      (asks-confirm s before known command slot c on.named ready.fits.within fine (let a = rests.claims in omega arith) done2 (reply.Written (write_count session + 1)) next 0 going2 tt
      (λ reading' early going confirmed.
      let done3 = clock reading' ∷ done2 in
      let known3 : known_in g (log_on before command done3) slot.0 ≡ given2 = rw (names-own command slot.0 on.named, ready.attached) refl in
      let was : known_before g (log_on before command done3) slot.0 ≡ given =
      (λ j block'. unwritten-quiet done3 (known_from g (log_on before command done3) slot.0) block' (tt, (tt, (tt, (tt, tt)))) j)
      ∙ known-here s before known command slot reading on rests session claim until ready done3 in (
        λ sense any. record {
          slot = slot;
          vblock = vblock;
          payload = payload;
          command = refl;
          confirmed = confirmed;
          image = stored_by_session session;
          before = subst (λ (h : Given). Stores g (seen_in sense g h) slot.0 (stored_by_session session)) (sym was) (stores-seen sense g given slot.0 session ready.fits);
          after = subst (λ (h : Given). Stores g (seen_in sense g h) slot.0 (written_on (stored_by_session session) vblock bytes)) (sym known3)
              (stores-written g (seen_in sense g given2) slot.0 session write (stores-seen sense g given2 slot.0 (with_write session write) fits2));
          told = refl;
        },
        rests-by s before command done3 (reply.Written (write_count session + 1)) known next slot.0 (names-other command slot.0 on.named)
            (λ other apart. at-other known.sessions slot.0 other (Some (with_write session write)) apart) (λ other b apart. refl) (λ h. refl) going.spared
            (subst (λ o. FitsAt s (finish command done3 (reply.Written (write_count session + 1)) ∷ before) slot.0 o) (sym (at-same known.sessions slot.0 (Some (with_write session write))))
            (ready.attached, subst (λ (h : Given). FitsSession g h slot.0 (with_write session write)) (sym known3) fits2, (claim, until, going.held)))
            (let a = rests.claims in let b = going.begun in omega arith) rests,
      ))))

  right-write : Right s before (Write slot vblock payload) (clock reading ∷ []) (write_process s known slot.0 vblock (bytes_of payload) session until) 3
  right-write =
      let command = Write slot vblock payload in
      let on = on-write slot vblock payload in
      let done = clock reading ∷ [] in
      let log = log_on before command done in
      let here = known-here s before known command slot reading on rests session claim until ready in
      let found = ap (λ (g : Given). record_on s.geometry g slot.0) (here done) ∙ ready.fits.found in
      let counts = subst (λ (g : Given). IsWriteCount s.geometry g slot.0 session.image (write_count session)) (sym (here done))
      (write-count s.geometry (given_after s.geometry before slot.0) slot.0 session ready.fits) in
      let P : Process End → Type 0 = λ process. Right s before command (clock reading ∷ []) process 3 in
      by-unless P (not (is_live session.image)) reply.NoImage known _
      (λ dead. (
        refused 4 (reading, refl) (no_image slot.0 session.image (of_block vblock (of_write slot payload refl refl)) found (opposite-true (is_live session.image) dead))
            (λ p other refuses. passed-at-most s log 4 p other (place 4 (λ lt. absurd (omega arith)) (λ lt. absurd (omega arith)) (λ lt. absurd (omega arith)) (λ lt. absurd (omega arith)) done refl) refuses),
        still s before known command slot reading on rests reply.NoImage (λ other b. refl) (λ h. refl),
      ))
      (λ alive.
      let live = not-false (is_live session.image) alive in
      by-unless P (nat_le (size_of session.image) vblock) (reply.OutOfRange (size_of session.image)) known _
      (λ past. (
        refused 6 (reading, refl) (out_of_range slot.0 vblock session.image (of_write slot payload refl refl) found refl (nat_le-tells (size_of session.image) vblock past))
            (λ p other refuses. passed-at-most s log 6 p other (place 6 (λ lt. live) (λ lt. absurd (omega arith)) (λ lt. absurd (omega arith)) (λ lt. absurd (omega arith)) done refl) refuses),
        still s before known command slot reading on rests (reply.OutOfRange (size_of session.image)) (λ other b. refl) (λ h. refl),
      ))
      (λ within.
      let below = nat_le-past (size_of session.image) vblock within in
      by-unless P (is_worn last_write (write_count session)) (reply.WornOut last_write) known _
      (λ worn. (
        refused 9 (reading, refl) (writes slot vblock payload session.image (write_count session) refl found counts (nat_le-tells last_write (write_count session) worn))
            (λ p other refuses. passed-at-most s log 9 p other (place 9 (λ lt. live) (λ lt. below) (λ lt. absurd (omega arith)) (λ lt. absurd (omega arith)) done refl) refuses),
        still s before known command slot reading on rests (reply.WornOut last_write) (λ other b. refl) (λ h. refl),
      ))
      (λ fresh.
      let counted = nat_le-past last_write (write_count session) fresh in
      by-unless P (length session.writes == s.geometry.slots) reply.Full known _
      (λ filled. (
        refused 10 (reading, refl) (full slot vblock payload session.image (write_count session) refl found counts (ap (λ n. applied_of session.image + n) (eqb-is (length session.writes) s.geometry.slots filled)))
            (λ p other refuses. passed-at-most s log 10 p other (place 10 (λ lt. live) (λ lt. below) (λ lt. counted) (λ lt. absurd (omega arith)) done refl) refuses),
        still s before known command slot reading on rests reply.Full (λ other b. refl) (λ h. refl),
      ))
      (λ some_room. (let apart = eqb-isn't (length session.writes) s.geometry.slots some_room in let most = ready.fits.room in right-journal live below counted (omega (arith, apart)))))))

pub write-begins : (s : Setting) → 1 ≤ s.geometry.slots → (before : List Finished) (known : Known) (slot : SlotNo) (vblock : ℕ) (payload : Payload) (reading : ℕ) → Rests s before known →
    length (bytes_of payload) ≡ 4096 →
    Right s before (Write slot vblock payload) (clock reading ∷ []) (command_process s known (start s before reading) (hand_start s before reading) reading (Write slot vblock payload)) 3
write-begins s some before known slot vblock payload reading rests long =
    on-image s before known (Write slot vblock payload) slot reading (on-write slot vblock payload) rests 3 (write_process s known slot.0 vblock (bytes_of payload))
    (λ session claim until ready. right-write s some before known slot vblock payload reading rests long session claim until ready)
