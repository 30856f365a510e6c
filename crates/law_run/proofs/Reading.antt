-- Reads.
use Rattle.std.proofs.Common.{◌≡◌, ℕ, ◌≤◌, ◌<◌, List, [], ◌∷◌, true, Some, refl, ap, sym, subst, ◌∙◌, arith}
use Rattle.std.specs.Prelude.{not, nat_le}
use Rattle.plx_base.specs.Canonical.{payload_of}
use Rattle.plx_base.specs.Payload.{bytes_of}
use Rattle.plx_base.specs.declared.lease.Claim.{Claim}
use Rattle.plx_base.specs.declared.numbers.SlotNo.{SlotNo}
use Rattle.plx_base.proofs.Canonical.{bytes_of-payload_of}
use Rattle.plx_commands.specs.declared.command.Command.TheVariants.{Read}
use Rattle.plx_commands.specs.declared.reply.Reply.TheVariants as reply
use Rattle.plx_disk.specs.declared.ask.Ask.TheVariants as ask
use Rattle.plx_rules.specs.Commands.{read_process, command_process}
use Rattle.plx_rules.specs.Records.{is_live, size_of}
use Rattle.plx_rules.specs.Session.{Session, Known, content}
use Rattle.plx_rules.specs.Settings.{Setting}
use Rattle.plx_rules.specs.Stored.{Given, Holds, record_on, IsContent}
use Rattle.law_run.specs.CommandLogs.{Exchange, Finished, first_reading}
use Rattle.law_run.specs.KnownBytes.{given_after, known_in}
use Rattle.law_run.specs.Refusals.{NamesBlock, of_read, of_write, of_block, no_image, out_of_range}
use Rattle.law_run.specs.Replies.{refused}
use Rattle.law_run.proofs.Asking.{asks-confirm}
use Rattle.law_run.proofs.Clear.{by-unless, Clear, known-here, clear, still-at, ready-follows}
use Rattle.law_run.proofs.Facts.{content-held}
use Rattle.law_run.proofs.Holding.{Course, going-first}
use Rattle.law_run.proofs.OnImage.{OnImage, names-own, still, on-image, Ready}
use Rattle.law_run.proofs.Passed.{Passed, passed-at-most}
use Rattle.law_run.proofs.Right.{clock, Rests, log_on, Right}
use Rattle.law_run.proofs.Runs.{start, hand_start}
use Rattle.law_run.specs.Senses.{seen_in}
use Rattle.law_run.proofs.Senses.{fits-seen}
use Rattle.plx_base.proofs.Tests.{nat_le-tells, nat_le-past, not-false, opposite-true}

pub on-read : (slot : SlotNo) (vblock : ℕ) → OnImage (Read slot vblock) slot.0
on-read slot vblock = record { named = λ other. refl; used = λ other. refl; needed = λ other. refl; no_attach = λ other is. (let P : ⊥ = cc in P) }

read-block : (slot : SlotNo) (vblock image v : ℕ) → NamesBlock (Read slot vblock) image v → v ≡ vblock
read-block slot vblock image v (of_read other is same) = cc
read-block slot vblock image v (of_write other payload is same) = absurd (let P : ⊥ = cc in P)

read-clear : (slots : ℕ) (slot : SlotNo) (vblock : ℕ) (session : Session) (n : ℕ) → (5 ≤ n → is_live session.image ≡ true) → (7 ≤ n → vblock < size_of session.image) →
    Clear slots (Read slot vblock) session n
read-clear slots slot vblock session n live below = record {
  images = λ lt image needs. live lt;
  free = λ lt other size label is. absurd (let P : ⊥ = cc in P);
  blocks = λ lt image v names. subst (λ b. b < size_of session.image) (sym (read-block slot vblock image v names)) (below lt);
  sizes = λ lt other size label is. absurd (let P : ⊥ = cc in P);
  fresh = λ lt other size label is. absurd (let P : ⊥ = cc in P);
  counted = λ lt other v payload is. absurd (let P : ⊥ = cc in P);
  room = λ lt other v payload is. absurd (let P : ⊥ = cc in P);
}

module _ (s : Setting) (before : List Finished) (known : Known) (slot : SlotNo) (vblock reading : ℕ) (rests : Rests s before known)
    (session : Session) (claim : Claim) (until : ℕ) (ready : Ready s before known (Read slot vblock) slot reading (on-read slot vblock) rests session claim until) where
  place : (n : ℕ) → (5 ≤ n → is_live session.image ≡ true) → (7 ≤ n → vblock < size_of session.image) → (done : List Exchange) → first_reading done ≡ Some reading →
      Passed s (log_on before (Read slot vblock) done) n
  place n live below done first =
      clear s before known (Read slot vblock) slot reading (on-read slot vblock) rests session claim until ready done n first (read-clear s.geometry.slots slot vblock session n live below)

  right-read : Right s before (Read slot vblock) (clock reading ∷ []) (read_process s known slot.0 vblock session until) 1
  right-read =
      let command = Read slot vblock in
      let on = on-read slot vblock in
      let log = log_on before command (clock reading ∷ []) in
      let here = known-here s before known command slot reading on rests session claim until ready in
      let record' = ap (λ (g : Given). record_on s.geometry g slot.0) (here (clock reading ∷ [])) ∙ ready.fits.found in
      by-unless (λ process. Right s before command (clock reading ∷ []) process 1) (not (is_live session.image)) reply.NoImage known _
      (λ dead. (
        refused 4 (reading, refl) (no_image slot.0 session.image (of_block vblock (of_read slot refl refl)) record' (opposite-true (is_live session.image) dead))
            (λ p other refuses. passed-at-most s log 4 p other (place 4 (λ lt. absurd (omega arith)) (λ lt. absurd (omega arith)) (clock reading ∷ []) refl) refuses),
        still s before known command slot reading on rests reply.NoImage (λ other b. refl) (λ h. refl),
      ))
      (λ live. by-unless (λ process. Right s before command (clock reading ∷ []) process 1) (nat_le (size_of session.image) vblock) (reply.OutOfRange (size_of session.image)) known _
      (λ past. (
        refused 6 (reading, refl) (out_of_range slot.0 vblock session.image (of_read slot refl refl) record' refl (nat_le-tells (size_of session.image) vblock past))
            (λ p other refuses. passed-at-most s log 6 p other (place 6 (λ lt. not-false (is_live session.image) live) (λ lt. absurd (omega arith)) (clock reading ∷ []) refl) refuses),
        still s before known command slot reading on rests (reply.OutOfRange (size_of session.image)) (λ other b. refl) (λ h. refl),
      ))
      (λ below.
      let c : Course = record { reading = reading; claim = claim; until = until; begun = 0 } in
      let fine = place 11 (λ lt. not-false (is_live session.image) live) (λ lt. nat_le-past (size_of session.image) vblock below) in
      asks-confirm s before known command slot c on.named ready.fits.within (λ done first. fine done first) (let a = rests.claims in omega arith)
      (clock reading ∷ []) (reply.Data (payload_of (content session vblock))) known 0 (going-first s before slot.0 claim until reading ready.now)
      (ready-follows s before known command slot reading on rests session claim until ready (λ done first. fine done first) ask.Clock)
      (λ reading' early going confirmed.
      let done = clock reading' ∷ clock reading ∷ [] in
      let same : known_in s.geometry (log_on before command done) slot.0 ≡ given_after s.geometry before slot.0 = rw (names-own command slot.0 on.named, ready.attached) refl in (
        λ sense any. record {
          slot = slot;
          vblock = vblock;
          command = refl;
          confirmed = confirmed;
          kept = session.image;
          found = ap (λ (g : Given). record_on s.geometry g slot.0) same ∙ ready.fits.found;
          content = subst (λ (g : Given). IsContent s.geometry (seen_in sense s.geometry g) slot.0 session.image vblock (Holds (bytes_of (payload_of (content session vblock))))) (sym same)
              (subst (λ (b : List ℕ). IsContent s.geometry (seen_in sense s.geometry (given_after s.geometry before slot.0)) slot.0 session.image vblock (Holds b)) (sym (bytes_of-payload_of (content session vblock)))
              (content-held s.geometry (seen_in sense s.geometry (given_after s.geometry before slot.0)) slot.0 session
              (fits-seen sense s.geometry (given_after s.geometry before slot.0) slot.0 session ready.fits) vblock));
        },
        still-at s before known command slot reading on rests session claim until ready done (reply.Data (payload_of (content session vblock))) (λ other b. refl) (λ h. refl) c going refl same,
      ))))

pub read-begins : (s : Setting) (before : List Finished) (known : Known) (slot : SlotNo) (vblock reading : ℕ) → Rests s before known →
    Right s before (Read slot vblock) (clock reading ∷ []) (command_process s known (start s before reading) (hand_start s before reading) reading (Read slot vblock)) 1
read-begins s before known slot vblock reading rests =
    on-image s before known (Read slot vblock) slot reading (on-read slot vblock) rests 1 (read_process s known slot.0 vblock)
    (λ session claim until ready. right-read s before known slot vblock reading rests session claim until ready)
