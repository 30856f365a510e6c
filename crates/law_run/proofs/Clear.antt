-- Commands of one image that has a session: which refusals' facts hold, and what stays.
use Rattle.std.proofs.Common.{◌≡◌, ℕ, ◌≤◌, ◌<◌, List, [], ◌∷◌, length, Bool, true, false, Some, refl, ap, sym, subst, ◌∙◌, arith}
use Rattle.std.specs.Prelude.{◌||◌, ◌==◌}
use Rattle.plx_base.specs.declared.label.Label.{Label}
use Rattle.plx_base.specs.declared.lease.Claim.{Claim}
use Rattle.plx_base.specs.declared.numbers.SlotNo.{SlotNo}
use Rattle.plx_base.specs.declared.payload.Payload.{Payload}
use Rattle.plx_commands.specs.Facts.{is_size}
use Rattle.plx_commands.specs.Limits.{last_generation, last_write}
use Rattle.plx_commands.specs.declared.command.Command.{Command}
use Rattle.plx_commands.specs.declared.command.Command.TheVariants.{Create, Write}
use Rattle.plx_commands.specs.declared.reply.Reply.{Reply}
use Rattle.plx_disk.specs.declared.ask.Ask.{Ask}
use Rattle.plx_gate.specs.declared.image.ImageRecord.{ImageRecord}
use Rattle.plx_geom.specs.Geometry.{image_lease}
use Rattle.plx_rules.specs.Process.{Process}
use Rattle.plx_rules.specs.Commands.{unless}
use Rattle.plx_rules.specs.Ends.{End, ends}
use Rattle.plx_rules.specs.Records.{is_live, generation_of, size_of, applied_of}
use Rattle.plx_rules.specs.Session.{Session, Known, write_count}
use Rattle.plx_rules.specs.Settings.{Setting}
use Rattle.plx_rules.specs.Stored.{Given, record_on, IsWriteCount}
use Rattle.law_run.specs.Causes.{MayFollow}
use Rattle.law_run.specs.CommandLogs.{Exchange, Finished, first_reading}
use Rattle.law_run.specs.Holdings.{hold_by_log, IsUntil}
use Rattle.law_run.specs.KnownBytes.{given_after, known_from, record_known}
use Rattle.law_run.specs.Refusals.{NamesBlock, of_read, of_write, NeedsImage, of_delete, of_block}
use Rattle.law_run.specs.Sessions.{names, attached_by}
use Rattle.law_run.proofs.Facts.{count-one, write-count}
use Rattle.law_run.proofs.Asking.{IsFine, one-until}
use Rattle.law_run.proofs.Following.{first-follows}
use Rattle.law_run.proofs.Holding.{Course, Going}
use Rattle.law_run.proofs.OnImage.{OnImage, names-other, names-only, needs-attached, in-time, Ready}
use Rattle.law_run.proofs.Passed.{Passed}
use Rattle.law_run.proofs.Rests.{KeepsHolds, known-attached, rests-by, own-still}
use Rattle.law_run.proofs.Right.{clock, Rests, finish, log_on}
use Rattle.plx_base.proofs.Tests.{eqb-true}

-- the rest by a test that refuses
pub by-unless : (P : Process End → Type 0) (refused : Bool) (refusal : Reply) (known : Known) (process : Process End) → (refused ≡ true → P (ends refusal known)) → (refused ≡ false → P process) →
    P (unless refused refusal known process)
by-unless P true refusal known process yes' no' = yes' refl
by-unless P false refusal known process yes' no' = no' refl

-- no fact on the image of a session refuses a command before this place
pub record Clear (slots : ℕ) (command : Command) (session : Session) (n : ℕ) : Type 0 where
  pub images : 5 ≤ n → (image : ℕ) → NeedsImage command image → is_live session.image ≡ true
  pub free : 6 ≤ n → (slot : SlotNo) (size : ℕ) (label : Label) → command ≡ Create slot size label → is_live session.image ≡ false
  pub blocks : 7 ≤ n → (image vblock : ℕ) → NamesBlock command image vblock → vblock < size_of session.image
  pub sizes : 7 ≤ n → (slot : SlotNo) (size : ℕ) (label : Label) → command ≡ Create slot size label → is_size size ≡ true
  pub fresh : 10 ≤ n → (slot : SlotNo) (size : ℕ) (label : Label) → command ≡ Create slot size label → generation_of session.image < last_generation
  pub counted : 10 ≤ n → (slot : SlotNo) (vblock : ℕ) (payload : Payload) → command ≡ Write slot vblock payload → write_count session < last_write
  pub room : 11 ≤ n → (slot : SlotNo) (vblock : ℕ) (payload : Payload) → command ≡ Write slot vblock payload → length session.writes < slots

names-one : (command : Command) (slot : SlotNo) (is : Command) → command ≡ is → names is slot.0 ≡ true → names command slot.0 ≡ true
names-one command slot is e named = subst (λ c. names c slot.0 ≡ true) (sym e) named

own-name : (slot : SlotNo) → ((slot.0 == slot.0) || false) ≡ true
own-name slot = rw (eqb-true slot.0 slot.0 refl) refl

-- a command names the image that it needs
block-named : (command : Command) (image vblock : ℕ) → NamesBlock command image vblock → names command image ≡ true
block-named command image vblock (of_read slot is same) = subst (λ n. names command n ≡ true) (sym same) (names-one command slot _ is (own-name slot))
block-named command image vblock (of_write slot payload is same) = subst (λ n. names command n ≡ true) (sym same) (names-one command slot _ is (own-name slot))

image-named : (command : Command) (image : ℕ) → NeedsImage command image → names command image ≡ true
image-named command image (of_delete slot is same) = subst (λ n. names command n ≡ true) (sym same) (names-one command slot _ is (own-name slot))
image-named command image (of_block vblock names) = block-named command image vblock names

module _ (s : Setting) (before : List Finished) (known : Known) (command : Command) (slot : SlotNo) (reading : ℕ) (on : OnImage command slot.0) (rests : Rests s before known)
    (session : Session) (claim : Claim) (until : ℕ) (ready : Ready s before known command slot reading on rests session claim until) where
  -- what is known as the command begins
  pub known-here : (done : List Exchange) → known_from s.geometry (log_on before command done) slot.0 ≡ given_after s.geometry before slot.0
  known-here done = known-attached s.geometry before command done slot.0 ready.attached

  kept-is : (done : List Exchange) (image : ℕ) (kept : ImageRecord) → names command image ≡ true → record_known s.geometry (log_on before command done) image ≡ Some kept → kept ≡ session.image
  kept-is done image kept named found =
      let same = names-only command slot.0 on.named image named in
      let here : record_known s.geometry (log_on before command done) slot.0 ≡ Some kept = subst (λ n. record_known s.geometry (log_on before command done) n ≡ Some kept) same found in
      let e : Some session.image ≡ Some kept = sym ready.fits.found ∙ (sym (ap (λ (g : Given). record_on s.geometry g slot.0) (known-here done)) ∙ here) in
      cc

  count-is : (done : List Exchange) (image : ℕ) (kept : ImageRecord) (count : ℕ) → names command image ≡ true → kept ≡ session.image →
      IsWriteCount s.geometry (known_from s.geometry (log_on before command done) image) image kept count → count ≡ write_count session
  count-is done image kept count named is counts =
      let same = names-only command slot.0 on.named image named in
      let one : IsWriteCount s.geometry (known_from s.geometry (log_on before command done) slot.0) slot.0 kept count =
      subst (λ n. IsWriteCount s.geometry (known_from s.geometry (log_on before command done) n) n kept count) same counts in
      let two : IsWriteCount s.geometry (given_after s.geometry before slot.0) slot.0 session.image count =
      subst (λ (r : ImageRecord). IsWriteCount s.geometry (given_after s.geometry before slot.0) slot.0 r count) is
      (subst (λ (g : Given). IsWriteCount s.geometry g slot.0 kept count) (known-here done) one) in
      count-one s.geometry (given_after s.geometry before slot.0) slot.0 session.image count (write_count session) two
      (write-count s.geometry (given_after s.geometry before slot.0) slot.0 session ready.fits)

  -- no fact holds before this place
  pub clear : (done : List Exchange) (n : ℕ) → first_reading done ≡ Some reading → Clear s.geometry.slots command session n → Passed s (log_on before command done) n
  clear done n first h = record {
    sessions = λ lt. needs-attached before command slot.0 on ready.attached;
    unattached = λ lt n' is. absurd (on.no_attach n' is);
    in_time = λ lt. in-time s before command done slot.0 claim until reading (λ other is. names-only command slot.0 on.named other (sym (on.used other) ∙ is)) ready.held first ready.below;
    slots = λ lt n' is. absurd (on.no_attach n' is);
    images = λ lt image kept needs found. (let is = kept-is done image kept (image-named command image needs) found in ap is_live is ∙ h.images lt image needs);
    free = λ lt n' size label kept is found. (let e = kept-is done n'.0 kept (names-one command n' _ is (own-name n')) found in ap is_live e ∙ h.free lt n' size label is);
    blocks = λ lt image vblock kept names' found. (
        let e = kept-is done image kept (block-named command image vblock names') found in
        subst (λ (r : ImageRecord). vblock < size_of r) (sym e) (h.blocks lt image vblock names'));
    sizes = h.sizes;
    fresh = λ lt n' size label kept is found. (
        let e = kept-is done n'.0 kept (names-one command n' _ is (own-name n')) found in
        subst (λ (r : ImageRecord). generation_of r < last_generation) (sym e) (h.fresh lt n' size label is));
    counted = λ lt n' vblock payload kept count is found counts. (
        let named = names-one command n' _ is (own-name n') in
        let e = count-is done n'.0 kept count named (kept-is done n'.0 kept named found) counts in
        subst (λ m. m < last_write) (sym e) (h.counted lt n' vblock payload is));
    claimed = λ lt n' is. absurd (on.no_attach n' is);
    room = λ lt n' vblock payload kept count is found counts all. (
        let named = names-one command n' _ is (own-name n') in
        let k = kept-is done n'.0 kept named found in
        let e = count-is done n'.0 kept count named k counts in
        let r = h.room lt n' vblock payload is in
        let a = ap applied_of k in
        omega arith);
  }

  -- a reply that leaves all as it is
  pub still-at : (done : List Exchange) (r : Reply) → ((other : ℕ) (b : Bool) → attached_by r command other b ≡ b) → KeepsHolds r →
      (c : Course) → Going s before done slot.0 c → c.begun ≡ 0 →
      given_after s.geometry (finish command done r ∷ before) slot.0 ≡ given_after s.geometry before slot.0 → Rests s (finish command done r ∷ before) known
  still-at done r none keeps c going zero' still =
      rests-by s before command done r known known slot.0 (names-other command slot.0 on.named) (λ other apart. refl) (λ other b apart. none other b) keeps going.spared
      (own-still s before command done r slot.0 (known.sessions slot.0) (λ b. none slot.0 b) keeps (rests.sessions slot.0) (λ attached. still) (λ attached. (c.claim, c.until, going.held)))
      (let a = rests.claims in let b = going.begun in omega arith) rests

  -- any ask may follow on its first reading
  pub ready-follows : IsFine s before command reading → (a : Ask) → MayFollow s (log_on before command (clock reading ∷ [])) a
  ready-follows fine a = first-follows s before command reading fine early a
    where
      early : (image until' : ℕ) → names command image ≡ true → IsUntil until' (hold_by_log s before (clock reading ∷ []) (image_lease image)) → reading < until'
      early image until' named is =
          let same = names-only command slot.0 on.named image named in
          let u = one-until claim until until' _ ready.now (subst (λ n. IsUntil until' (hold_by_log s before (clock reading ∷ []) (image_lease n))) same is) in
          let below = ready.below in
          omega (arith, u, below)
