-- The commands of an image whose lease is held.
use Rattle.std.proofs.Common.{◌≡◌, ℕ, zero, suc, ◌+◌, ◌^◌, ◌≤◌, ◌<◌, inl, inr, List, [], ◌∷◌, ◌++◌, length, Bool, true, false, Option, Some, None, refl, ap, sym, subst, ◌∙◌, arith, length-append}
use Rattle.std.specs.Prelude.{slice_get, is_some, ◌==◌, if◌then◌else◌, nat_lt, nat_le, unwrap_or, not}
use Rattle.plx_base.specs.Blocks.{zeros}
use Rattle.plx_base.specs.Sectors.{Device}
use Rattle.plx_base.specs.declared.numbers.SlotNo.{SlotNo}
use Rattle.plx_commands.specs.Facts.{refusals, is_size}
use Rattle.plx_commands.specs.Images.{Image, image_after_write, report_of, count_dropped}
use Rattle.plx_commands.specs.Model.{Model, Slot}
use Rattle.plx_commands.specs.Moves.{slot_after_attach}
use Rattle.plx_commands.specs.Places.{at}
use Rattle.plx_commands.specs.Replies.{is_in, row}
use Rattle.plx_commands.specs.Reports.{same_report, reported_image, IsReported}
use Rattle.plx_commands.specs.declared.command.Command.{Command}
use Rattle.plx_commands.specs.declared.command.Command.TheVariants.{Attach, Detach, Create, Delete, Read, Write, Flush, Reserve, Renew, Retire, Reclaim}
use Rattle.plx_commands.specs.declared.reply.Reply.{Reply}
use Rattle.plx_commands.specs.declared.reply.Reply.TheVariants.{Attached}
use Rattle.plx_commands.proofs.Accepted.{ok-answers, other-answers}
use Rattle.plx_commands.proofs.Places.{at-same}
use Rattle.plx_commands.proofs.SameReports.{same-report}
use Rattle.plx_gate.specs.declared.descriptor.Descriptor.{Descriptor}
use Rattle.plx_gate.specs.declared.image.ImageRecord.{ImageRecord}
use Rattle.plx_geom.specs.Geometry.{record_at, descriptor_at, data_at}
use Rattle.plx_base.proofs.Tests.{eqb-true, nat_lt-tells, nat_le-false, nat_le-tells, not-false, and-parts}
use Rattle.plx_rules.specs.Process.{Process}
use Rattle.plx_rules.specs.Journaled.{Journaled}
use Rattle.plx_rules.specs.Attaching.{image_use, attach_ends, after_load, load_journal, after_record, load_image}
use Rattle.plx_rules.specs.Ends.{End, ends, lost_process, read_failed, in_time, ends_in_time}
use Rattle.plx_rules.specs.InUse.{InUse, first_reached, unless_reached}
use Rattle.plx_rules.specs.Journal.{finding, Finding, Unused, Counts, descriptor_of}
use Rattle.plx_rules.specs.Loading.{LoadEnd, load_found, load_process, gap_found}
use Rattle.plx_rules.specs.Processes.{followed_by}
use Rattle.plx_rules.specs.Records.{is_live, is_plain, taken_of, applied_of, plain_record, attached_record}
use Rattle.plx_rules.specs.Session.{Session, Known, with_session, with_write_by_number, first_gap, session_report}
use Rattle.plx_rules.specs.Settings.{Setting}
use Rattle.law_headline.proofs.Held.{Regime, Without, Looks, HasImage, HeldProcess}
use Rattle.law_headline.proofs.JournalFacts.{free-none, in-slot, slot-one}
use Rattle.law_headline.proofs.Journals.{IsJournal, IsShown, ShowEither, HoldsSlot}
use Rattle.law_model.specs.Sound.{Differs}
use Rattle.law_lease.proofs.Latest.{latest-push}
use Rattle.law_headline.proofs.Loaded.{ascending-numbered, below-all, below-more, below-none, below-same, standing_below}
use Rattle.law_run.proofs.Facts.{plain-parts}

-- the slot with this number
abbrev pub slot_no : ℕ → SlotNo
slot_no i = record { 0 = i }

-- any command may end with a lost lease
pub lost-listed : (command : Command) → is_in 9 (row command) ≡ true
lost-listed (Attach slot) = refl
lost-listed (Detach slot) = refl
lost-listed (Create slot size label) = refl
lost-listed (Delete slot) = refl
lost-listed (Read slot vblock) = refl
lost-listed (Write slot vblock payload) = refl
lost-listed (Flush slot) = refl
lost-listed (Reserve count) = refl
lost-listed Renew = refl
lost-listed Retire = refl
lost-listed Reclaim = refl

module _ (s : Setting) (a i : ℕ) (command : Command) (known : Known) (regime : Regime) (device : Device)
    (keeps : (m : Model) → Looks s.geometry a i command known regime m → HoldsSlot s.geometry device i (m.slots i)) where
  -- the end of a lease is reached
  pub held-lost : (k : Known) (due : InUse) (reading : ℕ) → HeldProcess s.geometry a i command known regime (lost_process s k due reading) device
  held-lost k due reading = λ m looks. (let kept = keeps m looks in (
    other-answers m a command _ (lost-listed command) refl refl,
    record { kept = kept.kept; writes = kept.writes; journal = kept.journal; either = kept.either },
    λ s' is. absurd (let P : ⊥ = cc in P),
    tt,
  ))

  -- a reading that has reached no lease in use
  pub held-in-time : (k : Known) (uses : List InUse) (reading : ℕ) (process : Process End) → HeldProcess s.geometry a i command known regime process device →
      HeldProcess s.geometry a i command known regime (in_time s k uses reading process) device
  held-in-time k uses reading process held = by_reached (first_reached uses reading)
    where
      by_reached : (o : Option InUse) → HeldProcess s.geometry a i command known regime (unless_reached o (λ due. lost_process s k due reading) process) device
      by_reached None = held
      by_reached (Some due) = held-lost k due reading

  -- a last reading
  pub held-ends : (k after : Known) (uses : List InUse) (reply : Reply) → HeldProcess s.geometry a i command known regime (ends reply after) device →
      HeldProcess s.geometry a i command known regime (ends_in_time s k uses reply after) device
  held-ends k after uses reply held = λ reading. held-in-time k uses reading (ends reply after) held

-- ---- reports

-- the report of a session is that of the image that it shows
report-shown : (kept : ImageRecord) (writes : List Journaled) (image : Image) → is_plain kept ≡ true → IsShown kept writes image →
    session_report (record { image = kept; writes = writes }) ≡ report_of image
report-shown kept writes image plain shown =
    let live = sym shown.live in
    let generation = sym shown.generation in
    let size = sym shown.size in
    let label = sym shown.label in
    let count = sym shown.count in
    let taken : taken_of kept ≡ length image.frozen = (plain-parts kept plain).0 ∙ sym (ap length shown.frozen) in
    let dropped : 0 ≡ count_dropped image.frozen = sym (ap count_dropped shown.frozen) in
    λ j. record { live = live j; generation = generation j; size = size j; writes = count j; taken = taken j; dropped = dropped j; label = label j }

report-is-own : (kept : ImageRecord) (writes : List Journaled) (slot : Slot) → is_plain kept ≡ true → ShowEither kept writes slot →
    IsReported slot.image slot.change (session_report (record { image = kept; writes = writes }))
report-is-own kept writes slot plain (inl shown) = inl (report-shown kept writes slot.image plain shown)
report-is-own kept writes slot plain (inr away) = inr (away.0, away.1, report-shown kept writes away.0 plain away.2)

-- it decides for that image
report-decides : (kept : ImageRecord) (writes : List Journaled) (slot : Slot) → is_plain kept ≡ true → Differs slot → ShowEither kept writes slot →
    IsShown kept writes (reported_image slot.image slot.change (session_report (record { image = kept; writes = writes })))
report-decides kept writes slot plain differs (inl shown) =
    let same : same_report (session_report (record { image = kept; writes = writes })) (report_of slot.image) ≡ true =
    ap (λ r. same_report r (report_of slot.image)) (report-shown kept writes slot.image plain shown) ∙ same-report (report_of slot.image) in
    subst (λ (x : Image). IsShown kept writes x) (ap (λ test. if test then slot.image else unwrap_or slot.change slot.image) (sym same)) shown
report-decides kept writes slot plain differs (inr away) =
    let other : same_report (session_report (record { image = kept; writes = writes })) (report_of slot.image) ≡ false =
    ap (λ r. same_report r (report_of slot.image)) (report-shown kept writes away.0 plain away.2) ∙ differs away.0 away.1 in
    subst (λ (x : Image). IsShown kept writes x)
    (ap (λ (c : Option Image). unwrap_or c slot.image) (sym away.1) ∙ ap (λ test. if test then slot.image else unwrap_or slot.change slot.image) (sym other)) away.2

-- ---- writes

-- one more write
pub shown-more : (kept : ImageRecord) (writes : List Journaled) (image : Image) (write : Journaled) → IsShown kept writes image →
    IsShown kept (writes ++ write ∷ []) (image_after_write image write.vblock write.block)
shown-more kept writes image write shown = record {
  live = shown.live;
  generation = shown.generation;
  size = shown.size;
  label = shown.label;
  count = simp length-append (omega (arith, shown.count));
  blocks = λ v. ap (λ old. if v == write.vblock then write.block else old) (shown.blocks v) ∙ sym (latest-push zeros v writes write);
  frozen = shown.frozen;
}

-- no number is missing
no-first-gap : (before : ℕ) (writes : List Journaled) → ((k : ℕ) (w : Journaled) → slice_get writes k ≡ Some w → w.number ≡ before + k + 1) → first_gap before writes ≡ None
no-first-gap before [] numbers = refl
no-first-gap before (write ∷ writes) numbers =
    ap (λ (t : Bool). if t then first_gap (before + 1) writes else Some write.number) (eqb-true write.number (before + 1) (let n = numbers 0 write refl in omega (arith, n)))
    ∙ no-first-gap (before + 1) writes (λ k w at. let n = numbers (suc k) w at in omega (arith, n))

-- what tests tell
pub size-tells : (size : ℕ) → not (is_size size) ≡ false → (0 < size) × (size ≤ 2 ^ 27)
size-tells size e = let b = and-parts (nat_lt 0 size) (nat_le size (2 ^ 27)) (not-false (is_size size) e) in (nat_lt-tells 0 size b.0, nat_le-tells size (2 ^ 27) b.1)

module _ (s : Setting) (a i : ℕ) (within : i < s.geometry.images) (few : s.geometry.slots ≤ 64) (known : Known) where
  -- ---- an attach

  module _ (device : Device) (kept : ImageRecord) (writes : List Journaled) (journal : IsJournal s.geometry device i kept writes) (none : known.sessions i ≡ None) where
    abbrev Attaches : Process End → Type 0
    Attaches process = HeldProcess s.geometry a i (Attach (slot_no i)) known (Without kept writes) process device

    keeps-without : (m : Model) → Looks s.geometry a i (Attach (slot_no i)) known (Without kept writes) m → HoldsSlot s.geometry device i (m.slots i)
    keeps-without m looks = record { kept = kept; writes = writes; journal = journal; either = looks.slot.0 }

    unrefused : (m : Model) → Looks s.geometry a i (Attach (slot_no i)) known (Without kept writes) m → refusals m a (Attach (slot_no i)) ≡ []
    unrefused m looks =
        let x : m.sessions a i ≡ false = looks.running.sessions i ∙ ap (λ (o : Option Session). is_some o) none in
        let n : nat_le m.images i ≡ false = nat_le-false m.images i (let e = looks.running.images in omega (arith, e)) in
        rw (x, n) refl

    held-attached : (k : Known) (until : ℕ) → Attaches (attach_ends s k i until (record { image = kept; writes = writes }))
    held-attached k until =
        let session : Session = record { image = kept; writes = writes } in
        held-ends s a i (Attach (slot_no i)) known (Without kept writes) device keeps-without k (with_session k i (Some session)) (image_use i until) (Attached (session_report session))
        (λ m looks.
        let report = session_report session in
        let slot = slot_after_attach (m.slots i) a report in
        let is : at m.slots i slot i ≡ slot = at-same m.slots i slot in
        let left : IsShown kept writes slot.image = report-decides kept writes (m.slots i) journal.fits.plain looks.slot.1 looks.slot.0 in
        let K : Slot → Type 0 = λ t. HoldsSlot s.geometry device i t in
        let H : Slot → Type 0 = λ t. HasImage s.geometry i a session device t in (
          ok-answers m a (Attach (slot_no i)) (Attached report) refl refl refl
              ((let e = looks.running.images in omega (arith, e)), report-is-own kept writes (m.slots i) journal.fits.plain looks.slot.0) (unrefused m looks),
          subst K (sym is) (record { kept = kept; writes = writes; journal = journal; either = inl left }),
          λ t known'.
              let same : session ≡ t = (let f : Some session ≡ Some t = sym (at-same k.sessions i (Some session)) ∙ known' in cc) in
              let P : Session → Type 0 = λ x. HasImage s.geometry i a x device (at m.slots i slot i) in
              subst P same (subst H (sym is) (record { owner = refl; decided = refl; journal = journal; left = left })),
          tt,
        ))

    -- a failed read
    held-fault : (k : Known) (block : ℕ) → k.sessions i ≡ None → Attaches (read_failed block k)
    held-fault k block none' = λ m looks. (
      other-answers m a (Attach (slot_no i)) _ refl refl refl,
      keeps-without m looks,
      λ t is. absurd (let e : None ≡ Some t = sym none' ∙ is in let P : ⊥ = cc in P),
      tt,
    )

    -- the journal, slot by slot
    module _ (k : Known) (until : ℕ) (none' : k.sessions i ≡ None) where
      abbrev Loads : Process LoadEnd → Type 0
      Loads process = Attaches (followed_by process (after_load s k i until kept))

      held-unused : (block : ℕ) (found : Finding) (unused : Process LoadEnd) (counts : ℕ → ℕ → Process LoadEnd) → found ≡ Unused → Loads unused → Loads (load_found block found unused counts)
      held-unused block found unused counts is held =
          let P : Finding → Type 0 = λ f. Loads (load_found block f unused counts) in subst P (sym is) held

      held-counts : (block : ℕ) (found : Finding) (unused : Process LoadEnd) (counts : ℕ → ℕ → Process LoadEnd) (d : Descriptor) → found ≡ Counts d → Loads (counts d.number d.vblock) →
          Loads (load_found block found unused counts)
      held-counts block found unused counts d is held =
          let P : Finding → Type 0 = λ f. Loads (load_found block f unused counts) in subst P (sym is) held

      held-load : (left place : ℕ) → left + place ≡ s.geometry.slots → Loads (load_process s.geometry i kept left place (standing_below s.geometry place writes))
      held-load zero place all =
          let whole : standing_below s.geometry place writes ≡ writes =
          below-all s.geometry place writes (λ j w at. (let within' = (journal.fits.counts j w at).within in omega (arith, all, within'))) in
          let P : List Journaled → Type 0 = λ ws. Attaches (after_load s k i until kept (gap_found s.geometry i ws (first_gap (applied_of kept) ws))) in
          let Q : Option ℕ → Type 0 = λ o. Attaches (after_load s k i until kept (gap_found s.geometry i writes o)) in
          let none-missing : first_gap (applied_of kept) writes ≡ None = no-first-gap (applied_of kept) writes (λ j w at. (let n = journal.fits.numbers j w at in omega (arith, n))) in
          subst P (sym whole) (subst Q (sym none-missing) (held-attached k until))
      held-load (suc left) place all =
          let ih = held-load left (place + 1) (omega (arith, all)) in
          let Q : List Journaled → Type 0 = λ ws. Loads (load_process s.geometry i kept left (place + 1) ws) in (
            inr (place, (omega (arith, all)), inl refl),
            elim (in-slot s.geometry device i kept writes journal place (omega (arith, all))) [
              | inl unused ↦ held-unused (descriptor_at s.geometry i place) (finding kept s.geometry.slots place (device (descriptor_at s.geometry i place))) _ _ unused.0
                  (subst Q (below-same s.geometry place writes unused.1) ih)
              | inr stands ↦ held-counts (descriptor_at s.geometry i place) (finding kept s.geometry.slots place (device (descriptor_at s.geometry i place))) _ _ (descriptor_of kept stands.write)
                  stands.says_so (
                    inr (place, (omega (arith, all)), inr refl),
                    (let write = stands.write in
                        let P : List ℕ → Type 0 = λ x. Loads (load_process s.geometry i kept left (place + 1) (with_write_by_number (record { number = write.number; vblock = write.vblock; block = x }) (standing_below s.geometry place writes))) in
                        let there : Some (device (data_at s.geometry i place)) ≡ Some write.block =
                        subst (λ n. Some (device (data_at s.geometry i n)) ≡ Some write.block) stands.place (journal.fits.blocks stands.index write stands.at) in
                        let block : device (data_at s.geometry i place) ≡ write.block = cc in
                        subst P (sym block)
                        (subst Q (sym (below-more s.geometry place (applied_of kept) writes (ascending-numbered (applied_of kept) writes journal.fits.numbers) stands.index write stands.at stands.place
                        (λ j w at same. slot-one s.geometry device i kept writes journal j stands.index w write at stands.at (same ∙ sym stands.place)))) ih)),
                    held-fault k (data_at s.geometry i place) none',
                  )
            ],
            held-fault k (descriptor_at s.geometry i place) none',
          )

    pub load-attaches : (k : Known) (until : ℕ) → k.sessions i ≡ None → Attaches (load_image s k i until)
    load-attaches k until none' = (
      inl refl,
      (let P : Option ImageRecord → Type 0 = λ o. Attaches (after_record s k i until o) in
          let is : attached_record (device (record_at s.geometry i)) ≡ Some kept =
          ap plain_record journal.fits.found ∙ ap (λ (t : Bool). if t then Some kept else None) journal.fits.plain in
          subst P (sym is) (by_live (is_live kept) refl)),
      held-fault k (record_at s.geometry i) none',
    )
      where
        by_live : (b : Bool) → is_live kept ≡ b → Attaches (load_journal s k i until kept b)
        by_live true live =
            let P : List Journaled → Type 0 = λ ws. Loads k until none' (load_process s.geometry i kept s.geometry.slots 0 ws) in
            subst P (below-none s.geometry writes) (held-load k until none' s.geometry.slots 0 (omega arith))
        by_live false dead =
            let P : List Journaled → Type 0 = λ ws. Attaches (attach_ends s k i until (record { image = kept; writes = ws })) in
            subst P (free-none s.geometry device i kept writes journal dead) (held-attached k until)
