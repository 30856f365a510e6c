-- The commands of a session whose image's lease is held.
use Rattle.std.proofs.Common.{◌≡◌, ℕ, ◌+◌, ◌≤◌, ◌<◌, ◌⊎◌, inl, inr, List, [], ◌∷◌, ◌++◌, drop, length, Bool, true, false, Option, Some, None, refl, ap, sym, subst, ◌∙◌, arith}
use Rattle.std.specs.Prelude.{is_some, ◌==◌, ◌&&◌, nat_lt, nat_le, unwrap_or, not}
use Rattle.std.proofs.lemmas.Bool.Decides.{eqb_tells}
use Rattle.plx_base.specs.Canonical.{payload_of}
use Rattle.plx_base.specs.Labels.{IsLabel}
use Rattle.plx_base.specs.Payload.{bytes_of}
use Rattle.plx_base.specs.Sectors.{Device, put, with_landed_sectors}
use Rattle.plx_base.specs.declared.payload.Payload.{Payload}
use Rattle.plx_base.specs.declared.write_kind.WriteKind.TheVariants as kind
use Rattle.plx_base.proofs.Canonical.{bytes_of-payload_of}
use Rattle.plx_base.proofs.Devices.{put-same, put-again}
use Rattle.plx_base.proofs.Mixed.{mixed-first_sector}
use Rattle.plx_base.proofs.Spelling.{only-first}
use Rattle.plx_commands.specs.Facts.{refusals, of_claims, of_none, of_some, of_block, of_size, of_generation, of_writes, where_holds, where_is, is_size, is_worn, IsAmong}
use Rattle.plx_commands.specs.Images.{Image, image_after_write, new_image, free_image}
use Rattle.plx_commands.specs.Limits.{last_generation, last_write, greatest_size}
use Rattle.plx_commands.specs.Model.{Model, Slot, owns_all}
use Rattle.plx_commands.specs.Moves.{given_up, slot_after_change, slot_without_owner, where_owned, refused_at, model_after_reply}
use Rattle.plx_commands.specs.Places.{at}
use Rattle.plx_commands.specs.Replies.{number_of, is_in, row, ends_sessions}
use Rattle.plx_commands.specs.Slots.{changed_slot}
use Rattle.plx_commands.specs.declared.command.Command.{Command}
use Rattle.plx_commands.specs.declared.command.Command.TheVariants.{Attach, Detach, Create, Delete, Read, Write}
use Rattle.plx_commands.specs.declared.reply.Reply.{Reply}
use Rattle.plx_commands.specs.declared.reply.Reply.TheVariants.{Detached, Created, Deleted, Data, Written, NotAttached, AlreadyAttached, NoImage, Exists, OutOfRange, Full, WornOut}
use Rattle.plx_commands.proofs.Accepted.{Answers, ok-answers, other-answers, founded-answers, among-more}
use Rattle.plx_commands.proofs.Places.{at-same}
use Rattle.plx_gate.specs.Descriptors.{descriptor_bytes, IsDescriptor}
use Rattle.plx_gate.specs.Images.{image_bytes, IsImage}
use Rattle.plx_gate.specs.declared.image.ImageRecord.{ImageRecord}
use Rattle.plx_gate.specs.declared.image.ImageRecord.TheVariants as image_is
use Rattle.plx_gate.proofs.Descriptors.{descriptor-back}
use Rattle.plx_geom.specs.Geometry.{record_at, descriptor_at, data_at}
use Rattle.plx_base.proofs.Tests.{nat_lt-true, not-false, nat_le-past}
use Rattle.plx_rules.specs.Process.{Process}
use Rattle.plx_rules.specs.Journaled.{Journaled}
use Rattle.plx_rules.specs.Attaching.{image_use}
use Rattle.plx_rules.specs.Commands.{unless, record_process, create_process, delete_process, read_process, journal_process, write_process}
use Rattle.plx_rules.specs.Ends.{End, ends, write_then, ends_in_time}
use Rattle.plx_rules.specs.Headline.{IsUndamaged}
use Rattle.plx_rules.specs.Journal.{descriptor_of}
use Rattle.plx_rules.specs.Records.{is_live, is_plain, generation_of, size_of, applied_of, made_record}
use Rattle.plx_rules.specs.Session.{Session, Known, with_session, new_session, write_count, content, with_write}
use Rattle.plx_rules.specs.Settings.{Setting}
use Rattle.law_headline.proofs.Held.{With, Looks, HasImage, HeldProcess}
use Rattle.law_headline.proofs.HeldFrames.{same-all}
use Rattle.law_headline.proofs.ImageFacts.{image-drop}
use Rattle.law_headline.proofs.JournalFacts.{IsJournal-data, IsJournal-same, IsJournal-more, IsJournal-made, kept-limits, recorded}
use Rattle.law_headline.proofs.Journals.{IsJournal, IsShown, HoldsSlot, next_slot}
use Rattle.law_model.proofs.Owners.{owns-own}
use Rattle.law_model.proofs.Replied.{refused-given}
use Rattle.law_headline.proofs.HeldCommands.{slot_no, held-ends, shown-more, size-tells}
use Rattle.law_run.proofs.Slots.{slot-below}

-- the change that a command gives up is this slot's, or it has none
abbrev pub IsChangeOf : Command → Option Image → ℕ → Type 0
IsChangeOf command change i = (changed_slot command ≡ Some i) ⊎ ((changed_slot command ≡ None) × (change ≡ None))

module _ (s : Setting) (a i : ℕ) (within : i < s.geometry.images) (few : s.geometry.slots ≤ 64) (known : Known) (device : Device) (kept : ImageRecord) (writes : List Journaled) (image : Image)
    (journal : IsJournal s.geometry device i kept writes) (left : IsShown kept writes image) (has : known.sessions i ≡ Some (record { image = kept; writes = writes })) where
  abbrev session : Session
  session = record { image = kept; writes = writes }

  -- the model as its owner sees it
  abbrev Sees : Command → Option Image → Model → Type 0
  Sees command change m = Looks s.geometry a i command known (With image change) m

  abbrev Sits : Command → Option Image → Process End → Type 0
  Sits command change process = HeldProcess s.geometry a i command known (With image change) process device

  attached-in : (command : Command) (change : Option Image) (m : Model) → Sees command change m → m.sessions a i ≡ true
  attached-in command change m looks = looks.running.sessions i ∙ ap (λ (o : Option Session). is_some o) has

  -- the facts of the slot are those of the image
  facts-of : (command : Command) (change : Option Image) (m : Model) → Sees command change m → (facts : Image → List Reply) →
      where_holds (not (m.sessions a i && true)) NotAttached ++ where_is (nat_lt i m.images) (facts (m.slots i).image) ≡ facts image
  facts-of command change m looks facts =
      let n : nat_lt i m.images ≡ true = nat_lt-true i m.images (let e = looks.running.images in omega (arith, e, within)) in
      rw (attached-in command change m looks, n) (ap facts looks.slot.1)

  is-session : (t : Session) → known.sessions i ≡ Some t → session ≡ t
  is-session t is = let f : Some session ≡ Some t = sym has ∙ is in cc

  abbrev Stays : Slot → Type 0
  Stays t = HoldsSlot s.geometry device i t × ((x : Session) → known.sessions i ≡ Some x → HasImage s.geometry i a x device t)

  -- a reply that leaves the image, in a slot that is decided
  still : (command : Command) (change : Option Image) (m : Model) → Sees command change m → (t : Slot) → t.owner ≡ Some a → t.change ≡ None → t.image ≡ (m.slots i).image → Stays t
  still command change m looks t owner decided same =
      let l : IsShown kept writes t.image = subst (λ (x : Image). IsShown kept writes x) (sym (same ∙ looks.slot.1)) left in (
        record { kept = kept; writes = writes; journal = journal; either = inl l },
        λ x is.
            let P : Session → Type 0 = λ y. HasImage s.geometry i a y device t in
            subst P (is-session x is) (record { owner = owner; decided = decided; journal = journal; left = l }),
      )

  pub keeps-with : (command : Command) (change : Option Image) (m : Model) → Sees command change m → HoldsSlot s.geometry device i (m.slots i)
  keeps-with command change m looks = record { kept = kept; writes = writes; journal = journal; either = inl (subst (λ (x : Image). IsShown kept writes x) (sym looks.slot.1) left) }

  -- the slot once the owner's change is given up
  refused-slot : (m : Model) → (m.slots i).owner ≡ Some a → refused_at m a (Some i) i ≡ given_up (m.slots i)
  refused-slot m owner =
      ap (λ (b : Bool). where_owned b m.slots i (given_up (m.slots i)) i) (owns-own (m.slots i).owner a owner) ∙ at-same m.slots i (given_up (m.slots i))

  stays-refused : (command : Command) (change : Option Image) (m : Model) → Sees command change m → IsChangeOf command change i → Stays (refused_at m a (changed_slot command) i)
  stays-refused command change m looks (inl mine) =
      let P : Option ℕ → Type 0 = λ o. Stays (refused_at m a o i) in
      let Q : Slot → Type 0 = λ t. Stays t in
      subst P (sym mine) (subst Q (sym (refused-slot m looks.slot.0)) (still command change m looks (given_up (m.slots i)) looks.slot.0 refl refl))
  stays-refused command change m looks (inr none) =
      let P : Option ℕ → Type 0 = λ o. Stays (refused_at m a o i) in
      subst P (sym none.0) (still command change m looks (m.slots i) looks.slot.0 (looks.slot.2 ∙ none.1) refl)

  -- a refusal that ends no session
  pub held-refused : (command : Command) (change : Option Image) (reply : Reply) → (number_of reply == 0) ≡ false → ends_sessions (number_of reply) ≡ false → IsChangeOf command change i → IsUndamaged reply →
      ((m : Model) → Sees command change m → Answers m a command reply) → Sits command change (ends reply known)
  held-refused command change reply refusal stays gone fine answers = λ m looks.
      let is : (model_after_reply m a command reply).slots i ≡ refused_at m a (changed_slot command) i = ap (λ (n : Model). n.slots i) (refused-given m a command reply refusal stays) in
      let Q : Slot → Type 0 = λ t. Stays t in
      let st = subst Q (sym is) (stays-refused command change m looks gone) in
      (answers m looks, st.0, st.1, fine)

  -- a refusal whose fact holds
  held-founded : (command : Command) (change : Option Image) (reply : Reply) → is_in (number_of reply) (row command) ≡ true → (number_of reply == 0) ≡ false → ends_sessions (number_of reply) ≡ false →
      IsChangeOf command change i → IsUndamaged reply → ((m : Model) → Sees command change m → IsAmong reply (refusals m a command)) → Sits command change (ends reply known)
  held-founded command change reply listed refusal stays gone fine among =
      held-refused command change reply refusal stays gone fine (λ m looks. founded-answers m a command reply listed refusal (among-more reply (refusals m a command) (of_claims command) (among m looks)))

  pub held-detach : (change : Option Image) → Sits (Detach (slot_no i)) change (ends Detached (with_session known i None))
  held-detach change = λ m looks.
      let k = keeps-with (Detach (slot_no i)) change m looks in
      let K : Slot → Type 0 = λ t. HoldsSlot s.geometry device i t in (
        ok-answers m a (Detach (slot_no i)) Detached refl refl refl tt (rw (attached-in (Detach (slot_no i)) change m looks) refl),
        subst K (sym (at-same m.slots i (slot_without_owner (m.slots i) a))) (record { kept = k.kept; writes = k.writes; journal = k.journal; either = k.either }),
        λ x is. absurd (let e : None ≡ Some x = sym (at-same known.sessions i None) ∙ is in let P : ⊥ = cc in P),
        tt,
      )

  pub held-attach : Sits (Attach (slot_no i)) None (ends AlreadyAttached known)
  held-attach = held-founded (Attach (slot_no i)) None AlreadyAttached refl refl refl (inr (refl, refl)) tt (λ m looks. rw (attached-in (Attach (slot_no i)) None m looks) (inl refl))

  -- ---- a read

  -- the facts of a block of the image, by its record
  of_kept : (vblock : ℕ) → of_none image ++ of_block image vblock ≡ where_holds (not (is_live kept)) NoImage ++ where_holds (nat_le (size_of kept) vblock) (OutOfRange (size_of kept))
  of_kept vblock = rw (left.live, left.size) refl

  pub held-read : (vblock until : ℕ) → Sits (Read (slot_no i) vblock) None (read_process s known i vblock session until)
  held-read vblock until = by_tests (not (is_live kept)) (nat_le (size_of kept) vblock) refl refl
    where
      command : Command
      command = Read (slot_no i) vblock

      facts : (m : Model) → Sees (Read (slot_no i) vblock) None m → (x y : Bool) → not (is_live kept) ≡ x → nat_le (size_of kept) vblock ≡ y →
          refusals m a (Read (slot_no i) vblock) ≡ where_holds x NoImage ++ where_holds y (OutOfRange (size_of kept))
      facts m looks x y ex ey =
          facts-of (Read (slot_no i) vblock) None m looks (λ image'. of_none image' ++ of_block image' vblock)
          ∙ (of_kept vblock ∙ ap (λ (b : Bool). where_holds b NoImage ++ where_holds (nat_le (size_of kept) vblock) (OutOfRange (size_of kept))) ex
          ∙ ap (λ (b : Bool). where_holds x NoImage ++ where_holds b (OutOfRange (size_of kept))) ey)

      by_tests : (x y : Bool) → not (is_live kept) ≡ x → nat_le (size_of kept) vblock ≡ y →
          Sits (Read (slot_no i) vblock) None (unless x NoImage known (unless y (OutOfRange (size_of kept)) known (ends_in_time s known (image_use i until) (Data (payload_of (content session vblock))) known)))
      by_tests true y ex ey =
          held-founded (Read (slot_no i) vblock) None NoImage refl refl refl (inr (refl, refl)) tt
          (λ m looks. let P : List Reply → Type 0 = λ l. IsAmong NoImage l in subst P (sym (facts m looks true y ex ey)) (inl refl))
      by_tests false true ex ey =
          held-founded (Read (slot_no i) vblock) None (OutOfRange (size_of kept)) refl refl refl (inr (refl, refl)) tt
          (λ m looks. let P : List Reply → Type 0 = λ l. IsAmong (OutOfRange (size_of kept)) l in subst P (sym (facts m looks false true ex ey)) (inl refl))
      by_tests false false ex ey =
          held-ends s a i (Read (slot_no i) vblock) known (With image None) device (keeps-with (Read (slot_no i) vblock) None) known known (image_use i until) (Data (payload_of (content session vblock)))
          (λ m looks. let st = still (Read (slot_no i) vblock) None m looks (m.slots i) looks.slot.0 looks.slot.2 refl in (
            ok-answers m a (Read (slot_no i) vblock) (Data (payload_of (content session vblock))) refl refl (ap (λ (b : Bool). b && true) (owns-own (m.slots i).owner a looks.slot.0))
                ((let e = looks.running.images in omega (arith, e, within)), bytes_of-payload_of (content session vblock) ∙ (sym (left.blocks vblock) ∙ ap (λ (x : Image). x.content vblock) (sym looks.slot.1)))
                (facts m looks false false ex ey),
            st.0,
            st.1,
            tt,
          ))

  -- ---- a write

  -- a write, from its place and number
  abbrev writing_at : ℕ → List ℕ → ℕ → (place number : ℕ) → Process End
  writing_at vblock bytes until place number =
      write_then s known (record { lease = 1 + i; until = until }) kind.JData (data_at s.geometry i place) bytes
      (write_then s known (record { lease = 1 + i; until = until }) kind.JCommit (descriptor_at s.geometry i place)
      (descriptor_bytes (record { generation = generation_of kept; vblock = vblock; number = number }))
      (ends_in_time s known (image_use i until) (Written number) (with_session known i (Some (with_write session (record { number = number; vblock = vblock; block = bytes }))))))

  module _ (vblock : ℕ) (payload : Payload) (until : ℕ) (change : Option Image) (long : length (bytes_of payload) ≡ 4096) where
    abbrev writes_block : Command
    writes_block = Write (slot_no i) vblock payload

    write-facts : (m : Model) → Sees writes_block change m → (x y z : Bool) → not (is_live kept) ≡ x → nat_le (size_of kept) vblock ≡ y → is_worn last_write (write_count session) ≡ z →
        refusals m a writes_block ≡ where_holds x NoImage ++ (where_holds y (OutOfRange (size_of kept)) ++ where_holds z (WornOut last_write))
    write-facts m looks x y z ex ey ez =
        facts-of writes_block change m looks (λ image'. of_none image' ++ (of_block image' vblock ++ of_writes image'))
        ∙ (by_image ∙ (ap (λ (b : Bool). where_holds b NoImage ++ (where_holds (nat_le (size_of kept) vblock) (OutOfRange (size_of kept)) ++ where_holds (is_worn last_write (write_count session)) (WornOut last_write))) ex
        ∙ (ap (λ (b : Bool). where_holds x NoImage ++ (where_holds b (OutOfRange (size_of kept)) ++ where_holds (is_worn last_write (write_count session)) (WornOut last_write))) ey
        ∙ ap (λ (b : Bool). where_holds x NoImage ++ (where_holds y (OutOfRange (size_of kept)) ++ where_holds b (WornOut last_write))) ez)))
      where
        by_image : of_none image ++ (of_block image vblock ++ of_writes image)
            ≡ where_holds (not (is_live kept)) NoImage ++ (where_holds (nat_le (size_of kept) vblock) (OutOfRange (size_of kept)) ++ where_holds (is_worn last_write (write_count session)) (WornOut last_write))
        by_image = rw (left.live, left.size, left.count) refl

    held-writing : change ≡ Some (image_after_write image vblock (bytes_of payload)) → not (is_live kept) ≡ false → nat_le (size_of kept) vblock ≡ false → is_worn last_write (write_count session) ≡ false → length writes < s.geometry.slots →
        Sits writes_block change (writing_at vblock (bytes_of payload) until (next_slot s.geometry kept writes) (write_count session + 1))
    held-writing is-change lives less young room =
        let bytes = bytes_of payload in
        let regime = With image change in
        let n = next_slot s.geometry kept writes in
        let some : 1 ≤ s.geometry.slots = omega (arith, room) in
        let place : n < s.geometry.slots = slot-below s.geometry.slots (write_count session + 1) some in
        let write : Journaled = record { number = write_count session + 1; vblock = vblock; block = bytes } in
        let d = descriptor_of kept write in
        let lives' = not-false (is_live kept) lives in
        let less' = nat_le-past (size_of kept) vblock less in
        let young' = nat_le-past last_write (write_count session) young in
        let kept' = kept-limits kept (recorded s.geometry device i kept writes journal).0 in
        let size = kept'.size in
        let limits : IsDescriptor d =
        record { generation_low = kept'.made lives'; generation_high = kept'.generation; vblock = omega (arith, less', size); number_low = omega arith; number_high = omega (arith, young') } in
        let filled : Device = put device (data_at s.geometry i n) bytes in
        let journal' : IsJournal s.geometry filled i kept writes = IsJournal-data s.geometry device i kept writes bytes journal room in
        let committed : Device = put filled (descriptor_at s.geometry i n) (descriptor_bytes d) in
        let commit : IsJournal s.geometry committed i kept (writes ++ write ∷ []) =
        IsJournal-more s.geometry filled i kept writes write journal' limits lives' some room refl less' (put-same device (data_at s.geometry i n) bytes) in
        let left' : IsShown kept (writes ++ write ∷ []) (image_after_write image vblock bytes) = shown-more kept writes image write left in
        let keeps' : (m : Model) → Sees writes_block change m → HoldsSlot s.geometry committed i (m.slots i) =
        λ m looks. record { kept = kept; writes = writes ++ write ∷ []; journal = commit; either = inr (image_after_write image vblock bytes, looks.slot.2 ∙ is-change, left') } in
        let rest : drop 512 (descriptor_bytes d) ≡ drop 512 (filled (descriptor_at s.geometry i n)) = elim (journal'.old n place) [
          | inl empty ↦ descriptor-back d ∙ ap (drop 512) (sym empty)
          | inr old ↦ descriptor-back d ∙ (sym (descriptor-back old.0) ∙ ap (drop 512) (sym old.1))
        ] in (
          inr (n, place, inr refl),
          λ flags count m looks. record {
            kept = kept;
            writes = writes;
            journal = IsJournal-data s.geometry device i kept writes (with_landed_sectors flags bytes (device (data_at s.geometry i n))) journal room;
            either = inl (subst (λ (x : Image). IsShown kept writes x) (sym looks.slot.1) left);
          },
          (
            inr (n, place, inl refl),
            λ flags count m looks. elim (mixed-first_sector flags (descriptor_bytes d) (filled (descriptor_at s.geometry i n)) rest) [
              | inl new ↦
                  let P : List ℕ → Type 0 = λ x. HoldsSlot s.geometry (put filled (descriptor_at s.geometry i n) x) i (m.slots i) in
                  subst P (sym new) (keeps' m looks)
              | inr old ↦
                  let P : List ℕ → Type 0 = λ x. HoldsSlot s.geometry (put filled (descriptor_at s.geometry i n) x) i (m.slots i) in
                  subst P (sym old) (record {
                    kept = kept;
                    writes = writes;
                    journal = IsJournal-same s.geometry filled (put filled (descriptor_at s.geometry i n) (filled (descriptor_at s.geometry i n))) i kept writes
                        (same-all s.geometry i filled (put filled (descriptor_at s.geometry i n) (filled (descriptor_at s.geometry i n))) (put-again filled (descriptor_at s.geometry i n))) journal';
                    either = inl (subst (λ (x : Image). IsShown kept writes x) (sym looks.slot.1) left);
                  })
            ],
            held-ends s a i writes_block known regime committed keeps' known (with_session known i (Some (with_write session write))) (image_use i until) (Written (write_count session + 1))
                (λ m looks.
                let slot = slot_after_change (m.slots i) in
                let is : at m.slots i slot i ≡ slot = at-same m.slots i slot in
                let image' : slot.image ≡ image_after_write image vblock bytes = ap (λ (c : Option Image). unwrap_or c (m.slots i).image) (looks.slot.2 ∙ is-change) in
                let l : IsShown kept (writes ++ write ∷ []) slot.image = subst (λ (x : Image). IsShown kept (writes ++ write ∷ []) x) (sym image') left' in
                let K : Slot → Type 0 = λ t. HoldsSlot s.geometry committed i t in
                let session' = with_write session write in
                let H : Slot → Type 0 = λ t. HasImage s.geometry i a session' committed t in (
                  ok-answers m a writes_block (Written (write_count session + 1)) refl refl (ap (λ (b : Bool). b && true) (owns-own (m.slots i).owner a looks.slot.0)) (
                    (let e = looks.running.images in omega (arith, e, within)),
                    (let c : (m.slots i).image.writes ≡ applied_of kept + length writes = ap (λ (x : Image). x.writes) looks.slot.1 ∙ left.count in omega (arith, c)),
                  )
                      (write-facts m looks false false false lives less young),
                  subst K (sym is) (record { kept = kept; writes = writes ++ write ∷ []; journal = commit; either = inl l }),
                  λ t known'.
                      let same : session' ≡ t = (let f : Some session' ≡ Some t = sym (at-same known.sessions i (Some session')) ∙ known' in cc) in
                      let P : Session → Type 0 = λ x. HasImage s.geometry i a x committed (at m.slots i slot i) in
                      subst P same (subst H (sym is) (record { owner = looks.slot.0; decided = refl; journal = commit; left = l })),
                  tt,
                )),
            tt,
            only-first (descriptor_bytes d) (filled (descriptor_at s.geometry i n)) rest,
          ),
          tt,
          tt,
        )

    pub held-write : (is_live kept ≡ true → vblock < size_of kept → is_worn last_write (write_count session) ≡ false → change ≡ Some (image_after_write image vblock (bytes_of payload))) →
        Sits writes_block change (write_process s known i vblock (bytes_of payload) session until)
    held-write is-change = by_tests (not (is_live kept)) (nat_le (size_of kept) vblock) (is_worn last_write (write_count session)) (length writes == s.geometry.slots) refl refl refl refl
      where
        writing : not (is_live kept) ≡ false → nat_le (size_of kept) vblock ≡ false → is_worn last_write (write_count session) ≡ false → (length writes == s.geometry.slots) ≡ false →
            Sits writes_block change (journal_process s known i vblock (bytes_of payload) session until)
        writing lives less young room =
            let fits = journal.fits.room in
            let room' : length writes < s.geometry.slots = elim (eqb_tells (length writes) s.geometry.slots) [
              | inl full ↦ absurd (let f : true ≡ false = sym full.0 ∙ room in let P : ⊥ = cc in P)
              | inr other ↦ omega (arith, other.1, fits)
            ] in
            held-writing (is-change (not-false (is_live kept) lives) (nat_le-past (size_of kept) vblock less) young) lives less young room'

        by_tests : (x y z f : Bool) → not (is_live kept) ≡ x → nat_le (size_of kept) vblock ≡ y → is_worn last_write (write_count session) ≡ z → (length writes == s.geometry.slots) ≡ f →
            Sits writes_block change (unless x NoImage known (unless y (OutOfRange (size_of kept)) known (unless z (WornOut last_write) known (unless f Full known
            (journal_process s known i vblock (bytes_of payload) session until)))))
        by_tests true y z f ex ey ez ef = held-founded writes_block change NoImage refl refl refl (inl refl) tt
            (λ m looks. let P : List Reply → Type 0 = λ l. IsAmong NoImage l in subst P (sym (write-facts m looks true y z ex ey ez)) (inl refl))
        by_tests false true z f ex ey ez ef = held-founded writes_block change (OutOfRange (size_of kept)) refl refl refl (inl refl) tt
            (λ m looks. let P : List Reply → Type 0 = λ l. IsAmong (OutOfRange (size_of kept)) l in subst P (sym (write-facts m looks false true z ex ey ez)) (inl refl))
        by_tests false false true f ex ey ez ef = held-founded writes_block change (WornOut last_write) refl refl refl (inl refl) tt
            (λ m looks. let P : List Reply → Type 0 = λ l. IsAmong (WornOut last_write) l in subst P (sym (write-facts m looks false false true ex ey ez)) (inl refl))
        by_tests false false false true ex ey ez ef = held-refused writes_block change Full refl refl (inl refl) tt (λ m looks. other-answers m a writes_block Full refl refl refl)
        by_tests false false false false ex ey ez ef = writing ex ey ez ef

  -- ---- a record: an image is made, or deleted

  held-record : (command : Command) (change : Option Image) (new : ImageRecord) (image' : Image) (until : ℕ) (done' : Reply) → IsUndamaged done' → change ≡ Some image' → IsShown new [] image' →
      IsImage new → is_plain new ≡ true → generation_of kept ≤ generation_of new → (is_live new ≡ true → generation_of kept < generation_of new) →
      ((m : Model) → Sees command change m → Answers m a command done') →
      ((m : Model) → (model_after_reply m a command done').slots i ≡ at m.slots i (slot_after_change (m.slots i)) i) →
      Sits command change (record_process s known i until new done')
  held-record command change new image' until done' fine is-change shown limits plain later fresh answers slots =
      let block = record_at s.geometry i in
      let session' = new_session new in
      let written' : Device = put device block (image_bytes new) in
      let journal' : IsJournal s.geometry written' i new [] = IsJournal-made s.geometry device i kept new writes journal limits plain later fresh in
      let keeps' : (m : Model) → Sees command change m → HoldsSlot s.geometry written' i (m.slots i) =
      λ m looks. record { kept = new; writes = []; journal = journal'; either = inr (image', looks.slot.2 ∙ is-change, shown) } in
      let was = recorded s.geometry device i kept writes journal in
      let rest : drop 512 (image_bytes new) ≡ drop 512 (device block) = image-drop new kept limits was.0 ∙ ap (drop 512) (sym was.1) in (
        inl refl,
        λ flags count m looks. elim (mixed-first_sector flags (image_bytes new) (device block) rest) [
          | inl whole ↦
              let P : List ℕ → Type 0 = λ x. HoldsSlot s.geometry (put device block x) i (m.slots i) in
              subst P (sym whole) (keeps' m looks)
          | inr old ↦
              let P : List ℕ → Type 0 = λ x. HoldsSlot s.geometry (put device block x) i (m.slots i) in
              subst P (sym old) (record {
                kept = kept;
                writes = writes;
                journal = IsJournal-same s.geometry device (put device block (device block)) i kept writes (same-all s.geometry i device (put device block (device block)) (put-again device block)) journal;
                either = inl (subst (λ (x : Image). IsShown kept writes x) (sym looks.slot.1) left);
              })
        ],
        held-ends s a i command known (With image change) written' keeps' known (with_session known i (Some session')) (image_use i until) done'
            (λ m looks.
            let slot = slot_after_change (m.slots i) in
            let is : (model_after_reply m a command done').slots i ≡ slot = slots m ∙ at-same m.slots i slot in
            let image-is : slot.image ≡ image' = ap (λ (c : Option Image). unwrap_or c (m.slots i).image) (looks.slot.2 ∙ is-change) in
            let l : IsShown new [] slot.image = subst (λ (x : Image). IsShown new [] x) (sym image-is) shown in
            let K : Slot → Type 0 = λ t. HoldsSlot s.geometry written' i t in
            let H : Session → Slot → Type 0 = λ x t. HasImage s.geometry i a x written' t in (
              answers m looks,
              subst K (sym is) (record { kept = new; writes = []; journal = journal'; either = inl l }),
              λ t known'.
                  let same : session' ≡ t = (let e : Some session' ≡ Some t = sym (at-same known.sessions i (Some session')) ∙ known' in cc) in
                  subst (λ (x : Session). H x ((model_after_reply m a command done').slots i)) same
                  (subst (H session') (sym is) (record { owner = looks.slot.0; decided = refl; journal = journal'; left = l })),
              fine,
            )),
        tt,
        only-first (image_bytes new) (device block) rest,
      )

  owned-one : (m : Model) → (m.slots i).owner ≡ Some a → owns_all m a (i ∷ []) ≡ true
  owned-one m owner = ap (λ (b : Bool). b && true) (owns-own (m.slots i).owner a owner)

  pub held-delete : (until : ℕ) (change : Option Image) → (is_live kept ≡ true → change ≡ Some (free_image image.generation)) →
      Sits (Delete (slot_no i)) change (delete_process s known i session until)
  held-delete until change is-change = by_test (not (is_live kept)) refl
    where
      facts : (m : Model) → Sees (Delete (slot_no i)) change m → (x : Bool) → not (is_live kept) ≡ x → refusals m a (Delete (slot_no i)) ≡ where_holds x NoImage
      facts m looks x ex = facts-of (Delete (slot_no i)) change m looks of_none ∙ (rw left.live refl ∙ ap (λ (b : Bool). where_holds b NoImage) ex)

      by_test : (x : Bool) → not (is_live kept) ≡ x → Sits (Delete (slot_no i)) change (unless x NoImage known (record_process s known i until (image_is.Free (generation_of kept)) Deleted))
      by_test true ex = held-founded (Delete (slot_no i)) change NoImage refl refl refl (inl refl) tt
          (λ m looks. let P : List Reply → Type 0 = λ l. IsAmong NoImage l in subst P (sym (facts m looks true ex)) (inl refl))
      by_test false ex =
          held-record (Delete (slot_no i)) change (image_is.Free (generation_of kept)) (free_image image.generation) until Deleted tt (is-change (not-false (is_live kept) ex))
          (record { live = refl; generation = left.generation; size = refl; label = refl; count = refl; blocks = λ v. refl; frozen = refl })
          (kept-limits kept (recorded s.geometry device i kept writes journal).0).generation refl (omega arith) (λ dead. absurd (let P : ⊥ = cc in P))
          (λ m looks. ok-answers m a (Delete (slot_no i)) Deleted refl refl (owned-one m looks.slot.0) (let e = looks.running.images in omega (arith, e, within)) (facts m looks false ex))
          (λ m. refl)

  pub held-create : (size : ℕ) (label : List ℕ) (until : ℕ) (change : Option Image) → IsLabel label →
      (is_live kept ≡ false → not (is_size size) ≡ false → is_worn last_generation (generation_of kept) ≡ false → change ≡ Some (new_image (image.generation + 1) size label)) →
      Sits (Create (slot_no i) size label) change (create_process s known i size label session until)
  held-create size label until change is-label is-change = by_tests (is_live kept) (not (is_size size)) (is_worn last_generation (generation_of kept)) refl refl refl
    where
      facts : (m : Model) → Sees (Create (slot_no i) size label) change m → (x y z : Bool) → is_live kept ≡ x → not (is_size size) ≡ y → is_worn last_generation (generation_of kept) ≡ z →
          refusals m a (Create (slot_no i) size label) ≡ where_holds x Exists ++ (where_holds y (OutOfRange greatest_size) ++ where_holds z (WornOut last_generation))
      facts m looks x y z ex ey ez =
          facts-of (Create (slot_no i) size label) change m looks (λ image'. of_some image' ++ (of_size size ++ of_generation image'))
          ∙ (by_image ∙ (ap (λ (b : Bool). where_holds b Exists ++ (where_holds (not (is_size size)) (OutOfRange greatest_size) ++ where_holds (is_worn last_generation (generation_of kept)) (WornOut last_generation))) ex
          ∙ (ap (λ (b : Bool). where_holds x Exists ++ (where_holds b (OutOfRange greatest_size) ++ where_holds (is_worn last_generation (generation_of kept)) (WornOut last_generation))) ey
          ∙ ap (λ (b : Bool). where_holds x Exists ++ (where_holds y (OutOfRange greatest_size) ++ where_holds b (WornOut last_generation))) ez)))
        where
          by_image : of_some image ++ (of_size size ++ of_generation image)
              ≡ where_holds (is_live kept) Exists ++ (where_holds (not (is_size size)) (OutOfRange greatest_size) ++ where_holds (is_worn last_generation (generation_of kept)) (WornOut last_generation))
          by_image = rw (left.live, left.generation) refl

      by_tests : (x y z : Bool) → is_live kept ≡ x → not (is_size size) ≡ y → is_worn last_generation (generation_of kept) ≡ z →
          Sits (Create (slot_no i) size label) change (unless x Exists known (unless y (OutOfRange greatest_size) known (unless z (WornOut last_generation) known
          (record_process s known i until (made_record (generation_of kept + 1) size label) Created))))
      by_tests true y z ex ey ez = held-founded (Create (slot_no i) size label) change Exists refl refl refl (inl refl) tt
          (λ m looks. let P : List Reply → Type 0 = λ l. IsAmong Exists l in subst P (sym (facts m looks true y z ex ey ez)) (inl refl))
      by_tests false true z ex ey ez = held-founded (Create (slot_no i) size label) change (OutOfRange greatest_size) refl refl refl (inl refl) tt
          (λ m looks. let P : List Reply → Type 0 = λ l. IsAmong (OutOfRange greatest_size) l in subst P (sym (facts m looks false true z ex ey ez)) (inl refl))
      by_tests false false true ex ey ez = held-founded (Create (slot_no i) size label) change (WornOut last_generation) refl refl refl (inl refl) tt
          (λ m looks. let P : List Reply → Type 0 = λ l. IsAmong (WornOut last_generation) l in subst P (sym (facts m looks false false true ex ey ez)) (inl refl))
      by_tests false false false ex ey ez =
          let sizes = size-tells size ey in
          let young = nat_le-past last_generation (generation_of kept) ez in
          held-record (Create (slot_no i) size label) change (made_record (generation_of kept + 1) size label) (new_image (image.generation + 1) size label) until Created tt (is-change ex ey ez)
          (record { live = refl; generation = ap (λ n. n + 1) left.generation; size = refl; label = refl; count = refl; blocks = λ v. refl; frozen = refl })
          (record { generation_low = omega arith; generation_high = omega (arith, young); size_low = omega (arith, sizes.0); size_high = sizes.1; taken_high = omega arith; root_pointer = inl refl; applied_high = omega arith; label_is = is-label })
          refl (omega arith) (λ x. omega arith)
          (λ m looks. ok-answers m a (Create (slot_no i) size label) Created refl refl (owned-one m looks.slot.0) (let e = looks.running.images in omega (arith, e, within)) (facts m looks false false false ex ey ez))
          (λ m. refl)
