-- What holds of the model after every trace that is permitted.
use Rattle.std.proofs.Common.{◌≡◌, ◌≢◌, ℕ, ◌+◌, ◌<◌, inl, inr, List, [], ◌∷◌, ◌++◌, length, Bool, true, false, Option, Some, None, refl, ap, sym, subst, ◌∙◌, arith}
use Rattle.std.specs.Prelude.{◌==◌, ◌&&◌, nat_lt, not}
use Rattle.std.proofs.lemmas.Bool.Decides.{eqb_tells}
use Rattle.plx_base.specs.declared.numbers.SlotNo.{SlotNo}
use Rattle.plx_commands.specs.Facts.{refusals, where_holds, where_is, of_none, is_none}
use Rattle.plx_commands.specs.Images.{Image, report_of, count_dropped}
use Rattle.plx_commands.specs.Judge.{Accepts}
use Rattle.plx_commands.specs.Model.{Model, Slot, first_model, images_in, owns_all, has_all}
use Rattle.plx_commands.specs.Moves.{under_way, slot_after_change, given_up, slot_after_attach, slot_without_owner, where_owned, begins_change, started_at, refused_at, done_at, model_at_rest, model_without_sessions, model_after_attach, model_after_detach, model_without_change, model_after_change, model_after_ok, model_after_sort, model_after_reply, replied_in, model_after_start, model_after, model_of}
use Rattle.plx_commands.specs.Places.{at}
use Rattle.plx_commands.specs.Replies.{number_of, is_own, ends_sessions}
use Rattle.plx_commands.specs.Reports.{same_report, same_flag, same_bytes}
use Rattle.plx_commands.specs.Slots.{named_slots, changed_slot, image_after}
use Rattle.plx_commands.specs.declared.command.Command.{Command}
use Rattle.plx_commands.specs.declared.command.Command.TheVariants.{Attach, Detach, Create, Delete, Read, Write, Flush, Reserve, Renew, Retire, Reclaim}
use Rattle.plx_commands.specs.declared.reply.Report.{Report}
use Rattle.plx_commands.specs.declared.reply.Reply.{Reply}
use Rattle.plx_commands.specs.declared.reply.Reply.TheVariants.{Attached, NotAttached, NoImage}
use Rattle.plx_commands.specs.declared.entry.Entry.{Entry}
use Rattle.plx_commands.specs.declared.entry.Entry.TheVariants as entry
use Rattle.plx_commands.proofs.Accepted.{Answers, answers-of}
use Rattle.plx_commands.proofs.Places.{at-same, at-other, at-all}
use Rattle.plx_base.proofs.Tests.{eqb-false, nat_lt-true, and-no, and-parts}
use Rattle.law_model.specs.Sound.{Differs, ModelsAreSound, Sound}
use Rattle.law_model.proofs.Owners.{owner-cases, disowned-not, disowned-other, changed-owned}

-- a slot after a reply to appliance a, whose session of it is this flag
record After (a : ℕ) (flag inside : Type 0) (s t : Slot) : Type 0 where
  pub differs : Differs s → Differs t
  pub mine : t.owner ≡ Some a → (t.change ≡ None) × flag × inside
  pub others : (b : ℕ) → b ≢ a → t.owner ≡ Some b → (s.owner ≡ Some b) × ((i : Image) → t.change ≡ Some i → s.change ≡ Some i)

module _ (m : Model) (a : ℕ) where
  abbrev Goes : (ℕ → Slot) → (ℕ → Bool) → Type 0
  Goes slots sessions = (j : ℕ) → After a (sessions j ≡ true) (j < m.images) (m.slots j) (slots j)

  sound-rested : (slots : ℕ → Slot) (sessions : ℕ → Bool) → Sound m → Goes slots sessions → Sound (model_at_rest m a slots sessions)
  sound-rested slots sessions sound after = record {
    differs = λ j. (after j).differs (sound.differs j);
    within = λ b j e. elim (eqb_tells b a) [
      | inl same ↦ (let O : ℕ → Type 0 = λ n. (slots j).owner ≡ Some n in ((after j).mine (subst O same.1 e)).2)
      | inr away ↦ sound.within b j ((after j).others b away.1 e).0
    ];
    session = λ b j e. elim (eqb_tells b a) [
      | inl same ↦
          let P : ℕ → Type 0 = λ n. at m.sessions a sessions n j ≡ true in
          let O : ℕ → Type 0 = λ n. (slots j).owner ≡ Some n in
          subst P (sym same.1) (ap (λ (f : ℕ → Bool). f j) (at-same m.sessions a sessions) ∙ ((after j).mine (subst O same.1 e)).1)
      | inr away ↦ ap (λ (f : ℕ → Bool). f j) (at-other m.sessions a b sessions away.1) ∙ sound.session b j ((after j).others b away.1 e).0
    ];
    decided = λ b j i e c. elim (eqb_tells b a) [
      | inl same ↦
          let O : ℕ → Type 0 = λ n. (slots j).owner ≡ Some n in
          absurd (let f : None ≡ Some i = sym ((after j).mine (subst O same.1 e)).0 ∙ c in let P : ⊥ = cc in P)
      | inr away ↦
          let o = (after j).others b away.1 e in
          let w = sound.decided b j i o.0 (o.1 i c) in (w.0, at-other m.running a b None away.1 ∙ w.1, w.2)
    ];
  }

  -- a slot that stays, where the appliance's command doesn't change it
  after-same : (j : ℕ) (flag : Bool) → Sound m → flag ≡ m.sessions a j → ((c : Command) → m.running a ≡ Some c → changed_slot c ≡ Some j → ⊥) →
      After a (flag ≡ true) (j < m.images) (m.slots j) (m.slots j)
  after-same j flag sound is no_change = record {
    differs = λ d. d;
    mine = λ e. (none (m.slots j).change refl e, is ∙ sound.session a j e, sound.within a j e);
    others = λ b ne e. (e, λ i c. c);
  }
    where
      none : (c : Option Image) → (m.slots j).change ≡ c → (m.slots j).owner ≡ Some a → (m.slots j).change ≡ None
      none None is' e = is'
      none (Some i) is' e = let w = sound.decided a j i e is' in absurd (no_change w.0 w.1 w.2)

  after-back : (flag inside : Type 0) (s : Slot) → After a flag inside s (slot_without_owner s a)
  after-back flag inside s = record { differs = λ d. d; mine = λ e. absurd (disowned-not s.owner a e); others = λ b ne e. (disowned-other s.owner a b e, λ i c. c) }

  after-at : (slot : ℕ) (s : Slot) (sessions : ℕ → Bool) → After a (sessions slot ≡ true) (slot < m.images) (m.slots slot) s →
      ((j : ℕ) → j ≢ slot → After a (sessions j ≡ true) (j < m.images) (m.slots j) (m.slots j)) → Goes (at m.slots slot s) sessions
  after-at slot s sessions here others = at-all (λ j t. After a (sessions j ≡ true) (j < m.images) (m.slots j) t) m.slots slot s here others

  module _ (command : Command) (sound : Sound m) (runs : m.running a ≡ Some command) where
    -- the command that runs changes one slot, or none
    changes-none : changed_slot command ≡ None → (j : ℕ) (c : Command) → m.running a ≡ Some c → changed_slot c ≡ Some j → ⊥
    changes-none none j c is changes =
        let same : command ≡ c = (let e : Some command ≡ Some c = sym runs ∙ is in cc) in
        let e : None ≡ Some j = sym none ∙ (ap changed_slot same ∙ changes) in let P : ⊥ = cc in P

    changes-other : (slot : ℕ) → changed_slot command ≡ Some slot → (j : ℕ) → j ≢ slot → (c : Command) → m.running a ≡ Some c → changed_slot c ≡ Some j → ⊥
    changes-other slot some j ne c is changes =
        let same : command ≡ c = (let e : Some command ≡ Some c = sym runs ∙ is in cc) in
        ne (let e : Some slot ≡ Some j = sym some ∙ (ap changed_slot same ∙ changes) in cc)

    -- a change that is given up, and one that is made
    after-refused : (o : Option ℕ) → changed_slot command ≡ o → Goes (refused_at m a o) (m.sessions a)
    after-refused None is j = after-same j (m.sessions a j) sound refl (changes-none is j)
    after-refused (Some slot) is k = elim (owner-cases (m.slots slot).owner a) [
      | inl mine ↦
          let G : Bool → Type 0 = λ b. Goes (where_owned b m.slots slot (given_up (m.slots slot))) (m.sessions a) in
          subst G (sym mine.0) (after-at slot (given_up (m.slots slot)) (m.sessions a)
          (record {
            differs = λ d i e. absurd (let P : ⊥ = cc in P);
            mine = λ e. (refl, sound.session a slot e, sound.within a slot e);
            others = λ b ne e. (e, λ i c. absurd (let P : ⊥ = cc in P));
          })
          (λ j ne. after-same j (m.sessions a j) sound refl (changes-other slot is j ne))) k
      | inr away ↦
          let G : Bool → Type 0 = λ b. Goes (where_owned b m.slots slot (given_up (m.slots slot))) (m.sessions a) in
          subst G (sym away.0) (λ j. record {
            differs = λ d. d;
            mine = λ e. (none j (m.slots j).change refl e away.1, sound.session a j e, sound.within a j e);
            others = λ b ne e. (e, λ i c. c);
          }) k
    ]
      where
        none : (j : ℕ) (c : Option Image) → (m.slots j).change ≡ c → (m.slots j).owner ≡ Some a → (m.slots slot).owner ≢ Some a → (m.slots j).change ≡ None
        none j None is' e ne = is'
        none j (Some i) is' e ne = absurd (elim (eqb_tells j slot) [
          | inl same ↦ ne (ap (λ (n : ℕ). (m.slots n).owner) (sym same.1) ∙ e)
          | inr other ↦ (let w = sound.decided a j i e is' in changes-other slot is j other.1 w.0 w.1 w.2)
        ])

    after-done : (o : Option ℕ) → changed_slot command ≡ o → Goes (done_at m o) (m.sessions a)
    after-done None is j = after-same j (m.sessions a j) sound refl (changes-none is j)
    after-done (Some slot) is k = after-at slot (slot_after_change (m.slots slot)) (m.sessions a)
        (record {
          differs = λ d i e. absurd (let P : ⊥ = cc in P);
          mine = λ e. (refl, sound.session a slot e, sound.within a slot e);
          others = λ b ne e. (e, λ i c. absurd (let P : ⊥ = cc in P));
        })
        (λ j ne. after-same j (m.sessions a j) sound refl (changes-other slot is j ne)) k

    sound-given : Sound (model_without_change m a command)
    sound-given = sound-rested (refused_at m a (changed_slot command)) (m.sessions a) sound (after-refused (changed_slot command) refl)

    sound-done : Sound (model_after_change m a command)
    sound-done = sound-rested (done_at m (changed_slot command)) (m.sessions a) sound (after-done (changed_slot command) refl)

  sound-forgotten : Sound m → Sound (model_without_sessions m a)
  sound-forgotten sound = sound-rested (λ slot. slot_without_owner (m.slots slot) a) (λ slot. false) sound (λ j. after-back _ _ (m.slots j))

  sound-entered : (slot : SlotNo) (report : Report) → Sound m → m.running a ≡ Some (Attach slot) → slot.0 < m.images → Sound (model_after_attach m a slot.0 report)
  sound-entered slot report sound runs inside =
      sound-rested (at m.slots slot.0 (slot_after_attach (m.slots slot.0) a report)) (at (m.sessions a) slot.0 true) sound
      (after-at slot.0 (slot_after_attach (m.slots slot.0) a report) (at (m.sessions a) slot.0 true)
      (record {
        differs = λ d i e. absurd (let P : ⊥ = cc in P);
        mine = λ e. (refl, at-same (m.sessions a) slot.0 true, inside);
        others = λ b ne e. absurd (ne (cc));
      })
      (λ j ne. after-same j (at (m.sessions a) slot.0 true j) sound (at-other (m.sessions a) slot.0 j true ne) (changes-none (Attach slot) sound runs refl j)))

  sound-left : (slot : SlotNo) → Sound m → m.running a ≡ Some (Detach slot) → Sound (model_after_detach m a slot.0)
  sound-left slot sound runs =
      sound-rested (at m.slots slot.0 (slot_without_owner (m.slots slot.0) a)) (at (m.sessions a) slot.0 false) sound
      (after-at slot.0 (slot_without_owner (m.slots slot.0) a) (at (m.sessions a) slot.0 false) (after-back _ _ (m.slots slot.0))
      (λ j ne. after-same j (at (m.sessions a) slot.0 false j) sound (at-other (m.sessions a) slot.0 j false ne) (changes-none (Detach slot) sound runs refl j)))

  -- a command's own Ok
  sound-succeeded : (command : Command) (reply : Reply) → Sound m → m.running a ≡ Some command → Answers m a command reply → Sound (model_after_ok m a command reply)
  sound-succeeded (Attach slot) (Attached report) sound runs answers = sound-entered slot report sound runs (answers.value refl).0
  sound-succeeded (Attach slot) reply sound runs answers = sound-done (Attach slot) sound runs
  sound-succeeded (Detach slot) reply sound runs answers = sound-left slot sound runs
  sound-succeeded command reply sound runs answers = sound-done command sound runs

  sound-replied : (command : Command) (reply : Reply) → Sound m → m.running a ≡ Some command → Answers m a command reply → Sound (model_after_reply m a command reply)
  sound-replied command reply sound runs answers = by_sort (is_own command reply) (ends_sessions (number_of reply))
    where
      by_sort : (own ends : Bool) → Sound (model_after_sort own ends m a command reply)
      by_sort true ends = sound-succeeded command reply sound runs answers
      by_sort false true = sound-forgotten sound
      by_sort false false = sound-given command sound runs

-- ---- starts

-- no refusal's fact holds: a deleted image was there
no-refusal : (x l : Bool) → is_none (where_holds x NotAttached ++ where_is true (where_holds (not l) NoImage)) ≡ true → l ≡ true
no-refusal true l e = absurd (let P : ⊥ = cc in P)
no-refusal false true e = refl
no-refusal false false e = absurd (let P : ⊥ = cc in P)

-- a change is reported otherwise than its image
differs-after : (m : Model) (a : ℕ) (command : Command) (slot : ℕ) → changed_slot command ≡ Some slot → slot < m.images → is_none (refusals m a command) ≡ true →
    same_report (report_of (image_after (images_in m) slot command)) (report_of (m.slots slot).image) ≡ false
differs-after m a (Write k v x) slot is inside fine =
    let i = (m.slots slot).image in
    ap (λ (b : Bool). b && ((i.generation == i.generation) && ((i.size == i.size) && ((length i.frozen == length i.frozen) && ((count_dropped i.frozen == count_dropped i.frozen) && (same_flag i.live i.live && same_bytes i.label i.label))))))
    (eqb-false (i.writes + 1) i.writes (omega arith))
differs-after m a (Create k size label) slot is inside fine =
    let i = (m.slots slot).image in
    let more : ((i.generation + 1) == i.generation) ≡ false = eqb-false (i.generation + 1) i.generation (omega arith) in
    and-no (0 == i.writes) _ (ap (λ (b : Bool). b && ((size == i.size) && ((0 == length i.frozen) && ((0 == count_dropped i.frozen) && (same_flag true i.live && same_bytes label i.label))))) more)
differs-after m a (Delete k) slot is inside fine =
    let same : k.0 ≡ slot = cc in
    let there : nat_lt k.0 m.images ≡ true = nat_lt-true k.0 m.images (omega (arith, inside, same)) in
    let F : Bool → Type 0 = λ b. is_none (where_holds (not (has_all (m.sessions a) (k.0 ∷ []))) NotAttached ++ where_is b (of_none (m.slots k.0).image)) ≡ true in
    let live : (m.slots slot).image.live ≡ true =
    ap (λ (n : ℕ). (m.slots n).image.live) (sym same) ∙ no-refusal (not (has_all (m.sessions a) (k.0 ∷ []))) (m.slots k.0).image.live (subst F there fine) in
    let i = (m.slots slot).image in
    and-no (0 == i.writes) _ (and-no (i.generation == i.generation) _ (and-no (0 == i.size) _ (and-no (0 == length i.frozen) _ (and-no (0 == count_dropped i.frozen) _
    (ap (λ (b : Bool). same_flag false b && same_bytes [] i.label) live)))))
differs-after m a (Attach k) slot is inside fine = absurd (let P : ⊥ = cc in P)
differs-after m a (Detach k) slot is inside fine = absurd (let P : ⊥ = cc in P)
differs-after m a (Read k v) slot is inside fine = absurd (let P : ⊥ = cc in P)
differs-after m a (Flush k) slot is inside fine = absurd (let P : ⊥ = cc in P)
differs-after m a (Reserve count) slot is inside fine = absurd (let P : ⊥ = cc in P)
differs-after m a Renew slot is inside fine = absurd (let P : ⊥ = cc in P)
differs-after m a Retire slot is inside fine = absurd (let P : ⊥ = cc in P)
differs-after m a Reclaim slot is inside fine = absurd (let P : ⊥ = cc in P)

-- the appliance is in this command, and the slots are these
abbrev with_slots : Model → ℕ → Command → (ℕ → Slot) → Model
with_slots m a command slots = record m { slots = slots; running = at m.running a (Some command) }

sound-started : (m : Model) (a : ℕ) (command : Command) → Sound m → m.running a ≡ None → Sound (model_after_start m a command)
sound-started m a command sound idle = by_slot (changed_slot command) refl
  where
    still : Sound (with_slots m a command m.slots)
    still = record {
      differs = sound.differs;
      within = sound.within;
      session = sound.session;
      decided = λ b j i e c. (let w = sound.decided b j i e c in elim (eqb_tells b a) [
        | inl same ↦ absurd (let f : None ≡ Some w.0 = sym idle ∙ (ap m.running (sym same.1) ∙ w.1) in let P : ⊥ = cc in P)
        | inr away ↦ (w.0, at-other m.running a b (Some command) away.1 ∙ w.1, w.2)
      ]);
    }

    begun : (slot : ℕ) → changed_slot command ≡ Some slot → (m.slots slot).owner ≡ Some a → is_none (refusals m a command) ≡ true →
        Sound (with_slots m a command (at m.slots slot (under_way (m.slots slot) (image_after (images_in m) slot command))))
    begun slot changes mine fine =
        let was = still in
        let new = under_way (m.slots slot) (image_after (images_in m) slot command) in
        record {
          differs = at-all (λ j t. Differs t) m.slots slot new
              (λ i e. let f : image_after (images_in m) slot command ≡ i = cc in
              let P : Image → Type 0 = λ x. same_report (report_of x) (report_of (m.slots slot).image) ≡ false in
              subst P f (differs-after m a command slot changes (sound.within a slot mine) fine))
              (λ j ne. was.differs j);
          within = λ b. at-all (λ j t. t.owner ≡ Some b → j < m.images) m.slots slot new (λ e. was.within b slot e) (λ j ne e. was.within b j e);
          session = λ b. at-all (λ j t. t.owner ≡ Some b → m.sessions b j ≡ true) m.slots slot new (λ e. was.session b slot e) (λ j ne e. was.session b j e);
          decided = λ b. at-all (λ j t. (i : Image) → t.owner ≡ Some b → t.change ≡ Some i →
              (c : Command) × (at m.running a (Some command) b ≡ Some c) × (changed_slot c ≡ Some j)) m.slots slot new
              (λ i e c. (
                command,
                (let same : a ≡ b = (let f : Some a ≡ Some b = sym mine ∙ e in cc) in
                    let P : ℕ → Type 0 = λ n. at m.running a (Some command) n ≡ Some command in
                    subst P same (at-same m.running a (Some command))),
                changes,
              ))
              (λ j ne i e c. was.decided b j i e c);
        }

    by_test : (slot : ℕ) → changed_slot command ≡ Some slot → (x : Bool) → begins_change m a command ≡ x →
        Sound (with_slots m a command (where_owned x m.slots slot (under_way (m.slots slot) (image_after (images_in m) slot command))))
    by_test slot changes true e =
        let b = and-parts (owns_all m a (named_slots command)) (is_none (refusals m a command)) e in
        begun slot changes (changed-owned m a command slot changes b.0) b.1
    by_test slot changes false e = still

    by_slot : (o : Option ℕ) → changed_slot command ≡ o → Sound (with_slots m a command (started_at m a command o))
    by_slot None e = still
    by_slot (Some slot) e = by_test slot e (begins_change m a command) refl

-- an entry that is accepted keeps it
pub sound-moved : (m : Model) (e : Entry) → Sound m → Accepts m e → Sound (model_after m e)
sound-moved m (entry.Start a command) sound accepts = sound-started m a.0 command sound accepts.idle
sound-moved m (entry.Crash a) sound accepts = sound-forgotten m a.0 sound
sound-moved m (entry.Reply a reply) sound accepts = by_running (m.running a.0) refl
  where
    by_running : (r : Option Command) → m.running a.0 ≡ r → Sound (replied_in m a.0 r reply)
    by_running None e = sound
    by_running (Some command) e = sound-replied m a.0 command reply sound e (answers-of m a command reply e accepts)

pub sound-all : ModelsAreSound
sound-all images appliances [] permitted = record {
  differs = λ j i e. absurd (let P : ⊥ = cc in P);
  within = λ a j e. absurd (let P : ⊥ = cc in P);
  session = λ a j e. absurd (let P : ⊥ = cc in P);
  decided = λ a j i e c. absurd (let P : ⊥ = cc in P);
}
sound-all images appliances (e ∷ older) permitted = sound-moved _ e (sound-all images appliances older permitted.1) permitted.0

-- the numbers of images and appliances stay
abbrev pub SameCounts : Model → Model → Type 0
SameCounts m n = (n.images ≡ m.images) × (n.appliances ≡ m.appliances)

counts-replied : (m : Model) (a : ℕ) (command : Command) (reply : Reply) → SameCounts m (model_after_reply m a command reply)
counts-replied m a command reply = by_sort (is_own command reply) (ends_sessions (number_of reply))
  where
    of_own : (c : Command) (r : Reply) → SameCounts m (model_after_ok m a c r)
    of_own (Attach slot) (Attached report) = (refl, refl)
    of_own (Attach slot) r = (refl, refl)
    of_own (Detach slot) r = (refl, refl)
    of_own c r = (refl, refl)

    by_sort : (own ends : Bool) → SameCounts m (model_after_sort own ends m a command reply)
    by_sort true ends = of_own command reply
    by_sort false true = (refl, refl)
    by_sort false false = (refl, refl)

counts-moved : (m : Model) (e : Entry) → SameCounts m (model_after m e)
counts-moved m (entry.Start a command) = (refl, refl)
counts-moved m (entry.Crash a) = (refl, refl)
counts-moved m (entry.Reply a reply) = by_running (m.running a.0)
  where
    by_running : (r : Option Command) → SameCounts m (replied_in m a.0 r reply)
    by_running None = (refl, refl)
    by_running (Some command) = counts-replied m a.0 command reply

pub counts-all : (images appliances : ℕ) (trace : List Entry) → SameCounts (first_model images appliances) (model_of (first_model images appliances) trace)
counts-all images appliances [] = (refl, refl)
counts-all images appliances (e ∷ older) =
    let before = counts-all images appliances older in
    let now = counts-moved (model_of (first_model images appliances) older) e in
    (now.0 ∙ before.0, now.1 ∙ before.1)
