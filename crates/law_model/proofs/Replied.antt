-- What a reply makes of the model, whatever the reply.
use Rattle.std.proofs.Common.{◌≡◌, ◌≢◌, ℕ, ◌⊎◌, inl, inr, List, [], ◌∷◌, Bool, true, false, Option, Some, None, refl, ap, sym, subst, ◌∙◌}
use Rattle.std.specs.Prelude.{◌==◌, ◌||◌}
use Rattle.std.proofs.lemmas.Bool.Decides.{eqb_tells}
use Rattle.plx_base.specs.declared.numbers.SlotNo.{SlotNo}
use Rattle.plx_commands.specs.declared.reply.Report.{Report}
use Rattle.plx_commands.specs.Model.{Model, Slot, owns}
use Rattle.plx_commands.specs.Moves.{slot_after_change, given_up, slot_after_attach, slot_without_owner, where_owned, refused_at, done_at, model_at_rest, model_without_sessions, model_without_change, model_after_ok, model_after_sort, model_after_reply, model_after_start}
use Rattle.plx_commands.specs.Places.{at}
use Rattle.plx_commands.specs.Replies.{number_of, is_own, ends_sessions, rests_on_fact}
use Rattle.plx_commands.specs.Slots.{named_slots, changed_slot}
use Rattle.plx_commands.specs.declared.command.Command.{Command}
use Rattle.plx_commands.specs.declared.command.Command.TheVariants.{Attach, Detach, Create, Delete, Read, Write, Flush, Reserve, Renew, Retire, Reclaim}
use Rattle.plx_commands.specs.declared.reply.Reply.{Reply}
use Rattle.plx_commands.specs.declared.reply.Reply.TheVariants.{Attached}
use Rattle.plx_commands.proofs.OwnReplies.{own-zero}
use Rattle.plx_commands.proofs.Places.{at-same, at-other, at-all}
use Rattle.law_model.proofs.Foreign.{Foreign, foreign-same, foreign-equal, foreign-back}
use Rattle.law_model.proofs.Owners.{disowned-not, disowned-other}

-- ---- numbers of replies

-- a reply with another number isn't one
pub not-own : (command : Command) (reply : Reply) → (number_of reply == 0) ≡ false → is_own command reply ≡ false
not-own command reply refusal = by_flag (is_own command reply) refl
  where
    by_flag : (b : Bool) → is_own command reply ≡ b → b ≡ false
    by_flag false e = refl
    by_flag true e = absurd (let f : (0 == 0) ≡ false = ap (λ (n : ℕ). n == 0) (sym (own-zero command reply e)) ∙ refusal in let P : ⊥ = cc in P)

-- a reply that ends all sessions is a refusal that rests on no fact
pub ending-cases : (n : ℕ) → ends_sessions n ≡ true → (n ≡ 9) ⊎ (n ≡ 11)
ending-cases n e = elim (eqb_tells n 9) [
  | inl same ↦ inl same.1
  | inr other ↦ elim (eqb_tells n 11) [
    | inl same ↦ inr same.1
    | inr away ↦ absurd (let f : (false || false) ≡ true = sym (ap (λ (b : Bool). b || (n == 11)) other.0 ∙ ap (λ (b : Bool). false || b) away.0) ∙ e in let P : ⊥ = cc in P)
  ]
]

pub ending-refusal : (n : ℕ) → ends_sessions n ≡ true → ((n == 0) ≡ false) × (rests_on_fact n ≡ false)
ending-refusal n e = elim (ending-cases n e) [
  | inl nine ↦ (let P : ℕ → Type 0 = λ k. ((k == 0) ≡ false) × (rests_on_fact k ≡ false) in subst P (sym nine) (refl, refl))
  | inr eleven ↦ (let P : ℕ → Type 0 = λ k. ((k == 0) ≡ false) × (rests_on_fact k ≡ false) in subst P (sym eleven) (refl, refl))
]

-- a reply that drops everything of its appliance
abbrev pub IsDropping : Reply → Type 0
IsDropping reply = ends_sessions (number_of reply) ≡ true

-- ---- what a fact of all models after a reply needs: that it holds after an own Ok, after one that drops everything, and after another

pub by-sort : (P : Model → Type 0) (m : Model) (a : ℕ) (command : Command) (reply : Reply) →
    (is_own command reply ≡ true → P (model_after_ok m a command reply)) → (IsDropping reply → P (model_without_sessions m a)) → (ends_sessions (number_of reply) ≡ false → P (model_without_change m a command)) →
    P (model_after_reply m a command reply)
by-sort P m a command reply own ending other = by_flags (is_own command reply) (ends_sessions (number_of reply)) refl refl
  where
    by_flags : (x y : Bool) → is_own command reply ≡ x → ends_sessions (number_of reply) ≡ y → P (model_after_sort x y m a command reply)
    by_flags true y is ends = own is
    by_flags false true is ends = ending ends
    by_flags false false is ends = other ends

-- a refusal that ends no sessions gives the change up; one that does drops everything
pub refused-given : (m : Model) (a : ℕ) (command : Command) (reply : Reply) → (number_of reply == 0) ≡ false → ends_sessions (number_of reply) ≡ false → model_after_reply m a command reply ≡ model_without_change m a command
refused-given m a command reply refusal stays =
    ap (λ (b : Bool). model_after_sort b (ends_sessions (number_of reply)) m a command reply) (not-own command reply refusal) ∙ ap (λ (b : Bool). model_after_sort false b m a command reply) stays

pub dropping-forgotten : (m : Model) (a : ℕ) (command : Command) (reply : Reply) → IsDropping reply → model_after_reply m a command reply ≡ model_without_sessions m a
dropping-forgotten m a command reply drops =
    ap (λ (b : Bool). model_after_sort b (ends_sessions (number_of reply)) m a command reply) (not-own command reply (ending-refusal (number_of reply) drops).0)
    ∙ ap (λ (b : Bool). model_after_sort false b m a command reply) drops

-- ---- the appliance's own part of the model

-- the sessions after an own Ok, and after any reply
abbrev pub sessions_own : Command → (ℕ → Bool) → ℕ → Bool
sessions_own (Attach slot) sessions = at sessions slot.0 true
sessions_own (Detach slot) sessions = at sessions slot.0 false
sessions_own command sessions = sessions

-- the sessions after an own Ok, after a reply that ends them all, or after another
abbrev pub sessions_sorted : (own ends : Bool) → Command → (ℕ → Bool) → ℕ → Bool
sessions_sorted true ends command sessions = sessions_own command sessions
sessions_sorted false true command sessions = λ k. false
sessions_sorted false false command sessions = sessions

-- the sessions after a reply
abbrev pub sessions_after : Command → Reply → (ℕ → Bool) → ℕ → Bool
sessions_after command reply sessions = sessions_sorted (is_own command reply) (ends_sessions (number_of reply)) command sessions

-- an attach's own Ok is a report
attached-own : (P : Reply → Type 0) (slot : SlotNo) (reply : Reply) → is_own (Attach slot) reply ≡ true →
    ((report : Report) → P (Attached report)) → P reply
attached-own P slot (Attached report) own h = h report
attached-own P slot reply own h = absurd (let P : ⊥ = cc in P)

sessions-succeeded : (m : Model) (a : ℕ) (command : Command) (reply : Reply) → is_own command reply ≡ true → (model_after_ok m a command reply).sessions a ≡ sessions_own command (m.sessions a)
sessions-succeeded m a (Attach slot) reply own =
    attached-own (λ r. (model_after_ok m a (Attach slot) r).sessions a ≡ at (m.sessions a) slot.0 true) slot reply own (λ report. at-same m.sessions a (at (m.sessions a) slot.0 true))
sessions-succeeded m a (Detach slot) reply own = at-same m.sessions a (at (m.sessions a) slot.0 false)
sessions-succeeded m a command reply own = at-same m.sessions a (m.sessions a)

pub sessions-replied : (m : Model) (a : ℕ) (command : Command) (reply : Reply) → (model_after_reply m a command reply).sessions a ≡ sessions_after command reply (m.sessions a)
sessions-replied m a command reply = by_flags (is_own command reply) (ends_sessions (number_of reply)) refl
  where
    by_flags : (x y : Bool) → is_own command reply ≡ x → (model_after_sort x y m a command reply).sessions a ≡ sessions_sorted x y command (m.sessions a)
    by_flags true y is = sessions-succeeded m a command reply is
    by_flags false true is = at-same m.sessions a (λ k. false)
    by_flags false false is = at-same m.sessions a (m.sessions a)

running-succeeded : (m : Model) (a : ℕ) (command : Command) (reply : Reply) → (model_after_ok m a command reply).running a ≡ None
running-succeeded m a (Attach slot) (Attached report) = at-same m.running a None
running-succeeded m a (Attach slot) reply = at-same m.running a None
running-succeeded m a (Detach slot) reply = at-same m.running a None
running-succeeded m a command reply = at-same m.running a None

pub running-replied : (m : Model) (a : ℕ) (command : Command) (reply : Reply) → (model_after_reply m a command reply).running a ≡ None
running-replied m a command reply =
    by-sort (λ n. n.running a ≡ None) m a command reply (λ own. running-succeeded m a command reply) (λ drops. at-same m.running a None) (λ stays. at-same m.running a None)

-- ---- what it leaves of the other appliances

-- the other appliances' parts of the model stay
pub record Unmoved (a : ℕ) (m n : Model) : Type 0 where
  pub images : n.images ≡ m.images
  pub appliances : n.appliances ≡ m.appliances
  pub running : (h : ℕ) → h ≢ a → n.running h ≡ m.running h
  pub sessions : (h : ℕ) → h ≢ a → (j : ℕ) → n.sessions h j ≡ m.sessions h j

unmoved-rested : (m : Model) (a : ℕ) (slots : ℕ → Slot) (sessions : ℕ → Bool) → Unmoved a m (model_at_rest m a slots sessions)
unmoved-rested m a slots sessions = record {
  images = refl;
  appliances = refl;
  running = λ h ne. at-other m.running a h None ne;
  sessions = λ h ne j. ap (λ (f : ℕ → Bool). f j) (at-other m.sessions a h sessions ne);
}

pub unmoved-forgotten : (m : Model) (a : ℕ) → Unmoved a m (model_without_sessions m a)
unmoved-forgotten m a = unmoved-rested m a (λ slot. slot_without_owner (m.slots slot) a) (λ slot. false)

unmoved-succeeded : (m : Model) (a : ℕ) (command : Command) (reply : Reply) → Unmoved a m (model_after_ok m a command reply)
unmoved-succeeded m a (Attach slot) (Attached report) = unmoved-rested m a _ _
unmoved-succeeded m a (Attach slot) reply = unmoved-rested m a _ _
unmoved-succeeded m a (Detach slot) reply = unmoved-rested m a _ _
unmoved-succeeded m a command reply = unmoved-rested m a _ _

pub unmoved-replied : (m : Model) (a : ℕ) (command : Command) (reply : Reply) → Unmoved a m (model_after_reply m a command reply)
unmoved-replied m a command reply =
    by-sort (λ n. Unmoved a m n) m a command reply (λ own. unmoved-succeeded m a command reply) (λ drops. unmoved-forgotten m a) (λ stays. unmoved-rested m a _ _)

pub unmoved-started : (m : Model) (a : ℕ) (command : Command) → Unmoved a m (model_after_start m a command)
unmoved-started m a command = record { images = refl; appliances = refl; running = λ h ne. at-other m.running a h (Some command) ne; sessions = λ h ne j. refl }

-- ---- the slots that a command doesn't name

-- the slot is among these
abbrev pub IsAmongSlots : ℕ → List ℕ → Type 0
IsAmongSlots slot [] = ⊥
IsAmongSlots slot (other ∷ others) = (other ≡ slot) ⊎ IsAmongSlots slot others

-- the command names this slot
abbrev pub Names : Command → ℕ → Type 0
Names command slot = IsAmongSlots slot (named_slots command)

pub changed-named : (command : Command) (slot : ℕ) → changed_slot command ≡ Some slot → Names command slot
changed-named (Create j size label) slot e = inl (cc)
changed-named (Delete j) slot e = inl (cc)
changed-named (Write j v x) slot e = inl (cc)
changed-named (Attach j) slot e = absurd (let P : ⊥ = cc in P)
changed-named (Detach j) slot e = absurd (let P : ⊥ = cc in P)
changed-named (Read j v) slot e = absurd (let P : ⊥ = cc in P)
changed-named (Flush j) slot e = absurd (let P : ⊥ = cc in P)
changed-named (Reserve count) slot e = absurd (let P : ⊥ = cc in P)
changed-named Renew slot e = absurd (let P : ⊥ = cc in P)
changed-named Retire slot e = absurd (let P : ⊥ = cc in P)
changed-named Reclaim slot e = absurd (let P : ⊥ = cc in P)

pub named-one : (command : Command) (i j : ℕ) → Names command i → i ≡ j → Names command j
named-one command i j names same = let P : ℕ → Type 0 = λ n. Names command n in subst P same names

refused-away : (m : Model) (a : ℕ) (command : Command) (k : ℕ) (o : Option ℕ) → changed_slot command ≡ o → (Names command k → ⊥) → refused_at m a o k ≡ m.slots k
refused-away m a command k None e away = refl
refused-away m a command k (Some j) e away = by_test (owns (m.slots j).owner a)
  where
    by_test : (b : Bool) → where_owned b m.slots j (given_up (m.slots j)) k ≡ m.slots k
    by_test true = at-other m.slots j k (given_up (m.slots j)) (λ is. away (named-one command j k (changed-named command j e) (sym is)))
    by_test false = refl

done-away : (m : Model) (command : Command) (k : ℕ) (o : Option ℕ) → changed_slot command ≡ o → (Names command k → ⊥) → done_at m o k ≡ m.slots k
done-away m command k None e away = refl
done-away m command k (Some j) e away = at-other m.slots j k (slot_after_change (m.slots j)) (λ is. away (named-one command j k (changed-named command j e) (sym is)))

succeeded-away : (m : Model) (a : ℕ) (command : Command) (reply : Reply) (k : ℕ) → (Names command k → ⊥) → (model_after_ok m a command reply).slots k ≡ m.slots k
succeeded-away m a (Attach j) (Attached report) k away = at-other m.slots j.0 k (slot_after_attach (m.slots j.0) a report) (λ e. away (inl (sym e)))
succeeded-away m a (Attach j) reply k away = refl
succeeded-away m a (Detach j) reply k away = at-other m.slots j.0 k (slot_without_owner (m.slots j.0) a) (λ e. away (inl (sym e)))
succeeded-away m a command reply k away = done-away m command k (changed_slot command) refl away

pub away-same : (m : Model) (a : ℕ) (command : Command) (reply : Reply) (k : ℕ) → (Names command k → ⊥) → ends_sessions (number_of reply) ≡ false → (model_after_reply m a command reply).slots k ≡ m.slots k
away-same m a command reply k away stays =
    by-sort (λ n. n.slots k ≡ m.slots k) m a command reply (λ own. succeeded-away m a command reply k away)
    (λ drops. absurd (let f : true ≡ false = sym drops ∙ stays in let P : ⊥ = cc in P)) (λ other. refused-away m a command k (changed_slot command) refl away)

pub away-foreign : (m : Model) (a : ℕ) (command : Command) (reply : Reply) (k : ℕ) → (Names command k → ⊥) → Foreign a (m.slots k) ((model_after_reply m a command reply).slots k)
away-foreign m a command reply k away =
    by-sort (λ n. Foreign a (m.slots k) (n.slots k)) m a command reply (λ own. foreign-equal a (m.slots k) _ (succeeded-away m a command reply k away))
    (λ drops. foreign-back a (m.slots k)) (λ other. foreign-equal a (m.slots k) _ (refused-away m a command k (changed_slot command) refl away))

-- ---- who owns a slot after a reply

refused-others : (m : Model) (a : ℕ) (o : Option ℕ) (i b : ℕ) → (refused_at m a o i).owner ≡ Some b → (m.slots i).owner ≡ Some b
refused-others m a None i b e = e
refused-others m a (Some slot) i b e = by_test (owns (m.slots slot).owner a) e
  where
    by_test : (t : Bool) → (where_owned t m.slots slot (given_up (m.slots slot)) i).owner ≡ Some b → (m.slots i).owner ≡ Some b
    by_test true = at-all (λ k t. t.owner ≡ Some b → (m.slots k).owner ≡ Some b) m.slots slot (given_up (m.slots slot)) (λ e'. e') (λ k ne e'. e') i
    by_test false = λ e'. e'

done-others : (m : Model) (o : Option ℕ) (i b : ℕ) → (done_at m o i).owner ≡ Some b → (m.slots i).owner ≡ Some b
done-others m None i b e = e
done-others m (Some slot) i b e = at-all (λ k t. t.owner ≡ Some b → (m.slots k).owner ≡ Some b) m.slots slot (slot_after_change (m.slots slot)) (λ e'. e') (λ k ne e'. e') i e

succeeded-others : (m : Model) (a : ℕ) (command : Command) (reply : Reply) (i b : ℕ) → b ≢ a → ((model_after_ok m a command reply).slots i).owner ≡ Some b → (m.slots i).owner ≡ Some b
succeeded-others m a (Attach slot) (Attached report) i b ne e =
    at-all (λ k t. t.owner ≡ Some b → (m.slots k).owner ≡ Some b) m.slots slot.0 (slot_after_attach (m.slots slot.0) a report) (λ e'. absurd (ne (let f : Some a ≡ Some b = e' in cc))) (λ k ne' e'. e') i e
succeeded-others m a (Attach slot) reply i b ne e = e
succeeded-others m a (Detach slot) reply i b ne e =
    at-all (λ k t. t.owner ≡ Some b → (m.slots k).owner ≡ Some b) m.slots slot.0 (slot_without_owner (m.slots slot.0) a) (λ e'. disowned-other (m.slots slot.0).owner a b e') (λ k ne' e'. e') i e
succeeded-others m a command reply i b ne e = done-others m (changed_slot command) i b e

-- another appliance owns it then that owned it before
pub replied-others : (m : Model) (a : ℕ) (command : Command) (reply : Reply) (i b : ℕ) → b ≢ a → ((model_after_reply m a command reply).slots i).owner ≡ Some b → (m.slots i).owner ≡ Some b
replied-others m a command reply i b ne =
    by-sort (λ n. (n.slots i).owner ≡ Some b → (m.slots i).owner ≡ Some b) m a command reply (λ own. succeeded-others m a command reply i b ne)
    (λ drops e. disowned-other (m.slots i).owner a b e) (λ other e. refused-others m a (changed_slot command) i b e)

-- after a reply that drops all the appliance owns nothing
pub dropping-disowned : (m : Model) (a : ℕ) (command : Command) (reply : Reply) → IsDropping reply → (i : ℕ) → ((model_after_reply m a command reply).slots i).owner ≡ Some a → ⊥
dropping-disowned m a command reply drops i e =
    disowned-not (m.slots i).owner a (ap (λ (n : Model). (n.slots i).owner) (sym (dropping-forgotten m a command reply drops)) ∙ e)

-- an attach that leaves the slot to another appliance leaves it
pub attach-left : (m : Model) (a : ℕ) (slot : SlotNo) (reply : Reply) (b : ℕ) → b ≢ a → ((model_after_reply m a (Attach slot) reply).slots slot.0).owner ≡ Some b →
    Foreign a (m.slots slot.0) ((model_after_reply m a (Attach slot) reply).slots slot.0)
attach-left m a slot reply b ne =
    by-sort (λ n. (n.slots slot.0).owner ≡ Some b → Foreign a (m.slots slot.0) (n.slots slot.0)) m a (Attach slot) reply
    (λ own. attached-own (λ r. ((model_after_ok m a (Attach slot) r).slots slot.0).owner ≡ Some b → Foreign a (m.slots slot.0) ((model_after_ok m a (Attach slot) r).slots slot.0)) slot reply own
    (λ report e. absurd (ne (let f : Some a ≡ Some b = sym (ap (λ (s : Slot). s.owner) (at-same m.slots slot.0 (slot_after_attach (m.slots slot.0) a report))) ∙ e in cc))))
    (λ drops e. foreign-back a (m.slots slot.0)) (λ other e. foreign-same a (m.slots slot.0))
