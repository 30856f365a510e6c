-- Replies that every model permits, by what the appliance knows of its sessions.
use Rattle.std.proofs.Common.{◌≡◌, ◌≢◌, ℕ, ◌≤◌, inl, inr, List, [], ◌∷◌, ◌++◌, Bool, true, false, Option, Some, None, refl, ap, sym, subst, ◌∙◌, arith}
use Rattle.std.specs.Prelude.{◌==◌, ◌&&◌, nat_le, not}
use Rattle.plx_base.specs.declared.numbers.SlotNo.{SlotNo}
use Rattle.plx_commands.specs.Facts.{refusals, of_claims, of_sessions, of_images, where_holds, IsAmong}
use Rattle.plx_commands.specs.Limits.{last_claim}
use Rattle.plx_commands.specs.Model.{Model, owns, has_all}
use Rattle.plx_commands.specs.Moves.{given_up, where_owned, refused_at, model_without_change, model_after_reply}
use Rattle.plx_commands.specs.Replies.{number_of, is_own, is_in, row, ends_sessions, rests_on_fact, may_claim}
use Rattle.plx_commands.specs.Slots.{named_slots, changed_slot}
use Rattle.plx_commands.specs.declared.command.Command.{Command}
use Rattle.plx_commands.specs.declared.command.Command.TheVariants.{Attach, Detach, Create, Delete, Read, Write, Flush, Reserve, Renew, Retire, Reclaim}
use Rattle.plx_commands.specs.declared.reply.Reply.{Reply}
use Rattle.plx_commands.specs.declared.reply.Reply.TheVariants.{Detached, Reserved, Renewed, Retired, Reclaimed, NotAttached, AlreadyAttached, NoImage, WornOut}
use Rattle.plx_commands.proofs.Accepted.{Answers, ok-answers, other-answers, founded-answers, among-more, among-later}
use Rattle.plx_base.proofs.Tests.{nat_le-true}
use Rattle.law_model.proofs.Foreign.{Foreign, foreign-same, foreign-back, refused-foreign, back-at}
use Rattle.law_model.specs.Sound.{Sound}
use Rattle.law_model.proofs.Owners.{owns-is}
use Rattle.law_model.proofs.Replied.{ending-refusal, refused-given, dropping-forgotten, IsDropping}

-- a refusal that rests on no fact of the model, and ends no sessions: it gives the command's change up
pub data Yields : Command → Reply → Type 0 where
  free : {command : Command} {reply : Reply} → is_in (number_of reply) (row command) ≡ true → (number_of reply == 0) ≡ false → rests_on_fact (number_of reply) ≡ false →
      ends_sessions (number_of reply) ≡ false → Yields command reply
  worn : {command : Command} → is_in 15 (row command) ≡ true → may_claim command ≡ true → Yields command (WornOut last_claim)

-- a reply that every model permits in which the appliance has these sessions and there are so many images, and that leaves what others know
pub data Harmless (images : ℕ) (sessions : ℕ → Bool) : Command → Reply → Type 0 where
  ending : {command : Command} {reply : Reply} → is_in (number_of reply) (row command) ≡ true → IsDropping reply → Harmless images sessions command reply
  without : {command : Command} → is_in 1 (row command) ≡ true → has_all sessions (named_slots command) ≡ false → Harmless images sessions command NotAttached
  with_session : {slot : SlotNo} → sessions slot.0 ≡ true → Harmless images sessions (Attach slot) AlreadyAttached
  no_image : {slot : SlotNo} → images ≤ slot.0 → Harmless images sessions (Attach slot) NoImage
  still : {command : Command} {reply : Reply} → Yields command reply → changed_slot command ≡ None → Harmless images sessions command reply
  detached : {slot : SlotNo} → sessions slot.0 ≡ true → Harmless images sessions (Detach slot) Detached
  unnamed : {command : Command} {reply : Reply} → named_slots command ≡ [] → is_own command reply ≡ true → Harmless images sessions command reply

-- ---- they are permitted

pub yields-answers : (m : Model) (a : ℕ) {command : Command} {reply : Reply} → Yields command reply → Answers m a command reply
yields-answers m a (free {command = command} {reply = reply} listed refusal rests stays) = other-answers m a command reply listed refusal rests
yields-answers m a (worn {command = command} listed claims) = founded-answers m a command (WornOut last_claim) listed refl (by_claims (refusals m a command))
  where
    by_claims : (facts : List Reply) → IsAmong (WornOut last_claim) (facts ++ of_claims command)
    by_claims [] = let P : Bool → Type 0 = λ b. IsAmong (WornOut last_claim) (where_holds b (WornOut last_claim)) in subst P (sym claims) (inl refl)
    by_claims (fact ∷ others) = inr (by_claims others)

-- the refusal of a command that names a slot without a session
unattached-among : (m : Model) (a : ℕ) (command : Command) → is_in 1 (row command) ≡ true → has_all (m.sessions a) (named_slots command) ≡ false → IsAmong NotAttached (of_sessions (m.sessions a) command)
unattached-among m a command listed none = by_command command listed none
  where
    among : (b : Bool) → b ≡ false → IsAmong NotAttached (where_holds (not b) NotAttached)
    among false e = inl refl
    among true e = absurd (let P : ⊥ = cc in P)

    by_command : (c : Command) → is_in 1 (row c) ≡ true → has_all (m.sessions a) (named_slots c) ≡ false → IsAmong NotAttached (of_sessions (m.sessions a) c)
    by_command (Attach slot) e f = absurd (let P : ⊥ = cc in P)
    by_command (Detach slot) e f = among _ f
    by_command (Create slot size label) e f = among _ f
    by_command (Delete slot) e f = among _ f
    by_command (Read slot vblock) e f = among _ f
    by_command (Write slot vblock payload) e f = among _ f
    by_command (Flush slot) e f = among _ f
    by_command (Reserve count) e f = absurd (let P : ⊥ = cc in P)
    by_command Renew e f = absurd (let P : ⊥ = cc in P)
    by_command Retire e f = absurd (let P : ⊥ = cc in P)
    by_command Reclaim e f = absurd (let P : ⊥ = cc in P)

-- the Ok of a command that names no slot
unnamed-answers : (m : Model) (a : ℕ) (command : Command) (reply : Reply) → named_slots command ≡ [] → is_own command reply ≡ true → Answers m a command reply
unnamed-answers m a (Reserve count) Reserved none own = ok-answers m a (Reserve count) Reserved refl refl refl tt refl
unnamed-answers m a Renew Renewed none own = ok-answers m a Renew Renewed refl refl refl tt refl
unnamed-answers m a Retire Retired none own = ok-answers m a Retire Retired refl refl refl tt refl
unnamed-answers m a Reclaim (Reclaimed covered freed reads) none own = ok-answers m a Reclaim (Reclaimed covered freed reads) refl refl refl tt refl
unnamed-answers m a command reply none own = absurd (let P : ⊥ = cc in P)

among-holds : (b : Bool) (reply : Reply) → b ≡ true → IsAmong reply (where_holds b reply)
among-holds true reply e = inl refl
among-holds false reply e = absurd (let P : ⊥ = cc in P)

pub harmless-answers : (images : ℕ) (sessions : ℕ → Bool) (m : Model) (a : ℕ) {command : Command} {reply : Reply} → Harmless images sessions command reply →
    m.sessions a ≡ sessions → m.images ≡ images → Answers m a command reply
harmless-answers images sessions m a (ending {command = command} {reply = reply} listed drops) same counts =
    let r = ending-refusal (number_of reply) drops in other-answers m a command reply listed r.0 r.1
harmless-answers images sessions m a (without {command = command} listed none) same counts =
    founded-answers m a command NotAttached listed refl
    (among-more NotAttached (refusals m a command) (of_claims command) (among-more NotAttached (of_sessions (m.sessions a) command) (of_images m command)
    (unattached-among m a command listed (ap (λ (f : ℕ → Bool). has_all f (named_slots command)) same ∙ none))))
harmless-answers images sessions m a (with_session {slot = slot} some) same counts =
    founded-answers m a (Attach slot) AlreadyAttached refl refl
    (among-more AlreadyAttached (refusals m a (Attach slot)) (of_claims (Attach slot)) (among-more AlreadyAttached (of_sessions (m.sessions a) (Attach slot)) (of_images m (Attach slot))
    (among-holds (m.sessions a slot.0) AlreadyAttached (ap (λ (f : ℕ → Bool). f slot.0) same ∙ some))))
harmless-answers images sessions m a (no_image {slot = slot} past) same counts =
    founded-answers m a (Attach slot) NoImage refl refl
    (among-more NoImage (refusals m a (Attach slot)) (of_claims (Attach slot)) (among-later NoImage (of_sessions (m.sessions a) (Attach slot)) (of_images m (Attach slot))
    (among-holds (nat_le m.images slot.0) NoImage (nat_le-true m.images slot.0 (omega (arith, past, counts))))))
harmless-answers images sessions m a (still yields none) same counts = yields-answers m a yields
harmless-answers images sessions m a (detached {slot = slot} some) same counts =
    ok-answers m a (Detach slot) Detached refl refl refl tt (unrefused (m.sessions a slot.0) (ap (λ (f : ℕ → Bool). f slot.0) same ∙ some))
  where
    unrefused : (b : Bool) → b ≡ true → where_holds (not (b && true)) NotAttached ++ [] ≡ []
    unrefused true e = refl
    unrefused false e = absurd (let P : ⊥ = cc in P)
harmless-answers images sessions m a (unnamed {command = command} {reply = reply} none own) same counts = unnamed-answers m a command reply none own

-- ---- they leave what others know

pub yields-given : (m : Model) (a : ℕ) {command : Command} {reply : Reply} → Yields command reply → model_after_reply m a command reply ≡ model_without_change m a command
yields-given m a (free {command = command} {reply = reply} listed refusal rests stays) = refused-given m a command reply refusal stays
yields-given m a (worn {command = command} listed claims) = refused-given m a command (WornOut last_claim) refl refl

-- it leaves what the appliance doesn't own
pub yields-foreign : (m : Model) (a : ℕ) {command : Command} {reply : Reply} → Yields command reply → (k : ℕ) → (m.slots k).owner ≢ Some a → Foreign a (m.slots k) ((model_after_reply m a command reply).slots k)
yields-foreign m a {command} {reply} yields k ne =
    let P : Model → Type 0 = λ n. Foreign a (m.slots k) (n.slots k) in
    subst P (sym (yields-given m a yields)) (refused-foreign m a (changed_slot command) k ne)

pub yields-stays : {command : Command} {reply : Reply} → Yields command reply → ends_sessions (number_of reply) ≡ false
yields-stays (free listed refusal rests stays) = stays
yields-stays (worn listed claims) = refl

-- the change of a command that was refused for want of a session wasn't the appliance's
without-foreign : (m : Model) (a : ℕ) (command : Command) (k : ℕ) → Sound m → has_all (m.sessions a) (named_slots command) ≡ false → Foreign a (m.slots k) (refused_at m a (changed_slot command) k)
without-foreign m a command k sound none = by_command command none
  where
    of_one : (j : ℕ) → has_all (m.sessions a) (j ∷ []) ≡ false → Foreign a (m.slots k) (refused_at m a (Some j) k)
    of_one j none' = by_test (owns (m.slots j).owner a) refl
      where
        gone : (b : Bool) → b ≡ true → (b && true) ≡ false → ⊥
        gone true e f = let P : ⊥ = cc in P
        gone false e f = let P : ⊥ = cc in P

        by_test : (b : Bool) → owns (m.slots j).owner a ≡ b → Foreign a (m.slots k) (where_owned b m.slots j (given_up (m.slots j)) k)
        by_test false e = foreign-same a (m.slots k)
        by_test true e = absurd (gone (m.sessions a j) (sound.session a j (owns-is (m.slots j).owner a e)) none')

    by_command : (c : Command) → has_all (m.sessions a) (named_slots c) ≡ false → Foreign a (m.slots k) (refused_at m a (changed_slot c) k)
    by_command (Create slot size label) e = of_one slot.0 e
    by_command (Delete slot) e = of_one slot.0 e
    by_command (Write slot vblock payload) e = of_one slot.0 e
    by_command (Attach slot) e = foreign-same a (m.slots k)
    by_command (Detach slot) e = foreign-same a (m.slots k)
    by_command (Read slot vblock) e = foreign-same a (m.slots k)
    by_command (Flush slot) e = foreign-same a (m.slots k)
    by_command (Reserve count) e = foreign-same a (m.slots k)
    by_command Renew e = foreign-same a (m.slots k)
    by_command Retire e = foreign-same a (m.slots k)
    by_command Reclaim e = foreign-same a (m.slots k)

unnamed-foreign : (m : Model) (a : ℕ) (command : Command) (reply : Reply) (k : ℕ) → named_slots command ≡ [] → is_own command reply ≡ true → Foreign a (m.slots k) ((model_after_reply m a command reply).slots k)
unnamed-foreign m a (Reserve count) Reserved k none own = foreign-same a (m.slots k)
unnamed-foreign m a Renew Renewed k none own = foreign-same a (m.slots k)
unnamed-foreign m a Retire Retired k none own = foreign-same a (m.slots k)
unnamed-foreign m a Reclaim (Reclaimed covered freed reads) k none own = foreign-same a (m.slots k)
unnamed-foreign m a command reply k none own = absurd (let P : ⊥ = cc in P)

pub harmless-foreign : (images : ℕ) (sessions : ℕ → Bool) (m : Model) (a : ℕ) {command : Command} {reply : Reply} → Harmless images sessions command reply → Sound m → m.sessions a ≡ sessions →
    (k : ℕ) → Foreign a (m.slots k) ((model_after_reply m a command reply).slots k)
harmless-foreign images sessions m a (ending {command = command} {reply = reply} listed drops) sound same k =
    let P : Model → Type 0 = λ n. Foreign a (m.slots k) (n.slots k) in
    subst P (sym (dropping-forgotten m a command reply drops)) (foreign-back a (m.slots k))
harmless-foreign images sessions m a (without {command = command} listed none) sound same k =
    let P : Model → Type 0 = λ n. Foreign a (m.slots k) (n.slots k) in
    subst P (sym (refused-given m a command NotAttached refl refl))
    (without-foreign m a command k sound (ap (λ (f : ℕ → Bool). has_all f (named_slots command)) same ∙ none))
harmless-foreign images sessions m a (with_session some) sound same k = foreign-same a (m.slots k)
harmless-foreign images sessions m a (no_image past) sound same k = foreign-same a (m.slots k)
harmless-foreign images sessions m a (still {command = command} yields none) sound same k =
    let P : Model → Type 0 = λ n. Foreign a (m.slots k) (n.slots k) in
    let Q : Option ℕ → Type 0 = λ o. Foreign a (m.slots k) (refused_at m a o k) in
    subst P (sym (yields-given m a yields)) (subst Q (sym none) (foreign-same a (m.slots k)))
harmless-foreign images sessions m a (detached {slot = slot} some) sound same k = back-at m a slot.0 k
harmless-foreign images sessions m a (unnamed {command = command} {reply = reply} none own) sound same k = unnamed-foreign m a command reply k none own
