-- What a command's own Ok does, by its effect.
use Rattle.std.proofs.Common.{◌≡◌, ◌<◌, ℕ, List, [], ◌∷◌, ◌++◌, Bool, true, false, Option, Some, refl, sym, ap, subst}
use Rattle.std.proofs.lemmas.Bool.{and_parts, lt-ltb, leb-false}
use Rattle.plx_base.specs.declared.numbers.SlotNo.{SlotNo}
use Rattle.plx_base.specs.declared.payload.Payload.{Payload}
use Rattle.plx_commands.specs.Facts.{is_none, is_worn, of_block, of_generation, of_images, of_none, of_sessions, of_size, of_some, of_writes, refusals, where_holds, where_is}
use Rattle.plx_commands.specs.Images.{Image}
use Rattle.plx_commands.specs.Judge.{HasValue}
use Rattle.plx_commands.specs.Limits.{last_generation, last_write}
use Rattle.plx_commands.specs.Model.{Model, owns, owns_all}
use Rattle.plx_commands.specs.Moves.{begins_change, refused_at, model_after_reply, model_at_rest, model_after_sort, model_after_ok}
use Rattle.plx_commands.specs.Replies.{ends_sessions, is_own, number_of}
use Rattle.plx_commands.specs.Slots.{image_after, changed_slot, named_slots}
use Rattle.plx_commands.specs.declared.command.Command.{Command}
use Rattle.plx_commands.specs.declared.command.Command.TheVariants.{Attach, Detach, Create, Delete, Read, Write, Flush, Reserve, Renew, Retire, Reclaim}
use Rattle.plx_commands.specs.declared.reply.Reply.{Reply}
use Rattle.plx_commands.specs.declared.reply.Reply.TheVariants.{Attached, Created, Deleted, Written, WornOut}
use Rattle.plx_model.specs.Effects.{IsAtHand, model_after_effect, changed_by, effect_of, model_after_end}
use Rattle.plx_model.specs.Shown.{CanChange}

-- a command's image goes by the image of its own slot
pub after_alone : (images : ℕ → Image) (k : ℕ) (command : Command) → image_after images k command ≡ image_after (λ slot. images k) 0 command
after_alone images k (Attach slot) = refl
after_alone images k (Detach slot) = refl
after_alone images k (Create slot size label) = refl
after_alone images k (Delete slot) = refl
after_alone images k (Read slot vblock) = refl
after_alone images k (Write slot vblock payload) = refl
after_alone images k (Flush slot) = refl
after_alone images k (Reserve count) = refl
after_alone images k Renew = refl
after_alone images k Retire = refl
after_alone images k Reclaim = refl

-- a command changes the slot that its effect changes
pub changed_of : (command : Command) → changed_slot command ≡ changed_by (effect_of command)
changed_of (Attach slot) = refl
changed_of (Detach slot) = refl
changed_of (Create slot size label) = refl
changed_of (Delete slot) = refl
changed_of (Read slot vblock) = refl
changed_of (Write slot vblock payload) = refl
changed_of (Flush slot) = refl
changed_of (Reserve count) = refl
changed_of Renew = refl
changed_of Retire = refl
changed_of Reclaim = refl

succeeded_by : (m : Model) (a : ℕ) (command : Command) (reply : Reply) → model_after_ok m a command reply ≡ model_after_effect m a (effect_of command) reply
succeeded_by m a (Attach slot) (Attached report) = refl
succeeded_by m a (Attach slot) reply = refl
succeeded_by m a (Detach slot) reply = refl
succeeded_by m a (Create slot size label) reply = refl
succeeded_by m a (Delete slot) reply = refl
succeeded_by m a (Read slot vblock) reply = refl
succeeded_by m a (Write slot vblock payload) reply = refl
succeeded_by m a (Flush slot) reply = refl
succeeded_by m a (Reserve count) reply = refl
succeeded_by m a Renew reply = refl
succeeded_by m a Retire reply = refl
succeeded_by m a Reclaim reply = refl

sorted_by : (own ends : Bool) (m : Model) (a : ℕ) (command : Command) (reply : Reply) → model_after_sort own ends m a command reply ≡ model_after_end m a (effect_of command) own ends reply
sorted_by true ends m a command reply = succeeded_by m a command reply
sorted_by false true m a command reply = refl
sorted_by false false m a command reply = ap (λ (o : Option ℕ). model_at_rest m a (refused_at m a o) (m.sessions a)) (changed_of command)

-- the model after a reply goes by the command's effect
pub replied_by : (m : Model) (a : ℕ) (command : Command) (reply : Reply) → model_after_reply m a command reply ≡ model_after_end m a (effect_of command) (is_own command reply) (ends_sessions (number_of reply)) reply
replied_by m a command reply = sorted_by (is_own command reply) (ends_sessions (number_of reply)) m a command reply

-- an Ok with its value is of a slot that there is
pub at_hand : (m : Model) (command : Command) (reply : Reply) → HasValue m command reply → IsAtHand m (effect_of command)
at_hand m (Attach slot) (Attached report) v = v.0
at_hand m (Attach slot) reply v = absurd v
at_hand m (Detach slot) reply v = tt
at_hand m (Create slot size label) Created v = v
at_hand m (Create slot size label) reply v = absurd v
at_hand m (Delete slot) Deleted v = v
at_hand m (Delete slot) reply v = absurd v
at_hand m (Read slot vblock) reply v = tt
at_hand m (Write slot vblock payload) (Written number) v = v.0
at_hand m (Write slot vblock payload) reply v = absurd v
at_hand m (Flush slot) reply v = tt
at_hand m (Reserve count) reply v = tt
at_hand m Renew reply v = tt
at_hand m Retire reply v = tt
at_hand m Reclaim reply v = tt

-- the last of two lists without a refusal has none
none-last : (some more : List Reply) → is_none (some ++ more) ≡ true → is_none more ≡ true
none-last [] more h = h
none-last (refusal ∷ others) more h = cc

no-fact-holds : (b : Bool) (refusal : Reply) → is_none (where_holds b refusal) ≡ true → b ≡ false
no-fact-holds true refusal h = cc
no-fact-holds false refusal h = refl

-- an image can be made where its generation isn't worn
create_can : (m : Model) (a : ℕ) (slot : SlotNo) (size : ℕ) (label : List ℕ) → slot.0 < m.images → is_none (refusals m a (Create slot size label)) ≡ true → (m.slots slot.0).image.generation < last_generation
create_can m a slot size label here none =
    let image : Image = (m.slots slot.0).image in
    let by_images : is_none (of_images m (Create slot size label)) ≡ true = none-last (of_sessions (m.sessions a) (Create slot size label)) (of_images m (Create slot size label)) none in
    let seen : is_none (of_some image ++ (of_size size ++ of_generation image)) ≡ true =
    subst (λ (b : Bool). is_none (where_is b (of_some image ++ (of_size size ++ of_generation image))) ≡ true) (lt-ltb slot.0 m.images here) by_images in
    let fresh : is_worn last_generation image.generation ≡ false =
    no-fact-holds (is_worn last_generation image.generation) (WornOut last_generation)
    (none-last (of_size size) (of_generation image) (none-last (of_some image) (of_size size ++ of_generation image) seen)) in
    leb-false last_generation image.generation fresh

-- it can be written where the number of its writes isn't worn
write_can : (m : Model) (a : ℕ) (slot : SlotNo) (vblock : ℕ) (payload : Payload) → slot.0 < m.images → is_none (refusals m a (Write slot vblock payload)) ≡ true → (m.slots slot.0).image.writes < last_write
write_can m a slot vblock payload here none =
    let image : Image = (m.slots slot.0).image in
    let by_images : is_none (of_images m (Write slot vblock payload)) ≡ true = none-last (of_sessions (m.sessions a) (Write slot vblock payload)) (of_images m (Write slot vblock payload)) none in
    let seen : is_none (of_none image ++ (of_block image vblock ++ of_writes image)) ≡ true =
    subst (λ (b : Bool). is_none (where_is b (of_none image ++ (of_block image vblock ++ of_writes image))) ≡ true) (lt-ltb slot.0 m.images here) by_images in
    let fresh : is_worn last_write image.writes ≡ false =
    no-fact-holds (is_worn last_write image.writes) (WornOut last_write)
    (none-last (of_block image vblock) (of_writes image) (none-last (of_none image) (of_block image vblock ++ of_writes image) seen)) in
    leb-false last_write image.writes fresh

-- where no refusal's fact holds of an image in its slot, the command can change it
pub can_change : (m : Model) (a k : ℕ) (command : Command) → changed_slot command ≡ Some k → k < m.images → is_none (refusals m a command) ≡ true → CanChange (m.slots k).image command
can_change m a k (Attach slot) names here none = cc
can_change m a k (Detach slot) names here none = cc
can_change m a k (Create slot size label) names here none = let same : slot.0 ≡ k = cc in subst (λ (n : ℕ). (m.slots n).image.generation < last_generation) same (create_can m a slot size label (subst (λ (n : ℕ). n < m.images) (sym same) here) none)
can_change m a k (Delete slot) names here none = tt
can_change m a k (Read slot vblock) names here none = cc
can_change m a k (Write slot vblock payload) names here none = let same : slot.0 ≡ k = cc in subst (λ (n : ℕ). (m.slots n).image.writes < last_write) same (write_can m a slot vblock payload (subst (λ (n : ℕ). n < m.images) (sym same) here) none)
can_change m a k (Flush slot) names here none = cc
can_change m a k (Reserve count) names here none = cc
can_change m a k Renew names here none = cc
can_change m a k Retire names here none = cc
can_change m a k Reclaim names here none = cc

-- the slot that a command changes is the one that it names
named_changed : (command : Command) (k : ℕ) → changed_slot command ≡ Some k → named_slots command ≡ k ∷ []
named_changed (Attach slot) k h = cc
named_changed (Detach slot) k h = cc
named_changed (Create slot size label) k h = let same : slot.0 ≡ k = cc in ap (λ (n : ℕ). n ∷ []) same
named_changed (Delete slot) k h = let same : slot.0 ≡ k = cc in ap (λ (n : ℕ). n ∷ []) same
named_changed (Read slot vblock) k h = cc
named_changed (Write slot vblock payload) k h = let same : slot.0 ≡ k = cc in ap (λ (n : ℕ). n ∷ []) same
named_changed (Flush slot) k h = cc
named_changed (Reserve count) k h = cc
named_changed Renew k h = cc
named_changed Retire k h = cc
named_changed Reclaim k h = cc

-- a change begins only of a slot that the appliance owns
pub owned_changed : (m : Model) (a k : ℕ) (command : Command) → changed_slot command ≡ Some k → begins_change m a command ≡ true → owns (m.slots k).owner a ≡ true
owned_changed m a k command names begins =
    let all : owns_all m a (named_slots command) ≡ true = (and_parts (owns_all m a (named_slots command)) (is_none (refusals m a command)) begins).0 in
    let one : owns_all m a (k ∷ []) ≡ true = subst (λ (slots : List ℕ). owns_all m a slots ≡ true) (named_changed command k names) all in
    (and_parts (owns (m.slots k).owner a) true one).0

pub none_changed : (m : Model) (a : ℕ) (command : Command) → begins_change m a command ≡ true → is_none (refusals m a command) ≡ true
none_changed m a command begins = (and_parts (owns_all m a (named_slots command)) (is_none (refusals m a command)) begins).1
