-- What a command's own Ok does to the slot that the command names.
use Rattle.std.specs.Prelude.{ℕ, ◌<◌, List, [], ◌∷◌, Bool, true, false, Option, Some, None}
use Rattle.plx_commands.specs.Model.{Model}
use Rattle.plx_commands.specs.Moves.{model_after_attach, model_without_sessions, model_after_detach, model_at_rest, done_at, refused_at}
use Rattle.plx_commands.specs.declared.command.Command.{Command}
use Rattle.plx_commands.specs.declared.command.Command.TheVariants.{Attach, Detach, Create, Delete, Read, Write, Flush, Reserve, Renew, Retire, Reclaim}
use Rattle.plx_commands.specs.declared.reply.Reply.{Reply}
use Rattle.plx_commands.specs.declared.reply.Reply.TheVariants.{Attached}
use Rattle.plx_model.specs.declared.effect.Effect.{Effect}
use Rattle.plx_model.specs.declared.effect.Effect.TheVariants as effect

-- the slot as a list
abbrev pub slot_list : Option ℕ → List ℕ
slot_list None = []
slot_list (Some slot) = slot ∷ []

-- the effect of each command
abbrev pub effect_of : Command → Effect
effect_of (Attach slot) = effect.Enter slot.0
effect_of (Detach slot) = effect.Leave slot.0
effect_of (Create slot size label) = effect.Change slot.0
effect_of (Delete slot) = effect.Change slot.0
effect_of (Read slot vblock) = effect.Rest
effect_of (Write slot vblock payload) = effect.Change slot.0
effect_of (Flush slot) = effect.Rest
effect_of (Reserve count) = effect.Rest
effect_of Renew = effect.Rest
effect_of Retire = effect.Rest
effect_of Reclaim = effect.Rest

-- the slot whose image an effect changes
abbrev pub changed_by : Effect → Option ℕ
changed_by (effect.Enter slot) = None
changed_by (effect.Leave slot) = None
changed_by (effect.Change slot) = Some slot
changed_by effect.Rest = None

-- there is the slot in which an effect begins a session or changes the image
abbrev pub IsAtHand : Model → Effect → Type 0
IsAtHand m (effect.Enter slot) = slot < m.images
IsAtHand m (effect.Leave slot) = Unit {0}
IsAtHand m (effect.Change slot) = slot < m.images
IsAtHand m effect.Rest = Unit {0}

-- the model after an effect, brought by this reply
abbrev pub model_after_effect : Model → ℕ → Effect → Reply → Model
model_after_effect m appliance (effect.Enter slot) (Attached report) = model_after_attach m appliance slot report
model_after_effect m appliance (effect.Enter slot) reply = model_at_rest m appliance m.slots (m.sessions appliance)
model_after_effect m appliance (effect.Leave slot) reply = model_after_detach m appliance slot
model_after_effect m appliance (effect.Change slot) reply = model_at_rest m appliance (done_at m (Some slot)) (m.sessions appliance)
model_after_effect m appliance effect.Rest reply = model_at_rest m appliance m.slots (m.sessions appliance)

-- the model after a reply to a command of this effect: its own Ok, a reply that ends all sessions, or another
abbrev pub model_after_end : Model → ℕ → Effect → (own ends : Bool) → Reply → Model
model_after_end m appliance which true ends reply = model_after_effect m appliance which reply
model_after_end m appliance which false true reply = model_without_sessions m appliance
model_after_end m appliance which false false reply = model_at_rest m appliance (refused_at m appliance (changed_by which)) (m.sessions appliance)

-- the command is an attach
abbrev pub is_attach : Command → Bool
is_attach (Attach slot) = true
is_attach (Detach slot) = false
is_attach (Create slot size label) = false
is_attach (Delete slot) = false
is_attach (Read slot vblock) = false
is_attach (Write slot vblock payload) = false
is_attach (Flush slot) = false
is_attach (Reserve count) = false
is_attach Renew = false
is_attach Retire = false
is_attach Reclaim = false
