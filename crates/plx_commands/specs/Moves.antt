-- How an entry of a trace moves the model.
use Rattle.std.specs.Prelude.{ℕ, List, [], ◌∷◌, Bool, true, false, ◌&&◌, Option, Some, None}
use Rattle.std.specs.Prelude.{unwrap_or}
use Rattle.plx_commands.specs.Facts.{refusals, is_none}
use Rattle.plx_commands.specs.Images.{Image}
use Rattle.plx_commands.specs.Model.{Slot, Model, images_in, owns, owns_all, owner_without}
use Rattle.plx_commands.specs.Places.{at}
use Rattle.plx_commands.specs.Replies.{number_of, is_own, ends_sessions}
use Rattle.plx_commands.specs.Reports.{reported_image}
use Rattle.plx_commands.specs.Slots.{named_slots, changed_slot, image_after}
use Rattle.plx_commands.specs.declared.command.Command.{Command}
use Rattle.plx_commands.specs.declared.command.Command.TheVariants.{Attach, Detach}
use Rattle.plx_commands.specs.declared.reply.Report.{Report}
use Rattle.plx_commands.specs.declared.reply.Reply.{Reply}
use Rattle.plx_commands.specs.declared.reply.Reply.TheVariants.{Attached}
use Rattle.plx_commands.specs.declared.entry.Entry.{Entry}
use Rattle.plx_commands.specs.declared.entry.Entry.TheVariants as entry

-- the slot once a change of its image is under way
abbrev pub under_way : Slot → Image → Slot
under_way slot image = record slot { change = Some image }

-- the slot once its change is made
abbrev pub slot_after_change : Slot → Slot
slot_after_change slot = record slot { image = unwrap_or slot.change slot.image; change = None }

-- the slot once its change is given up
abbrev pub given_up : Slot → Slot
given_up slot = record slot { change = None }

-- the slot once an attach of this appliance reported which image it is
abbrev pub slot_after_attach : Slot → ℕ → Report → Slot
slot_after_attach slot appliance report = record {
  image = reported_image slot.image slot.change report;
  change = None;
  owner = Some appliance;
}

-- the slot once the appliance owns it no longer
abbrev pub slot_without_owner : Slot → ℕ → Slot
slot_without_owner slot appliance = record slot { owner = owner_without slot.owner appliance }

-- the slots with one changed, where a test holds
abbrev pub where_owned : Bool → (ℕ → Slot) → ℕ → Slot → ℕ → Slot
where_owned true slots slot new = at slots slot new
where_owned false slots slot new = slots

-- a change is put under way by the owner of each named slot, where no refusal's fact holds
abbrev pub begins_change : Model → ℕ → Command → Bool
begins_change m appliance command =
    owns_all m appliance (named_slots command) && is_none (refusals m appliance command)

-- the slots after a start of a command that changes this slot, or none
abbrev pub started_at : Model → ℕ → Command → Option ℕ → ℕ → Slot
started_at m appliance command None = m.slots
started_at m appliance command (Some slot) =
    where_owned (begins_change m appliance command) m.slots slot
    (under_way (m.slots slot) (image_after (images_in m) slot command))

-- the slots once the change of this slot is given up, where the appliance still owns it
abbrev pub refused_at : Model → ℕ → Option ℕ → ℕ → Slot
refused_at m appliance None = m.slots
refused_at m appliance (Some slot) =
    where_owned (owns (m.slots slot).owner appliance) m.slots slot (given_up (m.slots slot))

-- the slots once the change of this slot is made
abbrev pub done_at : Model → Option ℕ → ℕ → Slot
done_at m None = m.slots
done_at m (Some slot) = at m.slots slot (slot_after_change (m.slots slot))

-- the model in which the appliance is in no command, with these slots and these sessions of it
abbrev pub model_at_rest : Model → ℕ → (ℕ → Slot) → (ℕ → Bool) → Model
model_at_rest m appliance slots sessions =
    record m {
      slots = slots;
      sessions = at m.sessions appliance sessions;
      running = at m.running appliance None;
    }

-- the model in which the appliance owns nothing, has no session and is in no command
abbrev pub model_without_sessions : Model → ℕ → Model
model_without_sessions m appliance =
    model_at_rest m appliance (λ slot. slot_without_owner (m.slots slot) appliance) (λ slot. false)

-- the model in which the appliance has a session of the slot
-- and owns it, since an attach reported which image it is
abbrev pub model_after_attach : Model → ℕ → ℕ → Report → Model
model_after_attach m appliance slot report =
    model_at_rest m appliance (at m.slots slot (slot_after_attach (m.slots slot) appliance report))
    (at (m.sessions appliance) slot true)

-- the model in which the appliance's session of the slot has ended
abbrev pub model_after_detach : Model → ℕ → ℕ → Model
model_after_detach m appliance slot =
    model_at_rest m appliance (at m.slots slot (slot_without_owner (m.slots slot) appliance))
    (at (m.sessions appliance) slot false)

-- the model once a command's change is given up
abbrev pub model_without_change : Model → ℕ → Command → Model
model_without_change m appliance command =
    model_at_rest m appliance (refused_at m appliance (changed_slot command)) (m.sessions appliance)

-- the model once a command's change is made
abbrev pub model_after_change : Model → ℕ → Command → Model
model_after_change m appliance command =
    model_at_rest m appliance (done_at m (changed_slot command)) (m.sessions appliance)

-- the model after a command's own Ok
abbrev pub model_after_ok : Model → ℕ → Command → Reply → Model
model_after_ok m appliance (Attach slot) (Attached report) =
    model_after_attach m appliance slot.0 report
model_after_ok m appliance (Detach slot) reply = model_after_detach m appliance slot.0
model_after_ok m appliance command reply = model_after_change m appliance command

-- the model after a command's own Ok, after a reply that ends all sessions, or after another
abbrev pub model_after_sort : (own ends : Bool) → Model → ℕ → Command → Reply → Model
model_after_sort true ends m appliance command reply = model_after_ok m appliance command reply
model_after_sort false true m appliance command reply = model_without_sessions m appliance
model_after_sort false false m appliance command reply = model_without_change m appliance command

-- the model after a reply to a command
abbrev pub model_after_reply : Model → ℕ → Command → Reply → Model
model_after_reply m appliance command reply =
    model_after_sort (is_own command reply)
    (ends_sessions (number_of reply)) m appliance command reply

-- the model after a reply to the command that an appliance is in, if it is in one
abbrev pub replied_in : Model → ℕ → Option Command → Reply → Model
replied_in m appliance None reply = m
replied_in m appliance (Some command) reply = model_after_reply m appliance command reply

-- the model after a start
abbrev pub model_after_start : Model → ℕ → Command → Model
model_after_start m appliance command =
    record m {
      slots = started_at m appliance command (changed_slot command);
      running = at m.running appliance (Some command);
    }

-- the model after an entry
abbrev pub model_after : Model → Entry → Model
model_after m (entry.Start appliance command) = model_after_start m appliance.0 command
model_after m (entry.Reply appliance reply) = replied_in m appliance.0 (m.running appliance.0) reply
model_after m (entry.Crash appliance) = model_without_sessions m appliance.0

-- the model after a trace, whose newest entry stands first
abbrev pub model_of : Model → List Entry → Model
model_of first [] = first
model_of first (entry ∷ older) = model_after (model_of first older) entry
