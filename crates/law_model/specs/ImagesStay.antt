-- Which image an entry of a trace may change.
use Rattle.std.specs.Prelude.{◌≡◌, ℕ, Option, Some, None}
use Rattle.plx_commands.specs.Model.{Model, Slot}
use Rattle.plx_commands.specs.Moves.{model_after}
use Rattle.plx_commands.specs.Slots.{changed_slot}
use Rattle.plx_commands.specs.declared.command.Command.{Command}
use Rattle.plx_commands.specs.declared.command.Command.TheVariants.{Attach}
use Rattle.plx_commands.specs.declared.entry.Entry.{Entry}
use Rattle.plx_commands.specs.declared.entry.Entry.TheVariants as entry

-- the slot whose image a command changes or attaches
abbrev pub decided_slot : Command → Option ℕ
decided_slot (Attach slot) = Some slot.0
decided_slot other = changed_slot other

-- the command of an entry: the one that it starts, or the one to which it replies
abbrev pub entry_command : Model → Entry → Option Command
entry_command m (entry.Start appliance command) = Some command
entry_command m (entry.Reply appliance reply) = m.running appliance.0
entry_command m (entry.Crash appliance) = None

-- the command of an entry changes or attaches the image in this slot
abbrev pub IsAbout : Model → Entry → (slot : ℕ) → Type 0
IsAbout m entry slot = (command : Command) ×
    (entry_command m entry ≡ Some command) × (decided_slot command ≡ Some slot)

-- the image in a slot stays, and so does the change of it that is under way
pub record ImageStays (before after : Slot) : Type 0 where
  pub image : after.image ≡ before.image
  pub change : after.change ≡ before.change

-- an entry leaves the image in each slot that its command neither changes nor attaches
abbrev pub ImagesStay : Type 0
ImagesStay = (m : Model) (entry : Entry) (slot : ℕ) → ¬ IsAbout m entry slot →
    ImageStays (m.slots slot) ((model_after m entry).slots slot)
