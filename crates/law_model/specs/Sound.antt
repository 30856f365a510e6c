-- What holds of the model after every trace that is permitted.
use Rattle.std.specs.Prelude.{◌≡◌, ◌<◌, ℕ, List, Some, true, false}
use Rattle.plx_commands.specs.Images.{Image, report_of}
use Rattle.plx_commands.specs.Judge.{Permitted}
use Rattle.plx_commands.specs.Model.{Model, Slot, first_model}
use Rattle.plx_commands.specs.Moves.{model_of}
use Rattle.plx_commands.specs.Reports.{same_report}
use Rattle.plx_commands.specs.Slots.{changed_slot}
use Rattle.plx_commands.specs.declared.command.Command.{Command}
use Rattle.plx_commands.specs.declared.entry.Entry.{Entry}

-- a change under way is reported otherwise than its image
abbrev pub Differs : Slot → Type 0
Differs slot = (image : Image) → slot.change ≡ Some image →
    same_report (report_of image) (report_of slot.image) ≡ false

-- an owned slot is one that there is, its owner has a session of it, and a change of it is that of its
-- owner's running command; and each change under way is reported otherwise than its image
pub record Sound (m : Model) : Type 0 where
  pub differs : (slot : ℕ) → Differs (m.slots slot)
  pub within : (owner slot : ℕ) → (m.slots slot).owner ≡ Some owner → slot < m.images
  pub session : (owner slot : ℕ) → (m.slots slot).owner ≡ Some owner → m.sessions owner slot ≡ true
  pub decided : (owner slot : ℕ) (image : Image) →
      (m.slots slot).owner ≡ Some owner → (m.slots slot).change ≡ Some image →
      (c : Command) × (m.running owner ≡ Some c) × (changed_slot c ≡ Some slot)

-- so is the model after every permitted trace
abbrev pub ModelsAreSound : Type 0
ModelsAreSound = (images appliances : ℕ) (trace : List Entry) →
    Permitted (first_model images appliances) trace →
    Sound (model_of (first_model images appliances) trace)
