-- What the block-list model knows: images, their changes
-- under way, owners, sessions and running commands.
use Rattle.std.specs.Prelude.{ℕ, List, [], ◌∷◌, Bool, true, false, ◌&&◌, Option, Some, None}
use Rattle.std.specs.Prelude.{if◌then◌else◌, ◌==◌}
use Rattle.plx_commands.specs.Images.{Image, free_image}
use Rattle.plx_commands.specs.declared.command.Command.{Command}

-- a slot: its image, what a change under way would make of it, and the appliance that owns it
pub record Slot : Type 0 where
  pub image : Image
  pub change : Option Image
  pub owner : Option ℕ

-- how many images and appliances there are; the slots; whether an
-- appliance has a session of a slot; the command that each appliance is in
pub record Model : Type 0 where
  pub images : ℕ
  pub appliances : ℕ
  pub slots : ℕ → Slot
  pub sessions : ℕ → ℕ → Bool
  pub running : ℕ → Option Command

-- a slot before the first entry: free, and nobody's
abbrev pub first_slot : Slot
first_slot = record { image = free_image 0; change = None; owner = None }

-- the model before the first entry
abbrev pub first_model : (images appliances : ℕ) → Model
first_model images appliances = record {
  images = images;
  appliances = appliances;
  slots = λ slot. first_slot;
  sessions = λ appliance slot. false;
  running = λ appliance. None;
}

-- the images in the slots
abbrev pub images_in : Model → ℕ → Image
images_in m = λ slot. (m.slots slot).image

-- whether this appliance is the owner
abbrev pub owns : Option ℕ → ℕ → Bool
owns None appliance = false
owns (Some owner) appliance = owner == appliance

-- the owner, unless it is this appliance
abbrev pub owner_without : Option ℕ → ℕ → Option ℕ
owner_without owner appliance = if owns owner appliance then None else owner

-- whether the appliance owns each of these slots
abbrev pub owns_all : Model → ℕ → List ℕ → Bool
owns_all m appliance [] = true
owns_all m appliance (slot ∷ others) =
    owns (m.slots slot).owner appliance && owns_all m appliance others

-- whether there is a session of each of these slots
abbrev pub has_all : (ℕ → Bool) → List ℕ → Bool
has_all sessions [] = true
has_all sessions (slot ∷ others) = sessions slot && has_all sessions others
