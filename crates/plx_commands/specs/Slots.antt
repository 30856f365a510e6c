-- Which slots a command names, which image it changes, and into what.
use Rattle.std.specs.Prelude.{ℕ, ◌+◌, List, [], ◌∷◌, Option, Some, None}
use Rattle.plx_base.specs.Payload.{bytes_of}
use Rattle.plx_commands.specs.Images.{Image, free_image, new_image, image_after_write}
use Rattle.plx_commands.specs.declared.command.Command.{Command}
use Rattle.plx_commands.specs.declared.command.Command.TheVariants.{Attach, Detach, Create, Delete}
use Rattle.plx_commands.specs.declared.command.Command.TheVariants.{Read, Write, Flush, Reserve}
use Rattle.plx_commands.specs.declared.command.Command.TheVariants.{Renew, Retire, Reclaim}

-- the slots that a command names
abbrev pub named_slots : Command → List ℕ
named_slots (Attach slot) = slot.0 ∷ []
named_slots (Detach slot) = slot.0 ∷ []
named_slots (Create slot size label) = slot.0 ∷ []
named_slots (Delete slot) = slot.0 ∷ []
named_slots (Read slot vblock) = slot.0 ∷ []
named_slots (Write slot vblock payload) = slot.0 ∷ []
named_slots (Flush slot) = slot.0 ∷ []
named_slots (Reserve count) = []
named_slots Renew = []
named_slots Retire = []
named_slots Reclaim = []

-- the slot whose image a command changes
abbrev pub changed_slot : Command → Option ℕ
changed_slot (Attach slot) = None
changed_slot (Detach slot) = None
changed_slot (Create slot size label) = Some slot.0
changed_slot (Delete slot) = Some slot.0
changed_slot (Read slot vblock) = None
changed_slot (Write slot vblock payload) = Some slot.0
changed_slot (Flush slot) = None
changed_slot (Reserve count) = None
changed_slot Renew = None
changed_slot Retire = None
changed_slot Reclaim = None

-- the image that a slot has once a command is done, where this is the slot that the command changes
abbrev pub image_after : (ℕ → Image) → ℕ → Command → Image
image_after images slot (Attach target) = images slot
image_after images slot (Detach target) = images slot
image_after images slot (Create target size label) =
    new_image ((images slot).generation + 1) size label
image_after images slot (Delete target) = free_image (images slot).generation
image_after images slot (Read target vblock) = images slot
image_after images slot (Write target vblock payload) =
    image_after_write (images slot) vblock (bytes_of payload)
image_after images slot (Flush target) = images slot
image_after images slot (Reserve count) = images slot
image_after images slot Renew = images slot
image_after images slot Retire = images slot
image_after images slot Reclaim = images slot
