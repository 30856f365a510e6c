-- The refusals of a command whose fact holds, by sessions and by the model's images.
use Rattle.std.specs.Prelude.{◌≡◌, ℕ, List, [], ◌∷◌, ◌++◌, Bool, true, false, ◌&&◌, ◌⊎◌, nat_lt}
use Rattle.std.specs.Prelude.{nat_le, not}
use Rattle.plx_commands.specs.Images.{Image}
use Rattle.plx_commands.specs.Limits.{last_generation, last_write, last_claim, greatest_size}
use Rattle.plx_commands.specs.Model.{Model, has_all}
use Rattle.plx_commands.specs.Replies.{may_claim}
use Rattle.plx_commands.specs.Slots.{named_slots}
use Rattle.plx_commands.specs.declared.command.Command.{Command}
use Rattle.plx_commands.specs.declared.command.Command.TheVariants.{Attach, Detach, Create, Delete}
use Rattle.plx_commands.specs.declared.command.Command.TheVariants.{Read, Write, Flush, Reserve}
use Rattle.plx_commands.specs.declared.command.Command.TheVariants.{Renew, Retire, Reclaim}
use Rattle.plx_commands.specs.declared.reply.Reply.{Reply}
use Rattle.plx_commands.specs.declared.reply.Reply.TheVariants.{NotAttached, AlreadyAttached}
use Rattle.plx_commands.specs.declared.reply.Reply.TheVariants.{NoImage, Exists, OutOfRange}
use Rattle.plx_commands.specs.declared.reply.Reply.TheVariants.{WornOut}

-- the refusal, where its fact holds
abbrev pub where_holds : Bool → Reply → List Reply
where_holds true refusal = refusal ∷ []
where_holds false refusal = []

-- an image has at least one block, and at most 2^27
abbrev pub is_size : ℕ → Bool
is_size size = nat_lt 0 size && nat_le size greatest_size

-- the count stands at its last value
abbrev pub is_worn : ℕ → ℕ → Bool
is_worn last count = nat_le last count

-- there is no image
abbrev pub of_none : Image → List Reply
of_none image = where_holds (not image.live) NoImage

-- there is one already
abbrev pub of_some : Image → List Reply
of_some image = where_holds image.live Exists

-- the block isn't below the image's size
abbrev pub of_block : Image → ℕ → List Reply
of_block image vblock = where_holds (nat_le image.size vblock) (OutOfRange image.size)

-- an image of such a size can't be made
abbrev pub of_size : ℕ → List Reply
of_size size = where_holds (not (is_size size)) (OutOfRange greatest_size)

-- no further image can be made in the slot
abbrev pub of_generation : Image → List Reply
of_generation image =
    where_holds (is_worn last_generation image.generation) (WornOut last_generation)

-- the image can't be written again
abbrev pub of_writes : Image → List Reply
of_writes image = where_holds (is_worn last_write image.writes) (WornOut last_write)

-- the refusals by sessions
abbrev pub of_sessions : (ℕ → Bool) → Command → List Reply
of_sessions sessions (Attach slot) = where_holds (sessions slot.0) AlreadyAttached
of_sessions sessions other = where_holds (not (has_all sessions (named_slots other))) NotAttached

-- what is refused of an image, where there is such a slot
abbrev pub where_is : Bool → List Reply → List Reply
where_is true refusals = refusals
where_is false refusals = []

-- the refusals of the image in a slot
abbrev pub of_slot : Model → ℕ → (Image → List Reply) → List Reply
of_slot m slot refusals = where_is (nat_lt slot m.images) (refusals (m.slots slot).image)

-- the refusals by images
abbrev pub of_images : Model → Command → List Reply
of_images m (Attach slot) = where_holds (nat_le m.images slot.0) NoImage
of_images m (Detach slot) = []
of_images m (Create slot size label) =
    of_slot m slot.0 (λ image. of_some image ++ (of_size size ++ of_generation image))
of_images m (Delete slot) = of_slot m slot.0 of_none
of_images m (Read slot vblock) = of_slot m slot.0 (λ image. of_none image ++ of_block image vblock)
of_images m (Write slot vblock payload) =
    of_slot m slot.0 (λ image. of_none image ++ (of_block image vblock ++ of_writes image))
of_images m (Flush slot) = of_slot m slot.0 of_none
of_images m (Reserve count) = []
of_images m Renew = []
of_images m Retire = []
of_images m Reclaim = []

-- the refusals of an appliance's command whose fact holds, in their order
abbrev pub refusals : Model → ℕ → Command → List Reply
refusals m appliance command = of_sessions (m.sessions appliance) command ++ of_images m command

-- a command that may claim may find that its boot has
-- no claims left, of which the model knows nothing
abbrev pub of_claims : Command → List Reply
of_claims command = where_holds (may_claim command) (WornOut last_claim)

-- a reply is among these
abbrev pub IsAmong : Reply → List Reply → Type 0
IsAmong reply [] = ⊥
IsAmong reply (other ∷ others) = (reply ≡ other) ⊎ IsAmong reply others

-- no refusal's fact holds
abbrev pub is_none : List Reply → Bool
is_none [] = true
is_none (refusal ∷ others) = false
