-- What the judge's tables show.
use Rattle.std.specs.Prelude.{◌≡◌, ◌<◌, ℕ, List, [], ◌∷◌, ◌++◌, length, map, Bool, true, false, Option, Some, None, unwrap_or, ◌⊎◌}
use Rattle.std.specs.Ordering.{nat_cmp}
use Rattle.std.specs.BTreeMap.{BTreeMap, get}
use Rattle.plx_base.specs.Blocks.{zeros}
use Rattle.plx_commands.specs.Facts.{IsAmong, of_block, of_generation, of_none, of_size, of_some, of_writes, where_holds}
use Rattle.plx_commands.specs.Images.{Frozen, Image, free_image, new_image, report_of}
use Rattle.plx_commands.specs.Limits.{last_generation, last_write, last_claim}
use Rattle.plx_commands.specs.Model.{Slot, Model, first_slot}
use Rattle.plx_commands.specs.Places.{at}
use Rattle.plx_commands.specs.Replies.{number_of, rests_on_fact}
use Rattle.plx_commands.specs.Reports.{same_report}
use Rattle.plx_commands.specs.declared.command.Command.{Command}
use Rattle.plx_commands.specs.declared.command.Command.TheVariants.{Create, Delete, Read, Write, Flush}
use Rattle.plx_commands.specs.declared.reply.Reply.{Reply}
use Rattle.plx_commands.specs.declared.reply.Reply.TheVariants.{NotAttached, AlreadyAttached, NoImage, Exists, OutOfRange, WornOut}
use Rattle.plx_commands.specs.declared.reply.Report.{Report}
use Rattle.plx_model.specs.Tables.{table}
use Rattle.plx_model.specs.declared.frozen.Frozen as kept
use Rattle.plx_model.specs.declared.model.Model as code
use Rattle.plx_model.specs.declared.refusals.ImageRefusals.{ImageRefusals}
use Rattle.plx_model.specs.declared.refusals.Refusals.{Refusals}
use Rattle.plx_model.specs.declared.seat.Seat.{Seat}
use Rattle.plx_model.specs.declared.slot.Change.{Change}
use Rattle.plx_model.specs.declared.slot.Change.TheVariants as change
use Rattle.plx_model.specs.declared.slot.SlotState.{SlotState}

-- what each virtual block holds: zeros where none is kept
abbrev pub content_of : BTreeMap ℕ (List ℕ) → ℕ → List ℕ
content_of blocks = λ v. unwrap_or (get nat_cmp blocks v) zeros

-- what is kept of a snapshot
abbrev pub frozen_of : kept.Frozen → Frozen
frozen_of snapshot = record { content = content_of snapshot.content; dropped = snapshot.dropped }

-- the image in a slot
abbrev pub shown_image : SlotState → Image
shown_image slot = record {
  live = slot.live;
  generation = slot.generation;
  size = slot.size;
  label = slot.label;
  writes = slot.writes;
  content = content_of slot.content;
  frozen = map frozen_of slot.frozen.items;
}

-- the image that a change makes of this one
abbrev pub changed_image : Image → Change → Image
changed_image image (change.Write number vblock block) = record image { writes = number; content = at image.content vblock block }
changed_image image (change.Create generation size label) = new_image generation size label
changed_image image change.Delete = free_image image.generation

-- the image that the change under way makes, if there is one
abbrev pub changed_by : Image → Option Change → Option Image
changed_by image None = None
changed_by image (Some change) = Some (changed_image image change)

-- what is kept of a slot, as the rules speak of it
abbrev pub slot_of : SlotState → Slot
slot_of slot = record { image = shown_image slot; change = changed_by (shown_image slot) slot.change; owner = slot.owner }

-- of which slots an appliance has a session
abbrev pub seat_sessions : Seat → ℕ → Bool
seat_sessions seat = table seat.sessions false

-- the command that an appliance is in
abbrev pub running_of : Seat → Option Command
running_of seat = seat.running

-- the model that the tables show
abbrev pub model_of_tables : code.Model → Model
model_of_tables model = record {
  images = length model.slots.items;
  appliances = length model.seats.items;
  slots = table (map slot_of model.slots.items) first_slot;
  sessions = table (map seat_sessions model.seats.items) (λ slot. false);
  running = table (map running_of model.seats.items) None;
}

-- the command changes an image, and the count that it raises isn't at its last value
abbrev pub CanChange : Image → Command → Type 0
CanChange image (Create slot size label) = image.generation < last_generation
CanChange image (Delete slot) = Unit {0}
CanChange image (Write slot vblock payload) = image.writes < last_write
CanChange image command = ⊥

-- there is such an image, and the report is its own
abbrev pub is_report_of : Option Image → Report → Bool
is_report_of None report = false
is_report_of (Some image) report = same_report report (report_of image)

-- the refusal that names this size
abbrev pub beyond : Option ℕ → List Reply
beyond None = []
beyond (Some size) = OutOfRange size ∷ []

-- the refusal that names this count
abbrev pub worn_refusal : Option ℕ → List Reply
worn_refusal None = []
worn_refusal (Some count) = WornOut count ∷ []

-- the refusals of a command by the image in the slot that it names
abbrev pub of_image : Image → Command → List Reply
of_image image (Create slot size label) = of_some image ++ (of_size size ++ of_generation image)
of_image image (Delete slot) = of_none image
of_image image (Read slot vblock) = of_none image ++ of_block image vblock
of_image image (Write slot vblock payload) = of_none image ++ (of_block image vblock ++ of_writes image)
of_image image (Flush slot) = of_none image
of_image image command = []

-- the refusals by images whose facts hold, in their order
abbrev pub listed_images : ImageRefusals → List Reply
listed_images facts =
    where_holds facts.no_image NoImage ++ (where_holds facts.exists Exists ++ (beyond facts.range ++ worn_refusal facts.worn))

-- the refusals whose facts hold, in their order
abbrev pub listed_refusals : Refusals → List Reply
listed_refusals facts =
    (where_holds facts.attached AlreadyAttached ++ where_holds facts.not_attached NotAttached) ++ listed_images facts.images

-- the refusal of a command that may find that no claim is left
abbrev pub listed_claims : Refusals → List Reply
listed_claims facts = where_holds facts.claims (WornOut last_claim)

-- a refusal that rests on a fact is among those whose fact holds
abbrev pub IsFoundedIn : List Reply → Reply → Type 0
IsFoundedIn facts reply = rests_on_fact (number_of reply) ≡ true → IsAmong reply facts

-- the count is the one that is worn, or that of claims
abbrev pub IsWornAt : Option ℕ → Bool → ℕ → Type 0
IsWornAt count_worn claims count = (count_worn ≡ Some count) ⊎ ((claims ≡ true) × (count ≡ last_claim))
