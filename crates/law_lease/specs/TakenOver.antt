-- An example: a lease that is owned, under which an image is made and written, and which is then lost and taken over.
use Rattle.std.specs.Prelude.{◌≡◌, List, [], ◌∷◌, true, false}
use Rattle.plx_base.specs.declared.lease.LeaseName.TheVariants as lease
use Rattle.plx_base.specs.declared.numbers.ApplianceNo.{ApplianceNo}
use Rattle.plx_base.specs.declared.numbers.SlotNo.{SlotNo}
use Rattle.plx_base.specs.declared.payload.Payload.TheVariants.{All}
use Rattle.plx_commands.specs.declared.command.Command.TheVariants.{Attach, Create, Read, Write}
use Rattle.plx_commands.specs.declared.entry.Entry.{Entry}
use Rattle.plx_commands.specs.declared.entry.Entry.TheVariants.{Start, Reply}
use Rattle.plx_commands.specs.declared.reply.Reply.TheVariants as reply
use Rattle.plx_commands.specs.declared.reply.Report.{Report}
use Rattle.plx_geom.specs.Geometry.{image_lease}
use Rattle.plx_rules.specs.Owners.{Owns}
use Rattle.plx_rules.specs.World.{World, Reached}

-- the two appliances, and the slot
abbrev pub one : ApplianceNo
one = record { 0 = 0 }

-- the appliance that takes over
abbrev pub other : ApplianceNo
other = record { 0 = 1 }

-- the slot of the image
abbrev pub slot : SlotNo
slot = record { 0 = 0 }

-- what an attach reports of the free slot, and of the image once it is made and written
abbrev pub free_report : Report
free_report = record { live = false; generation = 0; size = 0; writes = 0; taken = 0; dropped = 0; label = [] }

-- what it reports of the image once that is made and written
abbrev pub written_report : Report
written_report = record { live = true; generation = 1; size = 8; writes = 1; taken = 0; dropped = 0; label = [] }

-- one appliance attaches the free slot, makes an image of eight blocks in it, and writes block 3; of a trace the newest entry stands first
abbrev pub trace_before : List Entry
trace_before =
    Reply one (reply.Written 1)
    ∷ Start one (Write slot 3 (All 90))
    ∷ Reply one reply.Created
    ∷ Start one (Create slot 8 [])
    ∷ Reply one (reply.Attached free_report)
    ∷ Start one (Attach slot)
    ∷ []

-- then its lease ends, the other appliance attaches the image, and the first one learns of its loss at its next read
abbrev pub trace_after : List Entry
trace_after =
    Reply one (reply.Lost (lease.Image slot) 11000 11702)
    ∷ Start one (Read slot 3)
    ∷ Reply other (reply.Attached written_report)
    ∷ Start other (Attach slot)
    ∷ trace_before

-- a world in which the one owns the image's lease, and a later one in which the other does
pub record IsTakenOver (before after : World) : Type 0 where
  pub reached : Reached before
  pub owned : Owns before one.0 (image_lease slot.0)
  pub told : before.trace ≡ trace_before
  pub later : Reached after
  pub taken : Owns after other.0 (image_lease slot.0)
  pub told_after : after.trace ≡ trace_after

-- there are such worlds
abbrev pub TakenOver : Type 0
TakenOver = (before : World) × (after : World) × IsTakenOver before after
