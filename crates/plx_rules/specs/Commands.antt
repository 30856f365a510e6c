-- What each command asks, in order, and what it makes of the answers.
use Rattle.std.specs.Prelude.{◌+◌, ℕ, zero, suc, List, [], ◌∷◌, length, Bool, true, false, Option}
use Rattle.std.specs.Prelude.{Some, None, nat_lt, nat_le, if◌then◌else◌, ◌==◌, ◌≡◌, ◌≤◌, not}
use Rattle.plx_base.specs.Canonical.{payload_of}
use Rattle.plx_base.specs.Labels.{IsLabel}
use Rattle.plx_base.specs.Payload.{bytes_of}
use Rattle.plx_base.specs.declared.lease.LeaseRecord.TheVariants as record_is
use Rattle.plx_base.specs.declared.write_kind.WriteKind.TheVariants as kind
use Rattle.plx_commands.specs.Facts.{is_size, is_worn}
use Rattle.plx_commands.specs.Limits.{last_generation, last_write, greatest_size}
use Rattle.plx_commands.specs.declared.command.Command.{Command}
use Rattle.plx_commands.specs.declared.command.Command.TheVariants.{Attach, Detach, Create, Delete}
use Rattle.plx_commands.specs.declared.command.Command.TheVariants.{Read, Write, Flush, Reserve}
use Rattle.plx_commands.specs.declared.command.Command.TheVariants.{Renew, Retire, Reclaim}
use Rattle.plx_commands.specs.declared.reply.Reply.{Reply}
use Rattle.plx_commands.specs.declared.reply.Reply.TheVariants as reply
use Rattle.plx_gate.specs.Descriptors.{descriptor_bytes}
use Rattle.plx_gate.specs.Images.{image_bytes}
use Rattle.plx_gate.specs.Leases.{lease_bytes}
use Rattle.plx_gate.specs.declared.descriptor.Descriptor.{Descriptor}
use Rattle.plx_gate.specs.declared.image.ImageRecord.{ImageRecord}
use Rattle.plx_gate.specs.declared.image.ImageRecord.TheVariants as image_is
use Rattle.plx_geom.specs.Geometry.{lease_count, image_lease, lease_at, record_at, descriptor_at}
use Rattle.plx_geom.specs.Geometry.{data_at}
use Rattle.plx_rules.specs.Process.{Process}
use Rattle.plx_rules.specs.Journaled.{Journaled}
use Rattle.plx_rules.specs.Attaching.{image_use, attach_process}
use Rattle.plx_rules.specs.Ends.{End, ends, write_then, in_time, ends_in_time}
use Rattle.plx_rules.specs.Holds.{Hold, Held}
use Rattle.plx_rules.specs.InUse.{InUse}
use Rattle.plx_rules.specs.Journal.{journal_slot}
use Rattle.plx_rules.specs.Records.{is_live, generation_of, size_of, made_record}
use Rattle.plx_rules.specs.Session.{Session, Known, with_session, new_session, write_count, content}
use Rattle.plx_rules.specs.Session.{with_write}
use Rattle.plx_rules.specs.Settings.{Setting}
use Rattle.plx_rules.specs.Space.{reserve_process, retire_process}
use Rattle.plx_rules.specs.Times.{term}

-- ---- commands of an attached image

-- a refusal where its fact doesn't fail
abbrev pub unless : (refused : Bool) → Reply → Known → Process End → Process End
unless true refusal known process = ends refusal known
unless false refusal known process = process

-- the reading is below the end of the image's lease
abbrev pub held_process : Setting → Known → (image : ℕ) → Hold →
    (reading : ℕ) → (until_then : ℕ → Process End) → Process End
held_process s known image (Held claim until) reading rest =
    in_time s known (image_use image until) reading (rest until)
held_process s known image other reading rest = ends reply.NotAttached known

-- the image has a session, by whether there is such a slot and
-- what is held of its lease; a session's lease is always held
abbrev pub attached_process : Setting → Known → (image : ℕ) →
    Option Session → (within : Bool) → Hold → (reading : ℕ) →
    (Session → (until : ℕ) → Process End) → Process End
attached_process s known image None within hold reading rest = ends reply.NotAttached known
attached_process s known image (Some session) false hold reading rest = ends reply.NotAttached known
attached_process s known image (Some session) true hold reading rest =
    held_process s known image hold reading (rest session)

-- a detach gives the lease back
abbrev pub detach_process : Setting → Known → (image : ℕ) → Session → (until : ℕ) → Process End
detach_process s known image session until =
    write_then s known (record { lease = image_lease image; until = until })
    kind.Release (lease_at (image_lease image)) (lease_bytes record_is.Free)
    (ends reply.Detached (with_session known image None))

-- a record is written, and the command ends with its session
abbrev pub record_process : Setting → Known → (image until : ℕ) → ImageRecord → Reply → Process End
record_process s known image until made done =
    write_then s known (record { lease = image_lease image; until = until })
    kind.Record (record_at s.geometry image) (image_bytes made)
    (ends_in_time s known (image_use image until) done
    (with_session known image (Some (new_session made))))

-- an image is made in a free slot
abbrev pub create_process : Setting → Known → (image size : ℕ) →
    (label : List ℕ) → Session → (until : ℕ) → Process End
create_process s known image size label session until =
    unless (is_live session.image) reply.Exists known
    (unless (not (is_size size)) (reply.OutOfRange greatest_size) known
    (unless (is_worn last_generation (generation_of session.image))
    (reply.WornOut last_generation) known
    (record_process s known image until
    (made_record (generation_of session.image + 1) size label) reply.Created)))

-- an image is deleted
abbrev pub delete_process : Setting → Known → (image : ℕ) → Session → (until : ℕ) → Process End
delete_process s known image session until =
    unless (not (is_live session.image)) reply.NoImage known
    (record_process s known image until (image_is.Free (generation_of session.image)) reply.Deleted)

-- a read gives the block that the session knows
abbrev pub read_process : Setting → Known → (image vblock : ℕ) → Session → (until : ℕ) → Process End
read_process s known image vblock session until =
    unless (not (is_live session.image)) reply.NoImage known
    (unless (nat_le (size_of session.image) vblock) (reply.OutOfRange (size_of session.image)) known
    (ends_in_time s known (image_use image until)
    (reply.Data (payload_of (content session vblock))) known))

-- the write that comes next
abbrev pub next_write : Session → (vblock : ℕ) → List ℕ → Journaled
next_write session vblock bytes = record {
  number = write_count session + 1;
  vblock = vblock;
  block = bytes;
}

-- the descriptor that commits it
abbrev pub next_descriptor : Session → (vblock : ℕ) → Descriptor
next_descriptor session vblock = record {
  generation = generation_of session.image;
  vblock = vblock;
  number = write_count session + 1;
}

-- the journal slot of the next write
abbrev pub next_slot : Setting → Session → ℕ
next_slot s session = journal_slot s.geometry.slots (write_count session + 1)

-- a write fills its journal slot, and then its descriptor commits it
abbrev pub journal_process : Setting → Known →
    (image vblock : ℕ) → List ℕ → Session → (until : ℕ) → Process End
journal_process s known image vblock bytes session until =
    write_then s known (record { lease = image_lease image; until = until })
    kind.JData (data_at s.geometry image (next_slot s session)) bytes
    (write_then s known (record { lease = image_lease image; until = until })
    kind.JCommit (descriptor_at s.geometry image (next_slot s session))
    (descriptor_bytes (next_descriptor session vblock))
    (ends_in_time s known (image_use image until) (reply.Written (write_count session + 1))
    (with_session known image (Some (with_write session (next_write session vblock bytes))))))

-- a write: its journal is full where it holds as many unapplied writes as it has slots
abbrev pub write_process : Setting → Known →
    (image vblock : ℕ) → List ℕ → Session → (until : ℕ) → Process End
write_process s known image vblock bytes session until =
    unless (not (is_live session.image)) reply.NoImage known
    (unless (nat_le (size_of session.image) vblock) (reply.OutOfRange (size_of session.image)) known
    (unless (is_worn last_write (write_count session)) (reply.WornOut last_write) known
    (unless (length session.writes == s.geometry.slots) reply.Full known
    (journal_process s known image vblock bytes session until))))

-- ---- renew

-- the greater of two moments
abbrev pub later_of : ℕ → ℕ → ℕ
later_of one other = if nat_le one other then other else one

-- the renewal of a lease that is held
abbrev pub renewal : Setting → Known → (reading lease : ℕ) →
    Hold → (rest : Process End) → Process End
renewal s known reading lease (Held claim until) rest =
    write_then s known (record { lease = lease; until = until }) kind.Renew (lease_at lease)
    (lease_bytes (record_is.Claimed claim (later_of until (reading + term)))) rest
renewal s known reading lease other rest = rest

-- each lease that is held is renewed, of `left` leases from this one on
abbrev pub renew_process : Setting → Known →
    (holds : ℕ → Hold) → (reading left lease : ℕ) → Process End
renew_process s known holds reading zero lease = ends reply.Renewed known
renew_process s known holds reading (suc left) lease =
    renewal s known reading lease (holds (lease_at lease))
    (renew_process s known holds reading left (lease + 1))

-- the leases of attached images are in use, of `left` images from this one on
abbrev pub session_use : Option Session → Hold → (image : ℕ) → List InUse → List InUse
session_use (Some session) (Held claim until) image others =
    record { lease = image_lease image; until = until } ∷ others
session_use session hold image others = others

-- all of them, in order
abbrev pub attached_uses : Known → (holds : ℕ → Hold) → (left image : ℕ) → List InUse
attached_uses known holds zero image = []
attached_uses known holds (suc left) image =
    session_use (known.sessions image) (holds (lease_at (image_lease image)))
    image (attached_uses known holds left (image + 1))

-- ---- all commands

-- the commands that are built; no other one starts
abbrev pub IsBuilt : Command → Type 0
IsBuilt (Attach slot) = Unit {0}
IsBuilt (Detach slot) = Unit {0}
IsBuilt (Create slot size label) = Unit {0}
IsBuilt (Delete slot) = Unit {0}
IsBuilt (Read slot vblock) = Unit {0}
IsBuilt (Write slot vblock payload) = Unit {0}
IsBuilt (Flush slot) = ⊥
IsBuilt (Reserve count) = Unit {0}
IsBuilt Renew = Unit {0}
IsBuilt Retire = Unit {0}
IsBuilt Reclaim = ⊥

-- what a command carries is within its limits: a label,
-- a block of 4,096 bytes, a count from 1 to 256
abbrev pub IsWellFormed : Command → Type 0
IsWellFormed (Attach slot) = Unit {0}
IsWellFormed (Detach slot) = Unit {0}
IsWellFormed (Create slot size label) = IsLabel label
IsWellFormed (Delete slot) = Unit {0}
IsWellFormed (Read slot vblock) = Unit {0}
IsWellFormed (Write slot vblock payload) = length (bytes_of payload) ≡ 4096
IsWellFormed (Flush slot) = Unit {0}
IsWellFormed (Reserve count) = (1 ≤ count) × (count ≤ 256)
IsWellFormed Renew = Unit {0}
IsWellFormed Retire = Unit {0}
IsWellFormed Reclaim = Unit {0}

-- a command of an attached image, by its slot
abbrev pub of_attached : Setting → Known → (holds : ℕ → Hold) →
    (reading image : ℕ) → (Session → (until : ℕ) → Process End) → Process End
of_attached s known holds reading image rest =
    attached_process s known image (known.sessions image)
    (nat_lt image s.geometry.images) (holds (lease_at (image_lease image))) reading rest

-- what a command asks after its first reading; one that isn't built asks nothing
abbrev pub command_process : Setting → Known → (holds : ℕ → Hold) →
    (hand : List ℕ) → (reading : ℕ) → Command → Process End
command_process s known holds hand reading (Attach slot) =
    attach_process s known slot.0 (known.sessions slot.0)
    (nat_lt slot.0 s.geometry.images) (holds (lease_at (image_lease slot.0)))
command_process s known holds hand reading (Detach slot) =
    of_attached s known holds reading slot.0 (detach_process s known slot.0)
command_process s known holds hand reading (Create slot size label) =
    of_attached s known holds reading slot.0 (create_process s known slot.0 size label)
command_process s known holds hand reading (Delete slot) =
    of_attached s known holds reading slot.0 (delete_process s known slot.0)
command_process s known holds hand reading (Read slot vblock) =
    of_attached s known holds reading slot.0 (read_process s known slot.0 vblock)
command_process s known holds hand reading (Write slot vblock payload) =
    of_attached s known holds reading slot.0
    (write_process s known slot.0 vblock (bytes_of payload))
command_process s known holds hand reading Renew =
    in_time s known (attached_uses known holds s.geometry.images 0) reading
    (renew_process s known holds reading (lease_count s.geometry) 0)
command_process s known holds hand reading (Flush slot) = ends reply.NotAttached known
command_process s known holds hand reading (Reserve count) =
    reserve_process s known holds hand count
command_process s known holds hand reading Retire = retire_process s known holds hand
command_process s known holds hand reading Reclaim = ends reply.NotAttached known
