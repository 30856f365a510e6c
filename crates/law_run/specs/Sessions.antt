-- The sessions of a boot, by the replies of its commands.
use Rattle.std.specs.Prelude.{ℕ, List, [], ◌∷◌, Bool, true, false, if◌then◌else◌}
use Rattle.plx_commands.specs.Replies.{is_in}
use Rattle.plx_commands.specs.Slots.{named_slots}
use Rattle.plx_commands.specs.declared.command.Command.{Command}
use Rattle.plx_commands.specs.declared.command.Command.TheVariants.{Attach, Detach, Create, Delete}
use Rattle.plx_commands.specs.declared.command.Command.TheVariants.{Read, Write, Flush, Reserve}
use Rattle.plx_commands.specs.declared.command.Command.TheVariants.{Renew, Retire, Reclaim}
use Rattle.plx_commands.specs.declared.reply.Reply.{Reply}
use Rattle.plx_commands.specs.declared.reply.Reply.TheVariants as reply
use Rattle.law_run.specs.CommandLogs.{Finished}

-- whether a command names an image
abbrev pub names : Command → (image : ℕ) → Bool
names command image = is_in image (named_slots command)

-- whether a command uses the lease of an image at its first reading:
-- it names the image, or it is a renewal, which uses those of all
abbrev pub uses : Command → (image : ℕ) → Bool
uses (Attach slot) image = names (Attach slot) image
uses (Detach slot) image = names (Detach slot) image
uses (Create slot size label) image = names (Create slot size label) image
uses (Delete slot) image = names (Delete slot) image
uses (Read slot vblock) image = names (Read slot vblock) image
uses (Write slot vblock payload) image = names (Write slot vblock payload) image
uses (Flush slot) image = names (Flush slot) image
uses (Reserve count) image = false
uses Renew image = true
uses Retire image = false
uses Reclaim image = false

-- whether a command needs a session of an image: of each that it names, but for an attach
abbrev pub needs : Command → (image : ℕ) → Bool
needs (Attach slot) image = false
needs (Detach slot) image = names (Detach slot) image
needs (Create slot size label) image = names (Create slot size label) image
needs (Delete slot) image = names (Delete slot) image
needs (Read slot vblock) image = names (Read slot vblock) image
needs (Write slot vblock payload) image = names (Write slot vblock payload) image
needs (Flush slot) image = names (Flush slot) image
needs (Reserve count) image = false
needs Renew image = false
needs Retire image = false
needs Reclaim image = false

-- whether an image is attached after a command with this reply:
-- Attached begins a session, Detached ends it, Lost and WriteFault end all
abbrev pub attached_by : Reply → Command → (image : ℕ) → (before : Bool) → Bool
attached_by (reply.Attached report) command image before =
    if names command image then true else before
attached_by reply.Detached command image before = if names command image then false else before
attached_by reply.Created command image before = before
attached_by reply.Deleted command image before = before
attached_by (reply.Data payload) command image before = before
attached_by (reply.Written number) command image before = before
attached_by (reply.Flushed applied blocks) command image before = before
attached_by reply.Reserved command image before = before
attached_by reply.Renewed command image before = before
attached_by reply.Retired command image before = before
attached_by (reply.Reclaimed covered freed reads) command image before = before
attached_by reply.NotAttached command image before = before
attached_by reply.AlreadyAttached command image before = before
attached_by reply.NoImage command image before = before
attached_by reply.Exists command image before = before
attached_by (reply.OutOfRange size) command image before = before
attached_by (reply.Busy lease seen) command image before = before
attached_by (reply.Lost lease until reading) command image before = false
attached_by (reply.ReadFault block) command image before = before
attached_by (reply.WriteFault block) command image before = false
attached_by reply.Full command image before = before
attached_by (reply.Damaged block) command image before = before
attached_by (reply.WornOut count) command image before = before

-- whether an image is attached after these commands
abbrev pub is_attached : List Finished → (image : ℕ) → Bool
is_attached [] image = false
is_attached (finished ∷ older) image =
    attached_by finished.reply finished.command image (is_attached older image)
