-- Which entries the model accepts: the eight rules of the judge.
use Rattle.std.specs.Prelude.{◌≡◌, ◌+◌, ◌<◌, ℕ, List, [], ◌∷◌, ◌++◌, true, Some, None, IsSome}
use Rattle.plx_base.specs.Payload.{bytes_of}
use Rattle.plx_commands.specs.Facts.{refusals, of_claims, IsAmong}
use Rattle.plx_commands.specs.Model.{Model, owns_all}
use Rattle.plx_commands.specs.Moves.{model_of}
use Rattle.plx_commands.specs.Replies.{number_of, is_listed, rests_on_fact}
use Rattle.plx_commands.specs.Reports.{IsReported}
use Rattle.plx_commands.specs.Slots.{named_slots}
use Rattle.plx_commands.specs.declared.command.Command.{Command}
use Rattle.plx_commands.specs.declared.command.Command.TheVariants.{Attach, Detach, Create, Delete}
use Rattle.plx_commands.specs.declared.command.Command.TheVariants.{Read, Write, Flush, Reserve}
use Rattle.plx_commands.specs.declared.command.Command.TheVariants.{Renew, Retire, Reclaim}
use Rattle.plx_commands.specs.declared.reply.Reply.{Reply}
use Rattle.plx_commands.specs.declared.reply.Reply.TheVariants.{Attached, Detached, Created}
use Rattle.plx_commands.specs.declared.reply.Reply.TheVariants.{Deleted, Data, Written, Flushed}
use Rattle.plx_commands.specs.declared.reply.Reply.TheVariants.{Reserved, Renewed, Retired}
use Rattle.plx_commands.specs.declared.reply.Reply.TheVariants.{Reclaimed}
use Rattle.plx_commands.specs.declared.entry.Entry.{Entry}
use Rattle.plx_commands.specs.declared.entry.Entry.TheVariants as entry

-- the reply is one of the command's
abbrev pub IsListed : Model → ℕ → Command → Reply → Type 0
IsListed m appliance command reply = is_listed command reply ≡ true

-- the slots whose owner alone answers a command with an Ok:
-- those that it names, but for an attach and a detach
abbrev pub of_owner : Command → List ℕ
of_owner (Attach slot) = []
of_owner (Detach slot) = []
of_owner command = named_slots command

-- an Ok comes from the owner of each of these slots
abbrev pub IsByOwner : Model → ℕ → Command → Reply → Type 0
IsByOwner m appliance command reply =
    number_of reply ≡ 0 → owns_all m appliance (of_owner command) ≡ true

-- what the model has for the value of each command's Ok.
-- It knows nothing of fresh blocks, of extents and of nodes
abbrev pub HasValue : Model → Command → Reply → Type 0
HasValue m (Attach slot) (Attached report) =
    (slot.0 < m.images) × IsReported (m.slots slot.0).image (m.slots slot.0).change report
HasValue m (Detach slot) Detached = Unit {0}
HasValue m (Create slot size label) Created = slot.0 < m.images
HasValue m (Delete slot) Deleted = slot.0 < m.images
HasValue m (Read slot vblock) (Data payload) =
    (slot.0 < m.images) × (bytes_of payload ≡ (m.slots slot.0).image.content vblock)
HasValue m (Write slot vblock payload) (Written number) =
    (slot.0 < m.images) × (number ≡ (m.slots slot.0).image.writes + 1)
HasValue m (Flush slot) (Flushed applied blocks) =
    (slot.0 < m.images) × (applied ≡ (m.slots slot.0).image.writes)
HasValue m (Reserve count) Reserved = Unit {0}
HasValue m Renew Renewed = Unit {0}
HasValue m Retire Retired = Unit {0}
HasValue m Reclaim (Reclaimed covered freed reads) = Unit {0}
HasValue m command reply = ⊥

-- an Ok has the value that the model has
abbrev pub IsValue : Model → ℕ → Command → Reply → Type 0
IsValue m appliance command reply = number_of reply ≡ 0 → HasValue m command reply

-- a refusal that rests on a fact comes where its fact holds, with its value
abbrev pub IsFounded : Model → ℕ → Command → Reply → Type 0
IsFounded m appliance command reply =
    rests_on_fact (number_of reply) ≡ true →
    IsAmong reply (refusals m appliance command ++ of_claims command)

-- an Ok comes where no refusal's fact holds
abbrev pub IsUnrefused : Model → ℕ → Command → Reply → Type 0
IsUnrefused m appliance command reply = number_of reply ≡ 0 → refusals m appliance command ≡ []

-- the appliance that an entry names
abbrev pub appliance_of : Entry → ℕ
appliance_of (entry.Start appliance command) = appliance.0
appliance_of (entry.Reply appliance reply) = appliance.0
appliance_of (entry.Crash appliance) = appliance.0

-- a command starts while the appliance is in none
abbrev pub IsStartOfIdle : Model → Entry → Type 0
IsStartOfIdle m (entry.Start appliance command) = m.running appliance.0 ≡ None
IsStartOfIdle m (entry.Reply appliance reply) = Unit {0}
IsStartOfIdle m (entry.Crash appliance) = Unit {0}

-- a reply comes while the appliance is in a command
abbrev pub IsReplyInCommand : Model → Entry → Type 0
IsReplyInCommand m (entry.Start appliance command) = Unit {0}
IsReplyInCommand m (entry.Reply appliance reply) = IsSome (m.running appliance.0)
IsReplyInCommand m (entry.Crash appliance) = Unit {0}

-- what holds of the reply to the command that the appliance is in
abbrev pub InCommand : (Model → ℕ → Command → Reply → Type 0) → Model → Entry → Type 0
InCommand Holds m (entry.Start appliance command) = Unit {0}
InCommand Holds m (entry.Reply appliance reply) =
    (command : Command) → m.running appliance.0 ≡ Some command → Holds m appliance.0 command reply
InCommand Holds m (entry.Crash appliance) = Unit {0}

-- the model accepts an entry that keeps all eight rules
pub record Accepts (m : Model) (entry : Entry) : Type 0 where
  pub known : appliance_of entry < m.appliances
  pub idle : IsStartOfIdle m entry
  pub running : IsReplyInCommand m entry
  pub listed : InCommand IsListed m entry
  pub owner : InCommand IsByOwner m entry
  pub value : InCommand IsValue m entry
  pub refusal : InCommand IsFounded m entry
  pub unrefused : InCommand IsUnrefused m entry

-- the rules by their numbers, where an entry breaks them
pub data Breaks : Model → Entry → ℕ → Type 0 where
  known : {m : Model} {entry : Entry} → ¬ (appliance_of entry < m.appliances) → Breaks m entry 1
  idle : {m : Model} {entry : Entry} → ¬ IsStartOfIdle m entry → Breaks m entry 2
  running : {m : Model} {entry : Entry} → ¬ IsReplyInCommand m entry → Breaks m entry 3
  listed : {m : Model} {entry : Entry} → ¬ InCommand IsListed m entry → Breaks m entry 4
  owner : {m : Model} {entry : Entry} → ¬ InCommand IsByOwner m entry → Breaks m entry 5
  value : {m : Model} {entry : Entry} → ¬ InCommand IsValue m entry → Breaks m entry 6
  refusal : {m : Model} {entry : Entry} → ¬ InCommand IsFounded m entry → Breaks m entry 7
  unrefused : {m : Model} {entry : Entry} → ¬ InCommand IsUnrefused m entry → Breaks m entry 8

-- the least rule that an entry breaks
pub record IsLeastBroken (m : Model) (entry : Entry) (rule : ℕ) : Type 0 where
  pub broken : Breaks m entry rule
  pub least : (other : ℕ) → other < rule → ¬ Breaks m entry other

-- each entry of a trace is accepted, the newest first
abbrev pub Permitted : Model → List Entry → Type 0
Permitted first [] = Unit {0}
Permitted first (entry ∷ older) = Accepts (model_of first older) entry × Permitted first older
