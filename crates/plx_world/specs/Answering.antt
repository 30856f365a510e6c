-- An appliance's ask, and its answer.
use Rattle.std.specs.Prelude.{◌≡◌, ℕ, List, [], ◌∷◌, length, slice_get, nat_lt, if◌then◌else◌, Option, Some, None}
use Rattle.plx_appliance.specs.Appliance.{IsRunning}
use Rattle.plx_alloc.specs.Asking.{IsOnDevice}
use Rattle.plx_base.specs.declared.numbers.ApplianceNo.{ApplianceNo}
use Rattle.plx_base.specs.declared.numbers.BlockNo.{BlockNo}
use Rattle.plx_base.specs.declared.write_kind.WriteKind.{WriteKind}
use Rattle.plx_commands.specs.declared.entry.Entry.{Entry}
use Rattle.plx_commands.specs.declared.entry.Entry.TheVariants as entry
use Rattle.plx_commands.specs.declared.event.Event.{Event}
use Rattle.plx_commands.specs.declared.reply.Reply.{Reply}
use Rattle.plx_disk.specs.Lending.{IsLent}
use Rattle.plx_disk.specs.Standing.{Stands as DiskStands}
use Rattle.plx_disk.specs.Writes.{Surface}
use Rattle.plx_disk.specs.declared.ask.Answer.{Answer}
use Rattle.plx_disk.specs.declared.ask.Answer.TheVariants as answer
use Rattle.plx_disk.specs.declared.ask.Ask.{Ask}
use Rattle.plx_disk.specs.declared.ask.Ask.TheVariants as ask
use Rattle.plx_disk.specs.declared.disk.Disk.{Disk}
use Rattle.plx_rules.specs.Boot.{Fits, asks, replies, reply_of, writes_out}
use Rattle.plx_rules.specs.Ends.{End}
use Rattle.plx_rules.specs.Process.{Process}
use Rattle.plx_rules.specs.World as rules
use Rattle.plx_rules.specs.World.{goes_on, setting_of, stands}
use Rattle.plx_world.specs.Seats.{AsksAs}
use Rattle.plx_world.specs.Standing.{WorldStands}
use Rattle.plx_world.specs.declared.seat.Seat.{Seat}
use Rattle.plx_world.specs.declared.world.World.{World}

-- the appliance of this number is there, and is in a command
pub record RunsCommand (world : World) (number : ℕ) : Type 0 where
  pub seat : Seat
  pub there : slice_get world.seats.items number ≡ Some seat
  pub running : IsRunning seat.appliance

-- the appliance of this number is there, and asks for this write, which isn't issued yet
pub record AsksWrite (world : World) (number : ℕ) (kind : WriteKind) (block : BlockNo) (guard : ℕ) : Type 0 where
  pub seat : Seat
  pub there : slice_get world.seats.items number ≡ Some seat
  pub running : IsRunning seat.appliance
  pub unissued : seat.pending ≡ None
  pub asked : AsksAs seat.appliance (Some (ask.Write kind block guard))
  pub within : IsOnDevice world.geometry (ask.Write kind block guard)

-- what the appliance of this number asks, if it is there and in a command
abbrev pub asked_by : rules.World → (number : ℕ) → Option Ask
asked_by w number = if nat_lt number w.appliances then asks (stands w number).place else None

-- the number of the write for which it waits, if it is there and waits for one
abbrev pub pending_of : rules.World → (number : ℕ) → Option ℕ
pending_of w number = if nat_lt number w.appliances then (w.seats number).pending else None

-- the ask that stands was answered
pub record IsAnswered (old new : World) (appliance : ApplianceNo) (answer : Answer) : Type 0 where
  pub leads : (w : rules.World) (event : Event) (ask : Ask) (bytes : List ℕ) (rest : Process End) → WorldStands old w →
      asks (stands w appliance.0).place ≡ Some ask → writes_out (stands w appliance.0).place ≡ bytes → Fits ask answer →
      replies (setting_of w appliance.0) answer (stands w appliance.0) ≡ reply_of rest →
      WorldStands new (goes_on w event appliance ask bytes answer rest)

-- the answer is the bytes of a block, 4,096 of them, which the device has lent
abbrev pub LendsBlock : (old new : Disk) → ℕ → Answer → Type 0
LendsBlock old new block (answer.Bytes bytes) = (length bytes ≡ 4096) × IsLent old new block bytes
LendsBlock old new block answer.Done = ⊥
LendsBlock old new block (answer.Reading reading) = ⊥
LendsBlock old new block (answer.Missed reading) = ⊥
LendsBlock old new block answer.Fault = ⊥

-- the ask that stands was answered with the bytes that stand in a block
pub record AnswersRead (old new : World) (appliance : ApplianceNo) (block : ℕ) : Type 0 where
  pub bytes : List ℕ
  pub whole : length bytes ≡ 4096
  pub stored : (s : Surface) → DiskStands old.disk s → bytes ≡ s.device block
  pub answered : IsAnswered old new appliance (answer.Bytes bytes)

-- what a reply adds to a trace
abbrev pub told_entries : ApplianceNo → Option Reply → List Entry
told_entries appliance None = []
told_entries appliance (Some reply) = entry.Reply appliance reply ∷ []
