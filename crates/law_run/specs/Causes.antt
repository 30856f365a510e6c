-- What a command may do after its newest exchange: the cause of a refusal ends it at once.
use Rattle.std.specs.Prelude.{◌≡◌, ◌≤◌, ◌<◌, ℕ, List, [], ◌∷◌, if◌then◌else◌, ◌==◌, None, true}
use Rattle.plx_base.specs.declared.lease.LeaseRecord.{LeaseRecord}
use Rattle.plx_base.specs.declared.numbers.BlockNo.{BlockNo}
use Rattle.plx_base.specs.declared.numbers.SlotNo.{SlotNo}
use Rattle.plx_commands.specs.declared.command.Command.{Command}
use Rattle.plx_commands.specs.declared.command.Command.TheVariants.{Attach}
use Rattle.plx_commands.specs.declared.reply.Reply.{Reply}
use Rattle.plx_disk.specs.declared.ask.Ask.{Ask}
use Rattle.plx_disk.specs.declared.ask.Ask.TheVariants as ask
use Rattle.plx_disk.specs.declared.ask.Answer.{Answer}
use Rattle.plx_disk.specs.declared.ask.Answer.TheVariants as answer
use Rattle.plx_gate.specs.Leases.{read_lease}
use Rattle.plx_geom.specs.Geometry.{Geometry, lease_count, image_lease, lease_at, record_at, map_at}
use Rattle.plx_rules.specs.InUse.{InUse}
use Rattle.plx_rules.specs.Settings.{Setting}
use Rattle.plx_rules.specs.Space.{read_map}
use Rattle.plx_rules.specs.Stored.{Given}
use Rattle.law_run.specs.Busy.{IsBusy}
use Rattle.law_run.specs.CommandLogs.{Exchange, Finished, CommandLog, LastAnswered, without_newest}
use Rattle.law_run.specs.KnownBytes.{known_in}
use Rattle.law_run.specs.Outside.{IsOutside}
use Rattle.law_run.specs.Refusals.{Refuses}
use Rattle.law_run.specs.Sessions.{names}
use Rattle.law_run.specs.Uses.{IsInUse}

-- what is given of the record of an image, and of no other block
abbrev pub record_alone : Geometry → Given → (image : ℕ) → Given
record_alone g given image = λ block. if block == record_at g image then given block else None

-- what is known by now of the record of an image, and of no other block
abbrev pub record_by_now : Setting → CommandLog → (image : ℕ) → Given
record_by_now s log image = record_alone s.geometry (known_in s.geometry log image) image

-- the newest exchange of a command has read bytes outside the format: of a lease; of a map; or at
-- a block of an image that it names, as its record tells. Whether a write is missing among those
-- of a journal is told once all of it was read
pub data HasReadOutside (s : Setting) (log : CommandLog) : Type 0 where
  of_lease : (lease : ℕ) (bytes : List ℕ) → lease < lease_count s.geometry →
      LastAnswered log (ask.Read (record { 0 = lease_at lease })) [] (answer.Bytes bytes) →
      read_lease bytes ≡ None → HasReadOutside s log
  of_map : (extent : ℕ) (bytes : List ℕ) → extent < s.geometry.extents →
      LastAnswered log (ask.Read (record { 0 = map_at s.geometry extent })) []
      (answer.Bytes bytes) →
      read_map s.geometry.extent_blocks bytes ≡ None → HasReadOutside s log
  of_image : (image : ℕ) (block : BlockNo) (bytes : List ℕ) → names log.command image ≡ true →
      LastAnswered log (ask.Read block) [] (answer.Bytes bytes) →
      IsOutside s.geometry (record_by_now s log image) image block.0 bytes → HasReadOutside s log

-- a reading has reached the end of a lease in use
pub record HasReached (s : Setting) (log : CommandLog) (reading : ℕ) : Type 0 where
  pub due : InUse
  pub used : IsInUse s log due
  pub past : due.until ≤ reading

-- the claim of an attach has ended Busy with the newest exchange
pub record WasAttachBusy (s : Setting) (log : CommandLog) : Type 0 where
  pub slot : SlotNo
  pub seen : LeaseRecord
  pub command : log.command ≡ Attach slot
  pub busy : IsBusy s log (image_lease slot.0) seen

-- the fact of a refusal holds
abbrev pub IsRefused : Setting → CommandLog → Type 0
IsRefused s log = (place : ℕ) × (refusal : Reply) × Refuses s log place refusal

-- a command goes on with its next ask after its newest answer: after bytes, where no attach's claim
-- ended Busy by them, and with the clock alone where they are outside the format; after a reading
-- that has reached no lease in use and doesn't follow on such bytes, where no refusal's fact holds;
-- and after a write that is done. It doesn't after a missed write or a fault
abbrev pub MayGoOnAfter : Setting → CommandLog → (next : Ask) → Answer → Type 0
MayGoOnAfter s log next (answer.Bytes bytes) =
    (HasReadOutside s log → next ≡ ask.Clock) × ¬ WasAttachBusy s log
MayGoOnAfter s log next answer.Done = Unit {0}
MayGoOnAfter s log next (answer.Reading reading) =
    ¬ HasReached s log reading × ¬ HasReadOutside s (without_newest log) × ¬ IsRefused s log
MayGoOnAfter s log next (answer.Missed reading) = ⊥
MayGoOnAfter s log next answer.Fault = ⊥

-- the same after these exchanges of the log, of which there may be none
abbrev pub MayGoOnWith : Setting → CommandLog → (next : Ask) → List Exchange → Type 0
MayGoOnWith s log next [] = Unit {0}
MayGoOnWith s log next (newest ∷ older) = MayGoOnAfter s log next newest.answer

-- an ask may follow on what the command has met so far
abbrev pub MayFollow : Setting → CommandLog → (next : Ask) → Type 0
MayFollow s log next = MayGoOnWith s log next log.exchanges

-- each ask of a command followed on what it had met before
abbrev pub AllFollow : Setting → List Finished → Command → List Exchange → Type 0
AllFollow s before command [] = Unit {0}
AllFollow s before command (exchange ∷ older) =
    MayFollow s (record { before = before; command = command; exchanges = older }) exchange.ask
    × AllFollow s before command older
