-- Undisturbed commands have their own Ok.
use Rattle.std.specs.Prelude.{◌≡◌, ◌≢◌, ◌+◌, ◌≤◌, ◌<◌, ◌⊎◌, ℕ, zero, suc, List, [], ◌∷◌, length, Bool, Option, Some, None, true}
use Rattle.plx_base.specs.Sectors.{Device}
use Rattle.plx_base.specs.declared.lease.Claim.{Claim}
use Rattle.plx_base.specs.declared.lease.LeaseRecord.{LeaseRecord}
use Rattle.plx_base.specs.declared.numbers.BlockNo.{BlockNo}
use Rattle.plx_commands.specs.Replies.{is_own}
use Rattle.plx_commands.specs.declared.command.Command.{Command}
use Rattle.plx_commands.specs.declared.command.Command.TheVariants.{Attach, Reserve}
use Rattle.plx_commands.specs.declared.event.Event.{Event}
use Rattle.plx_commands.specs.declared.reply.Reply.{Reply}
use Rattle.plx_disk.specs.declared.ask.Ask.{Ask}
use Rattle.plx_disk.specs.declared.ask.Ask.TheVariants as ask
use Rattle.plx_disk.specs.declared.ask.Answer.TheVariants as answer
use Rattle.plx_gate.specs.Leases.{read_lease}
use Rattle.plx_geom.specs.Geometry.{Geometry, image_lease, extent_lease, lease_at, map_at}
use Rattle.plx_rules.specs.Boot.{Idle}
use Rattle.plx_rules.specs.Hands.{hand_held}
use Rattle.plx_rules.specs.Holds.{Hold, Held, after_first}
use Rattle.plx_rules.specs.InUse.{InUse}
use Rattle.plx_rules.specs.Session.{Known}
use Rattle.plx_rules.specs.Settings.{Setting}
use Rattle.plx_rules.specs.Space.{read_map, free_from}
use Rattle.plx_rules.specs.Times.{drift, is_expired}
use Rattle.plx_rules.specs.Undisturbed.{IsUndisturbed}
use Rattle.plx_rules.specs.World.{World, Reached, Step, setting_of, stands}
use Rattle.law_run.specs.CommandLogs.{Finished, CommandLog, WasAnswered, LastAnswered, Between, commands, log_of, first_reading}
use Rattle.law_run.specs.KnownBytes.{known_in}
use Rattle.law_run.specs.Outside.{IsOutside}
use Rattle.law_run.specs.Refusals.{Refuses}
use Rattle.law_run.specs.Replies.{IsLastReading}
use Rattle.law_run.specs.Sessions.{names}
use Rattle.law_run.specs.Space.{IsWornOut, OfTake}
use Rattle.law_run.specs.Uses.{IsInUse}

-- a world to which events lead from another one
pub data ComesAfter (w : World) : World → Type 0 where
  here : ComesAfter w w
  later : {u v : World} {event : Event} → ComesAfter w u → Step u event v → ComesAfter w v

-- an appliance that is in no command in world w has in world v the reply of its next command
pub record IsAnsweredIn (appliance : ℕ) (w v : World) (before : List Finished)
    (finished : Finished) : Type 0 where
  pub known : Known
  pub idle : (stands w appliance).place ≡ Idle known
  pub start : commands (setting_of w appliance) (w.seats appliance).log ≡ Between before
  pub over : commands (setting_of v appliance) (v.seats appliance).log ≡ Between (finished ∷ before)

-- a lease is free, or expired for each reading from this moment on
pub record IsOpenFor (w : World) (lease : ℕ) : Type 0 where
  pub seen : LeaseRecord
  pub stands : read_lease (w.surface.device (lease_at lease)) ≡ Some seen
  pub expired : (reading : ℕ) → w.surface.time ≤ reading + drift → is_expired seen reading ≡ true

-- a lease is clear: it is held, or free, or expired for each reading from this moment on
abbrev pub IsClear : World → (holds : ℕ → Hold) → (lease : ℕ) → Type 0
IsClear w holds lease =
    IsOpenFor w lease
    ⊎ ((claim : Claim) × (until : ℕ) × (holds (lease_at lease) ≡ Held claim until))

-- how many blocks of an extent are free and aren't in hand, by what was read at its map
abbrev pub free_count : (hand : List ℕ) → (block : ℕ) → Option (List Bool) → ℕ
free_count hand block None = 0
free_count hand block (Some bits) = length (free_from hand block bits)

-- how many blocks are free in `left` extents from this one on
abbrev pub free_blocks : Geometry → Device → (hand : List ℕ) → (left extent : ℕ) → ℕ
free_blocks g device hand zero extent = 0
free_blocks g device hand (suc left) extent =
    free_count hand (map_at g extent) (read_map g.extent_blocks (device (map_at g extent)))
    + free_blocks g device hand left (extent + 1)

-- the lease of each extent is clear, and the free blocks of all with those in hand are so many
pub record HasRoom (w : World) (holds : ℕ → Hold) (hand : List ℕ) (count : ℕ) : Type 0 where
  pub leases : (extent : ℕ) → extent < w.geometry.extents →
      IsClear w holds (extent_lease w.geometry extent)
  pub room : count ≤
      length hand + free_blocks w.geometry w.surface.device hand w.geometry.extents 0

-- a command can claim what it needs: an attach the lease of its image, a reserve those of all
-- extents, in which there is room; another command claims none
abbrev pub CanClaim : World → (holds : ℕ → Hold) → (hand : List ℕ) → Command → Type 0
CanClaim w holds hand (Attach slot) = IsClear w holds (image_lease slot.0)
CanClaim w holds hand (Reserve count) = HasRoom w holds hand count
CanClaim w holds hand other = Unit {0}

-- what an appliance that is in no command holds once its next command has this first reading
abbrev pub holds_then : World → (appliance : ℕ) → Known → (reading : ℕ) → ℕ → Hold
holds_then w appliance known reading =
    after_first w.geometry known reading (stands w appliance).holds

-- and what it has in hand then
abbrev pub hand_then : World → (appliance : ℕ) → Known → (reading : ℕ) → List ℕ
hand_then w appliance known reading =
    hand_held w.geometry (holds_then w appliance known reading) (stands w appliance).hand

-- in the log of a command no fact refuses it; no read or write failed, and no write was missed;
-- no reading has reached the end of a lease in use; a claim is left; and the bytes that were read
-- are in the format
pub record IsUntroubled (s : Setting) (log : CommandLog) : Type 0 where
  pub fact : (place : ℕ) (refusal : Reply) → ¬ Refuses s log place refusal
  pub fault : (one : Ask) (bytes : List ℕ) → ¬ LastAnswered log one bytes answer.Fault
  pub miss : (one : Ask) (bytes : List ℕ) (reading : ℕ) →
      ¬ LastAnswered log one bytes (answer.Missed reading)
  pub in_time : (one : InUse) (reading : ℕ) → IsLastReading log.exchanges reading →
      IsInUse s log one → reading < one.until
  pub claims : (last : ℕ) → ¬ OfTake log (λ own count. IsWornOut s log own count last)
  pub image_inside : (image : ℕ) (block : BlockNo) (bytes : List ℕ) →
      names log.command image ≡ true →
      WasAnswered log (ask.Read block) [] (answer.Bytes bytes) →
      ¬ IsOutside s.geometry (known_in s.geometry log image) image block.0 bytes
  pub map_inside : (extent : ℕ) (bytes : List ℕ) →
      WasAnswered log (ask.Read (record { 0 = map_at s.geometry extent })) [] (answer.Bytes bytes) →
      read_map s.geometry.extent_blocks bytes ≢ None
  pub lease_inside : (extent : ℕ) (bytes : List ℕ) →
      WasAnswered log (ask.Read (record { 0 = lease_at (extent_lease s.geometry extent) })) []
      (answer.Bytes bytes) →
      read_lease bytes ≢ None

-- a command has its own Ok where it is undisturbed, it can claim what it needs, and nothing else in
-- its log refuses it
abbrev pub OkWhereUndisturbed : Type 0
OkWhereUndisturbed =
    (w v : World) (appliance : ℕ) (before : List Finished) (finished : Finished) →
    Reached w → appliance < w.appliances → ComesAfter w v → IsUndisturbed appliance w v →
    (run : IsAnsweredIn appliance w v before finished) →
    ((reading : ℕ) → first_reading finished.exchanges ≡ Some reading →
    CanClaim w (holds_then w appliance run.known reading) (hand_then w appliance run.known reading)
    finished.command) →
    IsUntroubled (setting_of w appliance) (log_of finished before) →
    is_own finished.command finished.reply ≡ true
