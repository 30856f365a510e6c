-- What the log of a command shows where its reply comes.
use Rattle.std.specs.Prelude.{◌≡◌, ◌≤◌, ◌<◌, ◌+◌, ℕ, List, [], true, false, Some}
use Rattle.plx_base.specs.Payload.{bytes_of}
use Rattle.plx_base.specs.declared.label.Label.{Label}
use Rattle.plx_base.specs.declared.lease.Claim.{Claim}
use Rattle.plx_base.specs.declared.lease.LeaseName.{LeaseName}
use Rattle.plx_base.specs.declared.lease.LeaseName.TheVariants as lease
use Rattle.plx_base.specs.declared.lease.LeaseRecord.{LeaseRecord}
use Rattle.plx_base.specs.declared.lease.LeaseRecord.TheVariants as lease_is
use Rattle.plx_base.specs.declared.numbers.BlockNo.{BlockNo}
use Rattle.plx_base.specs.declared.numbers.ExtentNo.{ExtentNo}
use Rattle.plx_base.specs.declared.numbers.SlotNo.{SlotNo}
use Rattle.plx_base.specs.declared.payload.Payload.{Payload}
use Rattle.plx_base.specs.declared.write_kind.WriteKind.{WriteKind}
use Rattle.plx_base.specs.declared.write_kind.WriteKind.TheVariants as kind
use Rattle.plx_commands.specs.Replies.{is_in}
use Rattle.plx_commands.specs.declared.command.Command.{Command}
use Rattle.plx_commands.specs.declared.command.Command.TheVariants.{Attach, Detach, Create, Delete}
use Rattle.plx_commands.specs.declared.command.Command.TheVariants.{Read, Write, Renew}
use Rattle.plx_commands.specs.declared.reply.Report.{Report}
use Rattle.plx_commands.specs.declared.reply.Reply.{Reply}
use Rattle.plx_commands.specs.declared.reply.Reply.TheVariants as reply
use Rattle.plx_disk.specs.declared.ask.Ask.TheVariants as ask
use Rattle.plx_disk.specs.declared.ask.Answer.TheVariants as answer
use Rattle.plx_gate.specs.Leases.{lease_bytes}
use Rattle.plx_gate.specs.declared.image.ImageRecord.{ImageRecord}
use Rattle.plx_geom.specs.Geometry.{Geometry, lease_count, lease_number, image_lease, lease_at}
use Rattle.plx_geom.specs.Geometry.{record_at, log_at, descriptor_at, data_at}
use Rattle.plx_rules.specs.InUse.{InUse, IsNamedFirst, lease_name}
use Rattle.plx_rules.specs.Rests.{rests_on}
use Rattle.plx_rules.specs.Settings.{Setting}
use Rattle.plx_rules.specs.Stored.{Given, Holds, StoredImage, record_on, IsContent, Stores}
use Rattle.law_run.specs.Busy.{IsBusy}
use Rattle.law_run.specs.Changes.{written_on, created_on, deleted_on, report_on}
use Rattle.law_run.specs.CommandLogs.{Exchange, Finished, CommandLog, older_than, WasAnswered}
use Rattle.law_run.specs.CommandLogs.{NewestIs, LastAnsweredIn, LastAnswered}
use Rattle.law_run.specs.Holdings as holdings
use Rattle.law_run.specs.Holdings.{filled_by_log, holds_after, holds_along, HoldsImage}
use Rattle.law_run.specs.KnownBytes.{known_in, known_before}
use Rattle.law_run.specs.Outside.{IsOutside}
use Rattle.law_run.specs.Refusals.{Refuses}
use Rattle.law_run.specs.Senses.{Sense, seen_in}
use Rattle.law_run.specs.Sessions.{is_attached, names}
use Rattle.law_run.specs.Space.{OfTake, WasBusyForSpace, IsFull, IsWornOut, IsMapDamaged}
use Rattle.law_run.specs.Space.{IsLeaseDamaged, ShowsReserve, ShowsRetire}
use Rattle.law_run.specs.Uses.{IsInUse}

-- ---- leases

-- the last ask of a command was for the clock,
-- whose reading is below the end of the lease of an image
pub record IsConfirmed (s : Setting) (log : CommandLog) (image : ℕ) : Type 0 where
  pub reading : ℕ
  pub until : ℕ
  pub last : LastAnswered log ask.Clock [] (answer.Reading reading)
  pub held : HoldsImage s log image until
  pub below : reading < until

-- the leases on which a write of a command rests that is asked after these exchanges
abbrev pub rests_by_log : Setting → List Finished → Command → List Exchange → WriteKind →
    (block : ℕ) → List ℕ → List ℕ
rests_by_log s before command exchanges kind block bytes =
    rests_on s.geometry command
    (holds_along s.geometry (is_attached before) (holds_after s.geometry before) exchanges)
    (filled_by_log s before exchanges) kind block bytes

-- a lease on which the newest ask of a command, a write, rests, by the exchanges before it; or the
-- one that it claims
pub data RestsOn (s : Setting) (log : CommandLog) : WriteKind → (block : ℕ) → List ℕ → LeaseName →
    Type 0 where
  of_list : {kind : WriteKind} {block : ℕ} {bytes : List ℕ} {name : LeaseName} →
      is_in (lease_number s.geometry name)
      (rests_by_log s log.before log.command (older_than log.exchanges) kind block bytes) ≡ true →
      RestsOn s log kind block bytes name
  of_claim : {block : ℕ} {bytes : List ℕ} {name : LeaseName} →
      block ≡ lease_at (lease_number s.geometry name) → RestsOn s log kind.Claim block bytes name

-- the last answer in these exchanges was this reading
pub data IsLastReading (exchanges : List Exchange) (reading : ℕ) : Type 0 where
  of_clock : LastAnsweredIn exchanges ask.Clock [] (answer.Reading reading) →
      IsLastReading exchanges reading
  of_wait : (from : ℕ) → LastAnsweredIn exchanges (ask.Until from) [] (answer.Reading reading) →
      IsLastReading exchanges reading

-- a lease is lost: a write that rests on it came too late for its guard; or the last reading has
-- reached its end while it was in use, and of several such leases it is the one to be named
pub data WasLost (s : Setting) (log : CommandLog) : LeaseName → (until reading : ℕ) → Type 0 where
  missed : {name : LeaseName} {until reading : ℕ}
      (kind : WriteKind) (block : BlockNo) (bytes : List ℕ) →
      LastAnswered log (ask.Write kind block until) bytes (answer.Missed reading) →
      RestsOn s log kind block.0 bytes name → WasLost s log name until reading
  reached : {name : LeaseName} {until reading : ℕ} (due : InUse) →
      name ≡ lease_name s.geometry due.lease → until ≡ due.until →
      IsLastReading log.exchanges reading → IsInUse s log due → due.until ≤ reading →
      ((other : InUse) → IsInUse s log other → other.until ≤ reading → IsNamedFirst due other) →
      WasLost s log name until reading

-- a claim of this command ended Busy with this record: that of the lease of
-- an image which the command names; or that of an extent's lease, for space
pub data WasBusy (s : Setting) (log : CommandLog) : LeaseName → LeaseRecord → Type 0 where
  of_image : {seen : LeaseRecord} (slot : SlotNo) → names log.command slot.0 ≡ true →
      IsBusy s log (image_lease slot.0) seen → WasBusy s log (lease.Image slot) seen
  for_space : {seen : LeaseRecord} (extent : ExtentNo) →
      OfTake log (λ own count. WasBusyForSpace s log own count extent.0 seen) →
      WasBusy s log (lease.Extent extent) seen

-- ---- bytes outside the format

-- a read rests on the lease of an image: it is of the image's record, log or journal
pub data ReadRestsOn (g : Geometry) (block image : ℕ) : Type 0 where
  of_record : block ≡ record_at g image → ReadRestsOn g block image
  of_log : block ≡ log_at g image → ReadRestsOn g block image
  of_descriptor : (slot : ℕ) → slot < g.slots →
      block ≡ descriptor_at g image slot → ReadRestsOn g block image
  of_data : (slot : ℕ) → slot < g.slots → block ≡ data_at g image slot → ReadRestsOn g block image

-- the bytes read at a block by a command of an image are outside the format,
-- and a later reading, the last ask, is below the end of each lease on which the read rested
pub record IsImageDamaged (s : Setting) (log : CommandLog) (block : BlockNo) : Type 0 where
  pub image : ℕ
  pub named : names log.command image ≡ true
  pub bytes : List ℕ
  pub reading : ℕ
  pub read : WasAnswered log (ask.Read block) [] (answer.Bytes bytes)
  pub outside : IsOutside s.geometry (known_in s.geometry log image) image block.0 bytes
  pub last : LastAnswered log ask.Clock [] (answer.Reading reading)
  pub below : (other : ℕ) → other < s.geometry.images → ReadRestsOn s.geometry block.0 other →
      (until : ℕ) × HoldsImage s log other until × (reading < until)

-- bytes outside the format were read at a block: of an image
-- that the command names; of a map; or of an extent's lease
pub data WasDamaged (s : Setting) (log : CommandLog) (block : BlockNo) : Type 0 where
  in_image : IsImageDamaged s log block → WasDamaged s log block
  in_map : IsMapDamaged s log block → WasDamaged s log block
  in_lease : IsLeaseDamaged s log block → WasDamaged s log block

-- ---- the Ok of each command

-- what is known by now, in a sense
abbrev pub seen_now : Setting → Sense → CommandLog → (image : ℕ) → Given
seen_now s sense log image = seen_in sense s.geometry (known_in s.geometry log image)

-- and what was known before the command's own writes
abbrev pub seen_before : Setting → Sense → CommandLog → (image : ℕ) → Given
seen_before s sense log image = seen_in sense s.geometry (known_before s.geometry log image)

-- the image is attached: the report is that of the image that the known bytes store,
-- which has no snapshots; and no bytes that were read are outside the format
pub record ShowsImage (s : Setting) (sense : Sense) (log : CommandLog) (report : Report)
    : Type 0 where
  pub slot : SlotNo
  pub command : log.command ≡ Attach slot
  pub confirmed : IsConfirmed s log slot.0
  pub image : StoredImage
  pub stores : Stores s.geometry (seen_now s sense log slot.0) slot.0 image
  pub whole : image.frozen ≡ []
  pub told : report ≡ report_on image
  pub inside : (block : BlockNo) (bytes : List ℕ) →
      WasAnswered log (ask.Read block) [] (answer.Bytes bytes) →
      ¬ IsOutside s.geometry (known_in s.geometry log slot.0) slot.0 block.0 bytes

-- the image is detached: its lease is released
pub record ShowsDetached (s : Setting) (log : CommandLog) : Type 0 where
  pub slot : SlotNo
  pub command : log.command ≡ Detach slot
  pub guard : ℕ
  pub released : LastAnswered log
      (ask.Write kind.Release (record { 0 = lease_at (image_lease slot.0) }) guard)
      (lease_bytes lease_is.Free) answer.Done

-- an image is made: the known bytes store the new image, where they stored a free slot
pub record ShowsCreate (s : Setting) (sense : Sense) (log : CommandLog) : Type 0 where
  pub slot : SlotNo
  pub size : ℕ
  pub label : Label
  pub command : log.command ≡ Create slot size label
  pub confirmed : IsConfirmed s log slot.0
  pub image : StoredImage
  pub free : image.live ≡ false
  pub before : Stores s.geometry (seen_before s sense log slot.0) slot.0 image
  pub after : Stores s.geometry (seen_now s sense log slot.0) slot.0 (created_on image size label)

-- an image is deleted: the known bytes store a free slot, where they stored the image
pub record ShowsDelete (s : Setting) (sense : Sense) (log : CommandLog) : Type 0 where
  pub slot : SlotNo
  pub command : log.command ≡ Delete slot
  pub confirmed : IsConfirmed s log slot.0
  pub image : StoredImage
  pub live : image.live ≡ true
  pub before : Stores s.geometry (seen_before s sense log slot.0) slot.0 image
  pub after : Stores s.geometry (seen_now s sense log slot.0) slot.0 (deleted_on image)

-- data was given: it is the content that the known bytes store
pub record ShowsContent (s : Setting) (sense : Sense) (log : CommandLog) (payload : Payload)
    : Type 0 where
  pub slot : SlotNo
  pub vblock : ℕ
  pub command : log.command ≡ Read slot vblock
  pub confirmed : IsConfirmed s log slot.0
  pub kept : ImageRecord
  pub found : record_on s.geometry (known_in s.geometry log slot.0) slot.0 ≡ Some kept
  pub content : IsContent s.geometry (seen_now s sense log slot.0) slot.0
      kept vblock (Holds (bytes_of payload))

-- a block was written: the known bytes store the image from before, changed by this write
pub record ShowsWrite (s : Setting) (sense : Sense) (log : CommandLog) (number : ℕ) : Type 0 where
  pub slot : SlotNo
  pub vblock : ℕ
  pub payload : Payload
  pub command : log.command ≡ Write slot vblock payload
  pub confirmed : IsConfirmed s log slot.0
  pub image : StoredImage
  pub before : Stores s.geometry (seen_before s sense log slot.0) slot.0 image
  pub after : Stores s.geometry (seen_now s sense log slot.0) slot.0
      (written_on image vblock (bytes_of payload))
  pub told : number ≡ image.writes + 1

-- each lease that is held was renewed in this command, until the moment until which it is held
pub record ShowsRenewals (s : Setting) (log : CommandLog) : Type 0 where
  pub command : log.command ≡ Renew
  pub renewed : (lease : ℕ) (claim : Claim) (until : ℕ) →
      lease < lease_count s.geometry → holdings.Holds s log lease claim until →
      (guard : ℕ)
      × WasAnswered log (ask.Write kind.Renew (record { 0 = lease_at lease }) guard)
      (lease_bytes (lease_is.Claimed claim until)) answer.Done

-- ---- all replies

-- why a reply comes of the work, and what it shows, in these senses; a refusal that rests on a fact
-- comes of none, and no command that is built has the Oks that show nothing
abbrev pub Comes : Setting → (Sense → Type 0) → CommandLog → Reply → Type 0
Comes s senses log (reply.Attached report) =
    (sense : Sense) → senses sense → ShowsImage s sense log report
Comes s senses log reply.Detached = ShowsDetached s log
Comes s senses log reply.Created = (sense : Sense) → senses sense → ShowsCreate s sense log
Comes s senses log reply.Deleted = (sense : Sense) → senses sense → ShowsDelete s sense log
Comes s senses log (reply.Data payload) =
    (sense : Sense) → senses sense → ShowsContent s sense log payload
Comes s senses log (reply.Written number) =
    (sense : Sense) → senses sense → ShowsWrite s sense log number
Comes s senses log (reply.Flushed applied blocks) = ⊥
Comes s senses log reply.Reserved = ShowsReserve s log
Comes s senses log reply.Renewed = ShowsRenewals s log
Comes s senses log reply.Retired = ShowsRetire s log
Comes s senses log (reply.Reclaimed covered freed reads) = ⊥
Comes s senses log reply.NotAttached = ⊥
Comes s senses log reply.AlreadyAttached = ⊥
Comes s senses log reply.NoImage = ⊥
Comes s senses log reply.Exists = ⊥
Comes s senses log (reply.OutOfRange size) = ⊥
Comes s senses log (reply.Busy lease seen) = WasBusy s log lease seen
Comes s senses log (reply.Lost lease until reading) = WasLost s log lease until reading
Comes s senses log (reply.ReadFault block) = LastAnswered log (ask.Read block) [] answer.Fault
Comes s senses log (reply.WriteFault block) =
    (kind : WriteKind) × (guard : ℕ) × (bytes : List ℕ)
    × LastAnswered log (ask.Write kind block guard) bytes answer.Fault
Comes s senses log reply.Full = OfTake log (IsFull s log)
Comes s senses log (reply.Damaged block) = WasDamaged s log block
Comes s senses log (reply.WornOut last) = OfTake log (λ own count. IsWornOut s log own count last)

-- a command was asked for its first reading alone
abbrev pub IsAtFirst : CommandLog → Type 0
IsAtFirst log = (reading : ℕ) × NewestIs log.exchanges ask.Clock [] (answer.Reading reading) []

-- a command has its reply: at its first reading the first refusal whose fact holds,
-- or, where no fact of a refusal holds, what comes of its work
pub data IsReplied (s : Setting) (senses : Sense → Type 0) (log : CommandLog) : Reply → Type 0 where
  refused : {reply : Reply} (place : ℕ) → IsAtFirst log → Refuses s log place reply →
      ((later : ℕ) (other : Reply) → Refuses s log later other → place ≤ later) →
      IsReplied s senses log reply
  worked : {reply : Reply} → ((place : ℕ) (other : Reply) → ¬ Refuses s log place other) →
      Comes s senses log reply → IsReplied s senses log reply
