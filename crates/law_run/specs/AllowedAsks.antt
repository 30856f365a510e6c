-- Which asks a command may make.
use Rattle.std.specs.Prelude.{◌≡◌, ◌+◌, ◌<◌, ℕ, List, [], ◌∷◌, length, drop, Bool, Option, Some}
use Rattle.std.specs.Prelude.{None, true}
use Rattle.plx_base.specs.Blocks.{zeros}
use Rattle.plx_base.specs.Payload.{bytes_of}
use Rattle.plx_base.specs.declared.label.Label.{Label}
use Rattle.plx_base.specs.declared.lease.Claim.{Claim}
use Rattle.plx_base.specs.declared.lease.LeaseRecord.{LeaseRecord}
use Rattle.plx_base.specs.declared.lease.LeaseRecord.TheVariants as lease_is
use Rattle.plx_base.specs.declared.numbers.SlotNo.{SlotNo}
use Rattle.plx_base.specs.declared.payload.Payload.{Payload}
use Rattle.plx_base.specs.declared.write_kind.WriteKind.{WriteKind}
use Rattle.plx_base.specs.declared.write_kind.WriteKind.TheVariants as kind
use Rattle.plx_commands.specs.declared.command.Command.TheVariants.{Create, Delete, Write}
use Rattle.plx_commands.specs.Replies.{is_in}
use Rattle.plx_disk.specs.declared.ask.Ask.{Ask}
use Rattle.plx_disk.specs.declared.ask.Ask.TheVariants as ask
use Rattle.plx_disk.specs.declared.ask.Answer.{Answer}
use Rattle.plx_disk.specs.declared.ask.Answer.TheVariants as answer
use Rattle.plx_extent.specs.Maps.{IsMap, map_bytes}
use Rattle.plx_gate.specs.Descriptors.{IsDescriptor, descriptor_bytes}
use Rattle.plx_gate.specs.Images.{IsImage, image_bytes}
use Rattle.plx_gate.specs.Leases.{IsClaimed, lease_bytes, read_lease}
use Rattle.plx_gate.specs.declared.descriptor.Descriptor.{Descriptor}
use Rattle.plx_gate.specs.declared.image.ImageRecord.{ImageRecord}
use Rattle.plx_gate.specs.declared.image.ImageRecord.TheVariants as image_is
use Rattle.plx_geom.specs.Geometry.{lease_count, extent_lease, lease_at, record_at, descriptor_at}
use Rattle.plx_geom.specs.Geometry.{data_at, map_at}
use Rattle.plx_rules.specs.Commands.{later_of}
use Rattle.plx_rules.specs.Holds.{Wrote}
use Rattle.plx_rules.specs.Journal.{journal_slot}
use Rattle.plx_rules.specs.Records.{is_live, generation_of, made_record}
use Rattle.plx_rules.specs.Rests.{extent_of}
use Rattle.plx_rules.specs.Settings.{Setting}
use Rattle.plx_rules.specs.Space.{read_map, free_from, with_set, with_clear}
use Rattle.plx_rules.specs.Stored.{Given, record_on, IsCounted, IsWriteCount}
use Rattle.plx_rules.specs.Times.{window, wait, term, is_expired}
use Rattle.law_run.specs.CommandLogs.{Exchange, CommandLog, WasAnswered, LastAnswered}
use Rattle.law_run.specs.CommandLogs.{first_reading}
use Rattle.law_run.specs.Holdings.{hold_by_log, hand_by_log, Holds, HoldsImage, claims_in}
use Rattle.law_run.specs.Holdings.{claims_begun, IsNotHeld}
use Rattle.law_run.specs.KnownBytes.{known_in}
use Rattle.law_run.specs.Sessions.{is_attached}

-- the last two exchanges of a command were a reading of the clock and the read of a lease
abbrev pub HasSampled : CommandLog → (lease sample : ℕ) →
    (bytes : List ℕ) → (older : List Exchange) → Type 0
HasSampled log lease sample bytes older =
    log.exchanges
    ≡ (record {
      ask = ask.Read (record { 0 = lease_at lease });
      bytes = [];
      answer = answer.Bytes bytes;
    })
    ∷ (record { ask = ask.Clock; bytes = []; answer = answer.Reading sample }) ∷ older

-- the write after the last one of an attached image;
-- none that counts has its data in the same block
pub record IsNext (s : Setting) (log : CommandLog) (image number : ℕ) : Type 0 where
  pub attached : is_attached log.before image ≡ true
  pub kept : ImageRecord
  pub found : record_on s.geometry (known_in s.geometry log image) image ≡ Some kept
  pub live : is_live kept ≡ true
  pub count : ℕ
  pub counts : IsWriteCount s.geometry (known_in s.geometry log image) image kept count
  pub next : number ≡ count + 1
  pub free : (other vblock : ℕ) →
      ¬ IsCounted s.geometry (known_in s.geometry log image) image kept other vblock
      (data_at s.geometry image (journal_slot s.geometry.slots number))

-- the bytes that are known of a block, or zeros where none are
abbrev pub last_known : Option (List ℕ) → List ℕ
last_known None = zeros
last_known (Some bytes) = bytes

-- new bytes of a block differ from the known ones in the first sector alone
abbrev pub IsFirstSector : Given → (block : ℕ) → List ℕ → Type 0
IsFirstSector given block bytes = drop 512 bytes ≡ drop 512 (last_known (given block))

-- the last exchange of a command was the read of a block, with these bytes
abbrev pub HasRead : CommandLog → (block : ℕ) → List ℕ → Type 0
HasRead log block read = LastAnswered log (ask.Read (record { 0 = block })) [] (answer.Bytes read)

-- a write may be asked for, by its kind, with its block, its bytes, which spell a value within the
-- limits of its format, and its guard: a take sets clear bits of blocks that aren't in hand, and a
-- give clears those of blocks that are, in the map that was just read
pub data MayWrite (s : Setting) (log : CommandLog) : WriteKind →
    (block : ℕ) → (bytes : List ℕ) → (guard : ℕ) → Type 0 where
  claim_of_lease : {block : ℕ} {bytes : List ℕ} {guard : ℕ} (lease : ℕ)
      (claim : Claim) (seen : LeaseRecord) (read : List ℕ) (older : List Exchange) →
      lease < lease_count s.geometry → block ≡ lease_at lease →
      IsNotHeld (hold_by_log s log.before log.exchanges lease) →
      HasSampled log lease claim.sample read older →
      read_lease read ≡ Some seen → is_expired seen claim.sample ≡ true →
      claim.boot.0 ≡ s.boot →
      claim.number ≡ claims_in s.geometry older + claims_begun s.geometry log.before →
      IsClaimed claim (claim.sample + term) →
      bytes ≡ lease_bytes (lease_is.Claimed claim (claim.sample + term)) →
      drop 512 bytes ≡ drop 512 read → guard ≡ claim.sample + window →
      MayWrite s log kind.Claim block bytes guard
  renewal_of_lease : {block : ℕ} {bytes : List ℕ}
      {guard : ℕ} (lease : ℕ) (claim : Claim) (reading : ℕ) →
      lease < lease_count s.geometry → block ≡ lease_at lease →
      Holds s log lease claim guard → first_reading log.exchanges ≡ Some reading →
      IsClaimed claim (later_of guard (reading + term)) →
      bytes ≡ lease_bytes (lease_is.Claimed claim (later_of guard (reading + term))) →
      MayWrite s log kind.Renew block bytes guard
  release_of_lease : {block : ℕ} {bytes : List ℕ} {guard : ℕ} (lease : ℕ) (claim : Claim) →
      lease < lease_count s.geometry → block ≡ lease_at lease → Holds s log lease claim guard →
      bytes ≡ lease_bytes lease_is.Free → MayWrite s log kind.Release block bytes guard
  record_of_create : {block : ℕ} {bytes : List ℕ} {guard : ℕ}
      (slot : SlotNo) (size : ℕ) (label : Label) (generation : ℕ) →
      log.command ≡ Create slot size label →
      HoldsImage s log slot.0 guard → block ≡ record_at s.geometry slot.0 →
      record_on s.geometry (known_in s.geometry log slot.0) slot.0
      ≡ Some (image_is.Free generation) →
      IsImage (made_record (generation + 1) size label) →
      bytes ≡ image_bytes (made_record (generation + 1) size label) →
      IsFirstSector (known_in s.geometry log slot.0) block bytes →
      MayWrite s log kind.Record block bytes guard
  record_of_delete : {block : ℕ} {bytes : List ℕ} {guard : ℕ} (slot : SlotNo) (kept : ImageRecord) →
      log.command ≡ Delete slot → HoldsImage s log slot.0 guard →
      block ≡ record_at s.geometry slot.0 →
      record_on s.geometry (known_in s.geometry log slot.0) slot.0 ≡ Some kept →
      is_live kept ≡ true →
      IsImage (image_is.Free (generation_of kept)) →
      bytes ≡ image_bytes (image_is.Free (generation_of kept)) →
      IsFirstSector (known_in s.geometry log slot.0) block bytes →
      MayWrite s log kind.Record block bytes guard
  data_of_write : {block : ℕ} {bytes : List ℕ} {guard : ℕ}
      (slot : SlotNo) (vblock : ℕ) (payload : Payload) (number : ℕ) →
      log.command ≡ Write slot vblock payload →
      HoldsImage s log slot.0 guard → IsNext s log slot.0 number →
      block ≡ data_at s.geometry slot.0 (journal_slot s.geometry.slots number) →
      bytes ≡ bytes_of payload → length bytes ≡ 4096 →
      MayWrite s log kind.JData block bytes guard
  commit_of_write : {block : ℕ} {bytes : List ℕ} {guard : ℕ}
      (slot : SlotNo) (vblock : ℕ) (payload : Payload) (d : Descriptor) →
      log.command ≡ Write slot vblock payload →
      HoldsImage s log slot.0 guard → (next : IsNext s log slot.0 d.number) →
      block ≡ descriptor_at s.geometry slot.0 (journal_slot s.geometry.slots d.number) →
      IsDescriptor d → bytes ≡ descriptor_bytes d →
      d.vblock ≡ vblock → d.generation ≡ generation_of next.kept →
      WasAnswered log
      (ask.Write kind.JData
      (record { 0 = data_at s.geometry slot.0 (journal_slot s.geometry.slots d.number) }) guard)
      (bytes_of payload) answer.Done →
      IsFirstSector (known_in s.geometry log slot.0) block bytes →
      MayWrite s log kind.JCommit block bytes guard
  take_of_blocks : {block : ℕ} {bytes : List ℕ} {guard : ℕ} (extent : ℕ)
      (claim : Claim) (read : List ℕ) (bits : List Bool) (blocks : List ℕ) →
      extent < s.geometry.extents → block ≡ map_at s.geometry extent →
      Holds s log (extent_lease s.geometry extent) claim guard → HasRead log block read →
      read_map s.geometry.extent_blocks read ≡ Some bits →
      ((b : ℕ) → is_in b blocks ≡ true →
      is_in b (free_from (hand_by_log s log.before log.exchanges) block bits) ≡ true) →
      IsMap s.geometry.extent_blocks (with_set blocks block bits) →
      bytes ≡ map_bytes (with_set blocks block bits) → MayWrite s log kind.Take block bytes guard
  give_of_blocks : {block : ℕ} {bytes : List ℕ} {guard : ℕ} (extent : ℕ)
      (claim : Claim) (read : List ℕ) (bits : List Bool) (blocks : List ℕ) →
      extent < s.geometry.extents → block ≡ map_at s.geometry extent →
      Holds s log (extent_lease s.geometry extent) claim guard → HasRead log block read →
      read_map s.geometry.extent_blocks read ≡ Some bits →
      ((b : ℕ) → is_in b blocks ≡ true → is_in b (hand_by_log s log.before log.exchanges) ≡ true) →
      IsMap s.geometry.extent_blocks (with_clear blocks block bits) →
      bytes ≡ map_bytes (with_clear blocks block bits) → MayWrite s log kind.Give block bytes guard
  fresh_of_block : {block : ℕ} {bytes : List ℕ} {guard : ℕ} (claim : Claim) →
      Holds s log (extent_lease s.geometry (extent_of s.geometry block)) claim guard →
      is_in block (hand_by_log s log.before log.exchanges) ≡ true → length bytes ≡ 4096 →
      MayWrite s log kind.Fresh block bytes guard

-- a wait may be asked for: from 601 ms after the sample of a claim that was written
pub record MayWait (s : Setting) (log : CommandLog) (from : ℕ) : Type 0 where
  pub lease : ℕ
  pub claim : Claim
  pub until : ℕ
  pub wrote : hold_by_log s log.before log.exchanges lease ≡ Wrote claim until
  pub after : from ≡ claim.sample + wait

-- what an ask needs: a read and a reading nothing
abbrev pub HasGrounds : Setting → CommandLog → Ask → (bytes : List ℕ) → Type 0
HasGrounds s log (ask.Write kind block guard) bytes = MayWrite s log kind block.0 bytes guard
HasGrounds s log (ask.Read block) bytes = Unit {0}
HasGrounds s log ask.Clock bytes = Unit {0}
HasGrounds s log (ask.Until from) bytes = MayWait s log from

-- a command goes on after an answer: a fault and a missed write end it at once
abbrev pub GoesOn : Answer → Type 0
GoesOn (answer.Bytes bytes) = Unit {0}
GoesOn answer.Done = Unit {0}
GoesOn (answer.Reading reading) = Unit {0}
GoesOn (answer.Missed reading) = ⊥
GoesOn answer.Fault = ⊥

-- it went on after each of these
abbrev pub WentOn : List Exchange → Type 0
WentOn [] = Unit {0}
WentOn (exchange ∷ older) = GoesOn exchange.answer × WentOn older

-- an ask is allowed: nothing before it ended the command, and it has what it needs
abbrev pub MayAsk : Setting → CommandLog → Ask → (bytes : List ℕ) → Type 0
MayAsk s log ask bytes = WentOn log.exchanges × HasGrounds s log ask bytes
