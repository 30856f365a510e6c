-- The refusals that rest on a fact, in their order.
use Rattle.std.specs.Prelude.{◌≡◌, ◌≤◌, ◌+◌, ℕ, Some, true, false}
use Rattle.plx_base.specs.declared.label.Label.{Label}
use Rattle.plx_base.specs.declared.lease.Claim.{Claim}
use Rattle.plx_base.specs.declared.lease.LeaseName.TheVariants as lease
use Rattle.plx_base.specs.declared.numbers.SlotNo.{SlotNo}
use Rattle.plx_base.specs.declared.payload.Payload.{Payload}
use Rattle.plx_commands.specs.Facts.{is_size}
use Rattle.plx_commands.specs.Limits.{last_generation, last_write, last_claim, greatest_size}
use Rattle.plx_commands.specs.declared.command.Command.{Command}
use Rattle.plx_commands.specs.declared.command.Command.TheVariants.{Attach, Create, Delete, Read}
use Rattle.plx_commands.specs.declared.command.Command.TheVariants.{Write}
use Rattle.plx_commands.specs.declared.reply.Reply.{Reply}
use Rattle.plx_commands.specs.declared.reply.Reply.TheVariants as reply
use Rattle.plx_gate.specs.declared.image.ImageRecord.{ImageRecord}
use Rattle.plx_geom.specs.Geometry.{image_lease, lease_at}
use Rattle.plx_rules.specs.Holds.{Held}
use Rattle.plx_rules.specs.InUse.{InUse, IsNamedFirst}
use Rattle.plx_rules.specs.Records.{is_live, generation_of, size_of, applied_of}
use Rattle.plx_rules.specs.Settings.{Setting}
use Rattle.plx_rules.specs.Stored.{IsWriteCount}
use Rattle.law_run.specs.CommandLogs.{CommandLog, first_reading}
use Rattle.law_run.specs.Holdings.{at_first, holds_after, claims_begun, IsNotHeld}
use Rattle.law_run.specs.KnownBytes.{known_from, record_known}
use Rattle.law_run.specs.Sessions.{uses, needs, is_attached}

-- the first reading of a command has reached the end
-- of a lease that it uses, that of an attached image
pub record IsExpired (s : Setting) (log : CommandLog) (one : InUse) (reading : ℕ) : Type 0 where
  pub image : ℕ
  pub is : one.lease ≡ image_lease image
  pub used : uses log.command image ≡ true
  pub attached : is_attached log.before image ≡ true
  pub claim : Claim
  pub held : holds_after s.geometry log.before (lease_at one.lease) ≡ Held claim one.until
  pub first : first_reading log.exchanges ≡ Some reading
  pub reached : one.until ≤ reading

-- an attach needs a claim: after its first reading the lease of its image isn't held
abbrev pub NeedsClaim : Setting → CommandLog → (image : ℕ) → Type 0
NeedsClaim s log image =
    (reading : ℕ) × (first_reading log.exchanges ≡ Some reading)
    × IsNotHeld
    (at_first (is_attached log.before image) reading
    (holds_after s.geometry log.before (lease_at (image_lease image))))

-- the block that a read or a write names lies in the image
pub data NamesBlock : Command → (image vblock : ℕ) → Type 0 where
  of_read : {command : Command} {image vblock : ℕ} (slot : SlotNo) →
      command ≡ Read slot vblock → image ≡ slot.0 → NamesBlock command image vblock
  of_write : {command : Command} {image vblock : ℕ} (slot : SlotNo) (payload : Payload) →
      command ≡ Write slot vblock payload → image ≡ slot.0 →
      NamesBlock command image vblock

-- a command that works on an image which is there: a delete, a read or a write
pub data NeedsImage : Command → (image : ℕ) → Type 0 where
  of_delete : {command : Command} {image : ℕ} (slot : SlotNo) →
      command ≡ Delete slot → image ≡ slot.0 → NeedsImage command image
  of_block : {command : Command} {image : ℕ} (vblock : ℕ) →
      NamesBlock command image vblock → NeedsImage command image

-- the fact of a refusal holds, of the sessions, of the first reading and of the image that the
-- known bytes store as the command begins; the number is its place in the order of refusals
pub data Refuses (s : Setting) (log : CommandLog) : (place : ℕ) → Reply → Type 0 where
  not_attached : (image : ℕ) → needs log.command image ≡ true →
      is_attached log.before image ≡ false → Refuses s log 1 reply.NotAttached
  already_attached : (slot : SlotNo) → log.command ≡ Attach slot →
      is_attached log.before slot.0 ≡ true → Refuses s log 2 reply.AlreadyAttached
  expired : {until reading : ℕ} (slot : SlotNo) →
      IsExpired s log (record { lease = image_lease slot.0; until = until }) reading →
      ((other : InUse) → IsExpired s log other reading →
      IsNamedFirst (record { lease = image_lease slot.0; until = until }) other) →
      Refuses s log 3 (reply.Lost (lease.Image slot) until reading)
  no_slot : (slot : SlotNo) → log.command ≡ Attach slot →
      s.geometry.images ≤ slot.0 → Refuses s log 4 reply.NoImage
  no_image : (image : ℕ) (kept : ImageRecord) → NeedsImage log.command image →
      record_known s.geometry log image ≡ Some kept → is_live kept ≡ false →
      Refuses s log 4 reply.NoImage
  exists : (slot : SlotNo) (size : ℕ) (label : Label) (kept : ImageRecord) →
      log.command ≡ Create slot size label →
      record_known s.geometry log slot.0 ≡ Some kept →
      is_live kept ≡ true → Refuses s log 5 reply.Exists
  out_of_range : {size : ℕ} (image vblock : ℕ) (kept : ImageRecord) →
      NamesBlock log.command image vblock →
      record_known s.geometry log image ≡ Some kept → size ≡ size_of kept →
      size ≤ vblock → Refuses s log 6 (reply.OutOfRange size)
  out_of_limits : (slot : SlotNo) (size : ℕ) (label : Label) →
      log.command ≡ Create slot size label → is_attached log.before slot.0 ≡ true →
      is_size size ≡ false → Refuses s log 6 (reply.OutOfRange greatest_size)
  generations : (slot : SlotNo) (size : ℕ) (label : Label) (kept : ImageRecord) →
      log.command ≡ Create slot size label →
      record_known s.geometry log slot.0 ≡ Some kept →
      last_generation ≤ generation_of kept → Refuses s log 9 (reply.WornOut last_generation)
  writes : (slot : SlotNo) (vblock : ℕ) (payload : Payload) (kept : ImageRecord) (count : ℕ) →
      log.command ≡ Write slot vblock payload →
      record_known s.geometry log slot.0 ≡ Some kept →
      IsWriteCount s.geometry (known_from s.geometry log slot.0) slot.0 kept count →
      last_write ≤ count → Refuses s log 9 (reply.WornOut last_write)
  claims : (slot : SlotNo) → log.command ≡ Attach slot →
      NeedsClaim s log slot.0 → last_claim ≤ claims_begun s.geometry log.before →
      Refuses s log 9 (reply.WornOut last_claim)
  full : (slot : SlotNo) (vblock : ℕ) (payload : Payload) (kept : ImageRecord) (count : ℕ) →
      log.command ≡ Write slot vblock payload →
      record_known s.geometry log slot.0 ≡ Some kept →
      IsWriteCount s.geometry (known_from s.geometry log slot.0) slot.0 kept count →
      count ≡ applied_of kept + s.geometry.slots → Refuses s log 10 reply.Full
