-- Which refusals' facts hold of a command.
use Rattle.std.proofs.Common.{◌≡◌, ◌≢◌, ℕ, suc, ◌+◌, ◌≤◌, ◌<◌, true, false, Some, arith, inl, inr}
use Rattle.std.proofs.lemmas.Bool.Decides.{leb_tells}
use Rattle.plx_base.specs.declared.label.Label.{Label}
use Rattle.plx_base.specs.declared.numbers.SlotNo.{SlotNo}
use Rattle.plx_base.specs.declared.payload.Payload.{Payload}
use Rattle.plx_commands.specs.Facts.{is_size}
use Rattle.plx_commands.specs.Limits.{last_generation, last_write, last_claim}
use Rattle.plx_commands.specs.declared.command.Command.TheVariants.{Attach, Create, Write}
use Rattle.plx_commands.specs.declared.reply.Reply.{Reply}
use Rattle.plx_gate.specs.declared.image.ImageRecord.{ImageRecord}
use Rattle.plx_rules.specs.Records.{is_live, generation_of, size_of, applied_of}
use Rattle.plx_geom.specs.Geometry.{image_lease}
use Rattle.plx_rules.specs.InUse.{InUse}
use Rattle.plx_rules.specs.Settings.{Setting}
use Rattle.plx_rules.specs.Stored.{IsWriteCount}
use Rattle.law_run.specs.CommandLogs.{CommandLog}
use Rattle.law_run.specs.Holdings.{claims_begun}
use Rattle.law_run.specs.KnownBytes.{known_from, record_known}
use Rattle.law_run.specs.Refusals.{IsExpired, NeedsClaim, NamesBlock, NeedsImage, Refuses, not_attached, already_attached, expired, no_slot, no_image, exists, out_of_range, out_of_limits, generations, writes, claims, full}
use Rattle.law_run.specs.Sessions.{needs, is_attached}
use Rattle.plx_base.proofs.Tests.{clash}

-- no fact of a refusal before this place holds
pub record Passed (s : Setting) (log : CommandLog) (n : ℕ) : Type 0 where
  pub sessions : 2 ≤ n → (image : ℕ) → needs log.command image ≡ true → is_attached log.before image ≡ true
  pub unattached : 3 ≤ n → (slot : SlotNo) → log.command ≡ Attach slot → is_attached log.before slot.0 ≡ false
  pub in_time : 4 ≤ n → (one : InUse) (reading : ℕ) → ¬ IsExpired s log one reading
  pub slots : 5 ≤ n → (slot : SlotNo) → log.command ≡ Attach slot → slot.0 < s.geometry.images
  pub images : 5 ≤ n → (image : ℕ) (kept : ImageRecord) → NeedsImage log.command image → record_known s.geometry log image ≡ Some kept → is_live kept ≡ true
  pub free : 6 ≤ n → (slot : SlotNo) (size : ℕ) (label : Label) (kept : ImageRecord) → log.command ≡ Create slot size label →
      record_known s.geometry log slot.0 ≡ Some kept → is_live kept ≡ false
  pub blocks : 7 ≤ n → (image vblock : ℕ) (kept : ImageRecord) → NamesBlock log.command image vblock → record_known s.geometry log image ≡ Some kept → vblock < size_of kept
  pub sizes : 7 ≤ n → (slot : SlotNo) (size : ℕ) (label : Label) → log.command ≡ Create slot size label → is_size size ≡ true
  pub fresh : 10 ≤ n → (slot : SlotNo) (size : ℕ) (label : Label) (kept : ImageRecord) → log.command ≡ Create slot size label →
      record_known s.geometry log slot.0 ≡ Some kept → generation_of kept < last_generation
  pub counted : 10 ≤ n → (slot : SlotNo) (vblock : ℕ) (payload : Payload) (kept : ImageRecord) (count : ℕ) → log.command ≡ Write slot vblock payload →
      record_known s.geometry log slot.0 ≡ Some kept → IsWriteCount s.geometry (known_from s.geometry log slot.0) slot.0 kept count → count < last_write
  pub claimed : 10 ≤ n → (slot : SlotNo) → log.command ≡ Attach slot → NeedsClaim s log slot.0 → claims_begun s.geometry log.before < last_claim
  pub room : 11 ≤ n → (slot : SlotNo) (vblock : ℕ) (payload : Payload) (kept : ImageRecord) (count : ℕ) → log.command ≡ Write slot vblock payload →
      record_known s.geometry log slot.0 ≡ Some kept → IsWriteCount s.geometry (known_from s.geometry log slot.0) slot.0 kept count →
      count ≢ applied_of kept + s.geometry.slots

at-least : (n p : ℕ) → (suc p ≤ n → ⊥) → n ≤ p
at-least n p not_below = elim (leb_tells n p) [ inl le ↦ le.1 | inr above ↦ absurd (not_below (omega (arith, above.1))) ]

-- each refusal whose fact holds has this place or a later one
pub passed-at-most : (s : Setting) (log : CommandLog) (n p : ℕ) (other : Reply) → Passed s log n → Refuses s log p other → n ≤ p
passed-at-most s log n p other h (not_attached image needed missing) = at-least n 1 (λ lt. clash (is_attached log.before image) (h.sessions lt image needed) missing)
passed-at-most s log n p other h (already_attached slot is attached) = at-least n 2 (λ lt. clash (is_attached log.before slot.0) attached (h.unattached lt slot is))
passed-at-most s log n p other h (expired {until = until} {reading = reading} slot is first) = at-least n 3 (λ lt. h.in_time lt (record { lease = image_lease slot.0; until = until }) reading is)
passed-at-most s log n p other h (no_slot slot is past) = at-least n 4 (λ lt. (let below = h.slots lt slot is in omega arith))
passed-at-most s log n p other h (no_image image kept needed found missing) = at-least n 4 (λ lt. clash (is_live kept) (h.images lt image kept needed found) missing)
passed-at-most s log n p other h (exists slot size label kept is found live) = at-least n 5 (λ lt. clash (is_live kept) live (h.free lt slot size label kept is found))
passed-at-most s log n p other h (out_of_range image vblock kept names found size past) = at-least n 6 (λ lt. (let below = h.blocks lt image vblock kept names found in omega arith))
passed-at-most s log n p other h (out_of_limits slot size label is attached wrong) = at-least n 6 (λ lt. clash (is_size size) (h.sizes lt slot size label is) wrong)
passed-at-most s log n p other h (generations slot size label kept is found worn) = at-least n 9 (λ lt. (let below = h.fresh lt slot size label kept is found in omega arith))
passed-at-most s log n p other h (writes slot vblock payload kept count is found counts worn) =
    at-least n 9 (λ lt. (let below = h.counted lt slot vblock payload kept count is found counts in omega arith))
passed-at-most s log n p other h (claims slot is needed worn) = at-least n 9 (λ lt. (let below = h.claimed lt slot is needed in omega arith))
passed-at-most s log n p other h (full slot vblock payload kept count is found counts all) = at-least n 10 (λ lt. h.room lt slot vblock payload kept count is found counts all)

-- no refusal stands past the last place
last-place : (s : Setting) (log : CommandLog) (p : ℕ) (other : Reply) → Refuses s log p other → p ≤ 10
last-place s log p other (not_attached image needed missing) = omega arith
last-place s log p other (already_attached slot is attached) = omega arith
last-place s log p other (expired slot is first) = omega arith
last-place s log p other (no_slot slot is past) = omega arith
last-place s log p other (no_image image kept needed found missing) = omega arith
last-place s log p other (exists slot size label kept is found live) = omega arith
last-place s log p other (out_of_range image vblock kept names found size past) = omega arith
last-place s log p other (out_of_limits slot size label is attached wrong) = omega arith
last-place s log p other (generations slot size label kept is found worn) = omega arith
last-place s log p other (writes slot vblock payload kept count is found counts worn) = omega arith
last-place s log p other (claims slot is needed worn) = omega arith
last-place s log p other (full slot vblock payload kept count is found counts all) = omega arith

-- no fact holds at all
pub passed-all : (s : Setting) (log : CommandLog) → Passed s log 11 → (p : ℕ) (other : Reply) → ¬ Refuses s log p other
passed-all s log h p other refuses =
    let low = passed-at-most s log 11 p other h refuses in let high = last-place s log p other refuses in omega arith
