-- What an attach asks.
use Rattle.std.specs.Prelude.{ℕ, List, [], ◌∷◌, Bool, true, false, Option, Some, None, nat_lt}
use Rattle.plx_commands.specs.Limits.{last_claim}
use Rattle.plx_commands.specs.declared.reply.Reply.TheVariants as reply
use Rattle.plx_gate.specs.declared.image.ImageRecord.{ImageRecord}
use Rattle.plx_geom.specs.Geometry.{image_lease, lease_at, record_at}
use Rattle.plx_rules.specs.Process.{Process}
use Rattle.plx_rules.specs.Claims.{ClaimEnd, ClaimHeld, ClaimBusy, ClaimLost, ClaimReadFault}
use Rattle.plx_rules.specs.Claims.{ClaimWriteFault, ClaimDamaged, claim_process}
use Rattle.plx_rules.specs.Ends.{End, ends, lost_process, read_failed, write_failed, read_then}
use Rattle.plx_rules.specs.Ends.{ends_in_time, damaged_process}
use Rattle.plx_rules.specs.Holds.{Hold, Held}
use Rattle.plx_rules.specs.InUse.{InUse, lease_name}
use Rattle.plx_rules.specs.Loading.{LoadEnd, Loaded, LoadReadFault, LoadDamaged, load_process}
use Rattle.plx_rules.specs.Processes.{followed_by}
use Rattle.plx_rules.specs.Records.{is_live, attached_record}
use Rattle.plx_rules.specs.Session.{Session, Known, with_session, with_claim, session_report}
use Rattle.plx_rules.specs.Settings.{Setting}

-- the lease of an image, held until that moment, is the one in use
abbrev pub image_use : (image until : ℕ) → List InUse
image_use image until = record { lease = image_lease image; until = until } ∷ []

-- the attach ends with a session
abbrev pub attach_ends : Setting → Known → (image until : ℕ) → Session → Process End
attach_ends s known image until session =
    ends_in_time s known (image_use image until)
    (reply.Attached (session_report session)) (with_session known image (Some session))

-- the journal was read
abbrev pub after_load : Setting → Known → (image until : ℕ) → ImageRecord → LoadEnd → Process End
after_load s known image until kept (Loaded writes) =
    attach_ends s known image until (record { image = kept; writes = writes })
after_load s known image until kept (LoadReadFault block) = read_failed block known
after_load s known image until kept (LoadDamaged block) =
    damaged_process s known (image_use image until) block

-- the record is live, and its journal is read; or the slot is free
abbrev pub load_journal : Setting → Known → (image until : ℕ) → ImageRecord → Bool → Process End
load_journal s known image until kept true =
    followed_by (load_process s.geometry image kept s.geometry.slots 0 [])
    (after_load s known image until kept)
load_journal s known image until kept false =
    attach_ends s known image until (record { image = kept; writes = [] })

-- the record was read
abbrev pub after_record : Setting → Known → (image until : ℕ) → Option ImageRecord → Process End
after_record s known image until None =
    damaged_process s known (image_use image until) (record_at s.geometry image)
after_record s known image until (Some kept) = load_journal s known image until kept (is_live kept)

-- the lease is held, and the record is read
abbrev pub load_image : Setting → Known → (image until : ℕ) → Process End
load_image s known image until =
    read_then (record_at s.geometry image) known
    (λ bytes. after_record s known image until (attached_record bytes))

-- the claim of the image's lease ended
abbrev pub after_claim : Setting → Known → (image : ℕ) → ClaimEnd → Process End
after_claim s known image (ClaimHeld claim until) = load_image s known image until
after_claim s known image (ClaimBusy seen) =
    ends (reply.Busy (lease_name s.geometry (image_lease image)) seen) known
after_claim s known image (ClaimLost due reading) = lost_process s known due reading
after_claim s known image ClaimReadFault = read_failed (lease_at (image_lease image)) known
after_claim s known image ClaimWriteFault = write_failed (lease_at (image_lease image)) known
after_claim s known image ClaimDamaged =
    ends (reply.Damaged (record { 0 = lease_at (image_lease image) })) known

-- the lease is claimed, unless the boot has no claim left;
-- a claim counts from here on, whatever becomes of it
abbrev pub claim_image : Bool → Setting → Known → (image : ℕ) → Process End
claim_image false s known image = ends (reply.WornOut last_claim) known
claim_image true s known image =
    followed_by (claim_process s.boot [] (image_lease image) known.claims)
    (after_claim s (with_claim known) image)

-- a lease that is held already isn't claimed again
abbrev pub attach_held : Setting → Known → (image : ℕ) → Hold → Process End
attach_held s known image (Held claim until) = load_image s known image until
attach_held s known image other = claim_image (nat_lt known.claims last_claim) s known image

-- an attach, by the session of its image,
-- whether there is such a slot, and what is held of its lease
abbrev pub attach_process : Setting → Known →
    (image : ℕ) → Option Session → Bool → Hold → Process End
attach_process s known image (Some session) within hold = ends reply.AlreadyAttached known
attach_process s known image None false hold = ends reply.NoImage known
attach_process s known image None true hold = attach_held s known image hold
