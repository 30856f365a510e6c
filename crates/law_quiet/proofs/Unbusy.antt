-- Which commands never end Busy, and when an attach doesn't.
use Rattle.std.proofs.Common.{◌≡◌, ◌⊎◌, inl, inr, ℕ, ◌+◌, ◌≤◌, zero, suc, List, [], ◌∷◌, Bool, true, false, Option, Some, None, refl, sym, subst}
use Rattle.std.specs.Prelude.{nat_lt, nat_le, not, ◌==◌, length}
use Rattle.std.specs.Str.{bytes_eq}
use Rattle.std.proofs.lemmas.Slice.Eq.{bytes_eq-Decides}
use Rattle.plx_base.specs.Canonical.{payload_of}
use Rattle.plx_base.specs.Sectors.{Device, put}
use Rattle.plx_base.specs.declared.lease.Claim.{Claim}
use Rattle.plx_base.specs.declared.lease.LeaseRecord.{LeaseRecord}
use Rattle.plx_base.proofs.Devices.{put-same}
use Rattle.plx_base.specs.declared.numbers.SlotNo.{SlotNo}
use Rattle.plx_commands.specs.Facts.{is_size, is_worn}
use Rattle.plx_commands.specs.Limits.{last_generation, last_write, last_claim, greatest_size}
use Rattle.plx_commands.specs.declared.command.Command.{Command}
use Rattle.plx_commands.specs.declared.command.Command.TheVariants.{Attach, Detach, Create, Delete, Read, Write, Flush, Reserve, Renew, Retire, Reclaim}
use Rattle.plx_commands.specs.declared.reply.Reply.{Reply}
use Rattle.plx_commands.specs.declared.reply.Reply.TheVariants as reply
use Rattle.plx_gate.specs.Leases.{lease_bytes, read_lease}
use Rattle.plx_gate.specs.declared.image.ImageRecord.{ImageRecord}
use Rattle.plx_gate.proofs.Leases.{length-lease}
use Rattle.plx_geom.specs.Geometry.{image_lease, extent_lease, root_lease, lease_at, lease_count, record_at, map_at}
use Rattle.plx_rules.specs.Attaching.{attach_process, attach_held, claim_image, after_claim, load_image, after_record, load_journal, after_load, image_use}
use Rattle.plx_rules.specs.Claims.{ClaimEnd, ClaimHeld, ClaimBusy, ClaimLost, ClaimReadFault, ClaimWriteFault, ClaimDamaged, claim_of, own_record, own_use, reread_by, reread_process, written_process, if_expired, seen_process, claim_process}
use Rattle.plx_rules.specs.Commands.{unless, held_process, attached_process, renewal, renew_process, attached_uses, command_process, create_process, delete_process, read_process, write_process, detach_process, record_process, next_write}
use Rattle.plx_rules.specs.Ends.{End, ends, lost_process, ends_in_time}
use Rattle.plx_rules.specs.Holds.{Hold, Nothing, Seen, Wrote, Waited, Held}
use Rattle.plx_rules.specs.InUse.{InUse, first_reached, unless_reached}
use Rattle.plx_rules.specs.Loading.{LoadEnd, Loaded, LoadReadFault, LoadDamaged, load_process}
use Rattle.plx_rules.specs.Process.{Process, Ends}
use Rattle.plx_rules.specs.Records.{is_live, generation_of, size_of, made_record, attached_record}
use Rattle.plx_rules.specs.Session.{Session, Known, with_claim, with_session, new_session, with_write, write_count, content, session_report}
use Rattle.plx_rules.specs.Settings.{Setting}
use Rattle.plx_rules.specs.Space.{retire_process, retire_extents, retire_extent, retire_images, retire_lease, give_process, give_found, in_extent, read_map, extent_use, release_then}
use Rattle.plx_rules.specs.Times.{drift, is_expired}
use Rattle.law_quiet.proofs.Walks.{Always, TrackedTo, Quietly, always-followed, tracked-followed, always-any}

-- a reply isn't Busy; of a command for space neither Full
abbrev pub IsUnhindered : Reply → (space : Bool) → Type 0
IsUnhindered (reply.Busy lease seen) space = ⊥
IsUnhindered reply.Full true = ⊥
IsUnhindered other space = Unit {0}

abbrev pub Suits : (space : Bool) → End → Type 0
Suits space end = IsUnhindered end.reply space

abbrev NotBusy : Reply → Type 0
NotBusy r = IsUnhindered r false

-- the rest of a command doesn't end Busy, however it is answered
abbrev Fine : Process End → Type 0
Fine process = Always (Suits false) process

pub suits-in-time : (space : Bool) (s : Setting) (known : Known) (reached : Option InUse) (reading : ℕ) (process : Process End) → Always (Suits space) process →
    Always (Suits space) (unless_reached reached (λ due. lost_process s known due reading) process)
suits-in-time space s known None reading process fine = fine
suits-in-time space s known (Some due) reading process fine = tt

pub suits-at-end : (space : Bool) (s : Setting) (known : Known) (uses : List InUse) (r : Reply) (after : Known) → IsUnhindered r space → Always (Suits space) (ends_in_time s known uses r after)
suits-at-end space s known uses r after fine = λ reading. suits-in-time space s known (first_reached uses reading) reading (ends r after) fine

fine-unless : (refused : Bool) (r : Reply) (known : Known) (process : Process End) → NotBusy r → Fine process → Fine (unless refused r known process)
fine-unless true r known process good fine = good
fine-unless false r known process good fine = fine

-- ---- commands of an attached image

fine-held : (s : Setting) (known : Known) (image : ℕ) (hold : Hold) (reading : ℕ) (rest : ℕ → Process End) → ((until : ℕ) → Fine (rest until)) → Fine (held_process s known image hold reading rest)
fine-held s known image Nothing reading rest fine = tt
fine-held s known image (Seen sample) reading rest fine = tt
fine-held s known image (Wrote claim until) reading rest fine = tt
fine-held s known image (Waited claim until) reading rest fine = tt
fine-held s known image (Held claim until) reading rest fine = suits-in-time false s known (first_reached (image_use image until) reading) reading (rest until) (fine until)

fine-attached : (s : Setting) (known : Known) (image : ℕ) (session : Option Session) (within : Bool) (hold : Hold) (reading : ℕ) (rest : Session → ℕ → Process End) →
    ((t : Session) (until : ℕ) → Fine (rest t until)) → Fine (attached_process s known image session within hold reading rest)
fine-attached s known image None within hold reading rest fine = tt
fine-attached s known image (Some t) false hold reading rest fine = tt
fine-attached s known image (Some t) true hold reading rest fine = fine-held s known image hold reading (rest t) (fine t)

fine-record : (s : Setting) (known : Known) (image until : ℕ) (made : ImageRecord) (r : Reply) → NotBusy r → Fine (record_process s known image until made r)
fine-record s known image until made r good = (suits-at-end false s known (image_use image until) r (with_session known image (Some (new_session made))) good, tt, λ reading. tt)

fine-create : (s : Setting) (known : Known) (image size : ℕ) (label : List ℕ) (t : Session) (until : ℕ) → Fine (create_process s known image size label t until)
fine-create s known image size label t until =
    let made = made_record (generation_of t.image + 1) size label in
    let rest = record_process s known image until made reply.Created in
    let worn = unless (is_worn last_generation (generation_of t.image)) (reply.WornOut last_generation) known rest in
    fine-unless (is_live t.image) reply.Exists known (unless (not (is_size size)) (reply.OutOfRange greatest_size) known worn) tt
    (fine-unless (not (is_size size)) (reply.OutOfRange greatest_size) known worn tt
    (fine-unless (is_worn last_generation (generation_of t.image)) (reply.WornOut last_generation) known rest tt (fine-record s known image until made reply.Created tt)))

fine-delete : (s : Setting) (known : Known) (image : ℕ) (t : Session) (until : ℕ) → Fine (delete_process s known image t until)
fine-delete s known image t until = fine-unless (not (is_live t.image)) _ known _ tt (fine-record s known image until _ reply.Deleted tt)

fine-read : (s : Setting) (known : Known) (image vblock : ℕ) (t : Session) (until : ℕ) → Fine (read_process s known image vblock t until)
fine-read s known image vblock t until =
    fine-unless (not (is_live t.image)) reply.NoImage known _ tt
    (fine-unless (nat_le (size_of t.image) vblock) (reply.OutOfRange (size_of t.image)) known _ tt
    (suits-at-end false s known (image_use image until) (reply.Data (payload_of (content t vblock))) known tt))

fine-write : (s : Setting) (known : Known) (image vblock : ℕ) (bytes : List ℕ) (t : Session) (until : ℕ) → Fine (write_process s known image vblock bytes t until)
fine-write s known image vblock bytes t until =
    fine-unless (not (is_live t.image)) _ known _ tt
    (fine-unless (nat_le _ vblock) _ known _ tt
    (fine-unless (is_worn last_write _) _ known _ tt
    (fine-unless (length t.writes == s.geometry.slots) _ known _ tt (
      (
        suits-at-end false s known (image_use image until) (reply.Written (write_count t + 1)) (with_session known image (Some (with_write t (next_write t vblock bytes)))) tt,
        tt,
        λ reading. tt,
      ),
      tt,
      λ reading. tt,
    ))))

-- ---- renew

fine-renewal : (s : Setting) (known : Known) (reading lease : ℕ) (hold : Hold) (rest : Process End) → Fine rest → Fine (renewal s known reading lease hold rest)
fine-renewal s known reading lease Nothing rest fine = fine
fine-renewal s known reading lease (Seen sample) rest fine = fine
fine-renewal s known reading lease (Wrote claim until) rest fine = fine
fine-renewal s known reading lease (Waited claim until) rest fine = fine
fine-renewal s known reading lease (Held claim until) rest fine = (fine, tt, λ reading. tt)

fine-renew : (s : Setting) (known : Known) (holds : ℕ → Hold) (reading left lease : ℕ) → Fine (renew_process s known holds reading left lease)
fine-renew s known holds reading zero lease = tt
fine-renew s known holds reading (suc left) lease = fine-renewal s known reading lease (holds (lease_at lease)) _ (fine-renew s known holds reading left (lease + 1))

-- ---- retire

fine-found : (s : Setting) (known : Known) (uses : List InUse) (extent until : ℕ) (blocks : List ℕ) (found : Option (List Bool)) (rest : Process End) → Fine rest → Fine (give_found s known uses extent until blocks found rest)
fine-found s known uses extent until blocks None rest fine = suits-at-end false s known (extent_use s.geometry extent until ∷ uses) (reply.Damaged (record { 0 = map_at s.geometry extent })) known tt
fine-found s known uses extent until blocks (Some bits) rest fine = (fine, tt, λ reading. tt)

fine-give : (s : Setting) (known : Known) (uses : List InUse) (extent until : ℕ) (blocks : List ℕ) (rest : Process End) → Fine rest → Fine (give_process s known uses extent until blocks rest)
fine-give s known uses extent until [] rest fine = fine
fine-give s known uses extent until (block ∷ blocks) rest fine =
    (λ bytes. fine-found s known uses extent until (block ∷ blocks) (read_map s.geometry.extent_blocks bytes) rest fine, tt)

fine-extent : (s : Setting) (known : Known) (uses : List InUse) (hand : List ℕ) (extent : ℕ) (hold : Hold) (rest : Process End) → Fine rest → Fine (retire_extent s known uses hand extent hold rest)
fine-extent s known uses hand extent Nothing rest fine = fine
fine-extent s known uses hand extent (Seen sample) rest fine = fine
fine-extent s known uses hand extent (Wrote claim until) rest fine = fine
fine-extent s known uses hand extent (Waited claim until) rest fine = fine
fine-extent s known uses hand extent (Held claim until) rest fine =
    fine-give s known uses extent until (in_extent s.geometry extent hand) (release_then s known (extent_use s.geometry extent until) rest) (fine, tt, λ reading. tt)

fine-extents : (s : Setting) (known : Known) (uses : List InUse) (holds : ℕ → Hold) (hand : List ℕ) (left extent : ℕ) (rest : Process End) → Fine rest → Fine (retire_extents s known uses holds hand left extent rest)
fine-extents s known uses holds hand zero extent rest fine = fine
fine-extents s known uses holds hand (suc left) extent rest fine =
    fine-extent s known uses hand extent (holds (lease_at (extent_lease s.geometry extent))) _ (fine-extents s known uses holds hand left (extent + 1) rest fine)

fine-lease : (s : Setting) (known : Known) (lease : ℕ) (session : Option Session) (hold : Hold) (rest : Process End) → Fine rest → Fine (retire_lease s known lease session hold rest)
fine-lease s known lease None Nothing rest fine = fine
fine-lease s known lease None (Seen sample) rest fine = fine
fine-lease s known lease None (Wrote claim until) rest fine = fine
fine-lease s known lease None (Waited claim until) rest fine = fine
fine-lease s known lease None (Held claim until) rest fine = (fine, tt, λ reading. tt)
fine-lease s known lease (Some t) hold rest fine = fine

fine-images : (s : Setting) (known : Known) (holds : ℕ → Hold) (left image : ℕ) (rest : Process End) → Fine rest → Fine (retire_images s known holds left image rest)
fine-images s known holds zero image rest fine = fine
fine-images s known holds (suc left) image rest fine =
    fine-lease s known (image_lease image) (known.sessions image) (holds (lease_at (image_lease image))) _ (fine-images s known holds left (image + 1) rest fine)

fine-retire : (s : Setting) (known : Known) (holds : ℕ → Hold) (hand : List ℕ) → Fine (retire_process s known holds hand)
fine-retire s known holds hand =
    fine-extents s known [] holds hand s.geometry.extents 0 _
    (fine-images s known holds s.geometry.images 0 _ (fine-lease s known root_lease None (holds (lease_at root_lease)) (ends reply.Retired known) tt))

-- ---- attach

fine-loaded : (s : Setting) (known : Known) (image until : ℕ) (kept : ImageRecord) (end : LoadEnd) → Fine (after_load s known image until kept end)
fine-loaded s known image until kept (Loaded writes) = suits-at-end false s known (image_use image until) (reply.Attached (session_report (record { image = kept; writes = writes }))) (with_session known image (Some (record { image = kept; writes = writes }))) tt
fine-loaded s known image until kept (LoadReadFault block) = tt
fine-loaded s known image until kept (LoadDamaged block) = suits-at-end false s known (image_use image until) (reply.Damaged (record { 0 = block })) known tt

fine-journal : (s : Setting) (known : Known) (image until : ℕ) (kept : ImageRecord) (live : Bool) → Fine (load_journal s known image until kept live)
fine-journal s known image until kept true =
    always-followed (λ end. Unit {0}) (Suits false) (load_process s.geometry image kept s.geometry.slots 0 []) (after_load s known image until kept)
    (always-any (load_process s.geometry image kept s.geometry.slots 0 [])) (λ end any. fine-loaded s known image until kept end)
fine-journal s known image until kept false =
    suits-at-end false s known (image_use image until) (reply.Attached (session_report (record { image = kept; writes = [] }))) (with_session known image (Some (record { image = kept; writes = [] }))) tt

fine-image : (s : Setting) (known : Known) (image until : ℕ) → Fine (load_image s known image until)
fine-image s known image until = (λ bytes. by-record (attached_record bytes), tt)
  where
    by-record : (found : Option ImageRecord) → Fine (after_record s known image until found)
    by-record None = suits-at-end false s known (image_use image until) (reply.Damaged (record { 0 = record_at s.geometry image })) known tt
    by-record (Some kept) = fine-journal s known image until kept (is_live kept)

-- a claim ends otherwise than by holding its lease or by meeting another claim
abbrev pub IsGone : ClaimEnd → Type 0
IsGone (ClaimHeld claim until) = ⊥
IsGone (ClaimBusy seen) = ⊥
IsGone other = Unit {0}

-- or it holds the lease, and only the block of that has changed
abbrev pub IsHeldOn : Device → (lease : ℕ) → ClaimEnd → Device → Type 0
IsHeldOn device lease (ClaimHeld claim until) now = (bytes : List ℕ) × (length bytes ≡ 4096) × (now ≡ put device (lease_at lease) bytes)
IsHeldOn device lease (ClaimBusy seen) now = ⊥
IsHeldOn device lease other now = Unit {0}

fine-gone : (s : Setting) (known : Known) (image : ℕ) (end : ClaimEnd) → IsGone end → Fine (after_claim s known image end)
fine-gone s known image (ClaimHeld claim until) gone = absurd gone
fine-gone s known image (ClaimBusy seen) gone = absurd gone
fine-gone s known image (ClaimLost due reading) gone = tt
fine-gone s known image ClaimReadFault gone = tt
fine-gone s known image ClaimWriteFault gone = tt
fine-gone s known image ClaimDamaged gone = tt

fine-claimed : (low : ℕ) (s : Setting) (known : Known) (image : ℕ) (device : Device) (lease : ℕ) (end : ClaimEnd) (now : Device) → IsHeldOn device lease end now →
    Quietly (Suits false) low now (after_claim s known image end)
fine-claimed low s known image device lease (ClaimHeld claim until) now held = inl (fine-image s known image until)
fine-claimed low s known image device lease (ClaimBusy seen) now held = absurd held
fine-claimed low s known image device lease (ClaimLost due reading) now held = inl tt
fine-claimed low s known image device lease ClaimReadFault now held = inl tt
fine-claimed low s known image device lease ClaimWriteFault now held = inl tt
fine-claimed low s known image device lease ClaimDamaged now held = inl tt

-- a rest of a claim holds its lease where nothing disturbs it
abbrev pub Gets : (low : ℕ) (start : Device) (lease : ℕ) → Device → Process ClaimEnd → Type 0
Gets low start lease device process = Always IsGone process ⊎ TrackedTo IsGone (IsHeldOn start lease) low device process

gets-in-time : (low : ℕ) (start : Device) (lease : ℕ) (device : Device) (reached : Option InUse) (reading : ℕ) (rest : Process ClaimEnd) → Gets low start lease device rest →
    Gets low start lease device (unless_reached reached (λ due. Ends (ClaimLost due reading)) rest)
gets-in-time low start lease device None reading rest gets = gets
gets-in-time low start lease device (Some due) reading rest gets = inl tt

-- the claim of a lease that is free or expired
pub claim-gets : (boot : ℕ) (others : List InUse) (lease number low : ℕ) (device : Device) (seen : LeaseRecord) → read_lease (device (lease_at lease)) ≡ Some seen →
    ((reading : ℕ) → low ≤ reading + drift → is_expired seen reading ≡ true) → Gets low device lease device (claim_process boot others lease number)
claim-gets boot others lease number low device seen sees expired =
    inr (λ sample early. gets-in-time low device lease device (first_reached others sample) sample _ (inr (read sample early, tt)))
  where
    again : (claim : Claim) (uses : List InUse) → Gets low device lease (put device (lease_at lease) (lease_bytes (own_record claim))) (reread_process uses lease claim)
    again claim uses =
        let own = lease_bytes (own_record claim) in
        let after = put device (lease_at lease) own in
        let f : List ℕ → Process ClaimEnd = λ bytes. reread_by (bytes_eq bytes own) uses claim (read_lease bytes) in
        inr (
          subst (λ bytes. Gets low device lease after (f bytes)) (sym (put-same device (lease_at lease) own))
              (subst (λ b. Gets low device lease after (reread_by b uses claim (read_lease own))) (sym ((bytes_eq-Decides own own).1 refl)) (inr (own, length-lease (own_record claim), refl))),
          tt,
        )

    written : (claim : Claim) → Gets low device lease device (written_process others lease claim)
    written claim =
        let own = lease_bytes (own_record claim) in
        inr (
          length-lease (own_record claim),
          inr (λ reading past early. gets-in-time low device lease (put device (lease_at lease) own) (first_reached (own_use lease claim ∷ others) reading) reading
              (reread_process (own_use lease claim ∷ others) lease claim) (again claim (own_use lease claim ∷ others))),
          tt,
          λ reading. tt,
        )

    read : (sample : ℕ) → low ≤ sample + drift → Gets low device lease device (seen_process others lease (claim_of boot number sample) (read_lease (device (lease_at lease))))
    read sample early =
        subst (λ o. Gets low device lease device (seen_process others lease (claim_of boot number sample) o)) (sym sees)
        (subst (λ b. Gets low device lease device (if_expired b seen (written_process others lease (claim_of boot number sample)))) (sym (expired sample early)) (written (claim_of boot number sample)))

-- ---- all commands

abbrev Unbusy : (low : ℕ) → Device → Process End → Type 0
Unbusy low device process = Quietly (Suits false) low device process

-- the lease that is claimed is free or expired as it stands on a device, or it is held
abbrev pub IsReady : (low : ℕ) → Device → (lease : ℕ) → Hold → Type 0
IsReady low device lease hold =
    ((seen : LeaseRecord) × (read_lease (device (lease_at lease)) ≡ Some seen) × ((reading : ℕ) → low ≤ reading + drift → is_expired seen reading ≡ true))
    ⊎ ((claim : Claim) × (until : ℕ) × (hold ≡ Held claim until))

claims-image : (low : ℕ) (device : Device) (s : Setting) (known : Known) (image : ℕ) (left : Bool) (seen : LeaseRecord) → read_lease (device (lease_at (image_lease image))) ≡ Some seen →
    ((reading : ℕ) → low ≤ reading + drift → is_expired seen reading ≡ true) → Unbusy low device (claim_image left s known image)
claims-image low device s known image false seen sees expired = inl tt
claims-image low device s known image true seen sees expired =
    tracked-followed IsGone (IsHeldOn device (image_lease image)) (Suits false) low (after_claim s (with_claim known) image) (λ end gone. fine-gone s (with_claim known) image end gone)
    (λ end now held. fine-claimed low s (with_claim known) image device (image_lease image) end now held) device (claim_process s.boot [] (image_lease image) known.claims)
    (claim-gets s.boot [] (image_lease image) known.claims low device seen sees expired)

held-already : (hold : Hold) (claim : Claim) (until : ℕ) → hold ≡ Held claim until → (low : ℕ) (device : Device) (s : Setting) (known : Known) (image : ℕ) → Unbusy low device (attach_held s known image hold)
held-already hold claim until is low device s known image =
    subst (λ h. Unbusy low device (attach_held s known image h)) (sym is) (inl (fine-image s known image until))

attaches : (low : ℕ) (device : Device) (s : Setting) (known : Known) (image : ℕ) (hold : Hold) → IsReady low device (image_lease image) hold → Unbusy low device (attach_held s known image hold)
attaches low device s known image hold (inr held) = held-already hold held.0 held.1 held.2 low device s known image
attaches low device s known image Nothing (inl clear) = claims-image low device s known image (nat_lt known.claims last_claim) clear.0 clear.1 clear.2
attaches low device s known image (Seen sample) (inl clear) = claims-image low device s known image (nat_lt known.claims last_claim) clear.0 clear.1 clear.2
attaches low device s known image (Wrote claim until) (inl clear) = claims-image low device s known image (nat_lt known.claims last_claim) clear.0 clear.1 clear.2
attaches low device s known image (Waited claim until) (inl clear) = claims-image low device s known image (nat_lt known.claims last_claim) clear.0 clear.1 clear.2
attaches low device s known image (Held claim until) (inl clear) = inl (fine-image s known image until)

by-slot : (low : ℕ) (device : Device) (s : Setting) (known : Known) (image : ℕ) (session : Option Session) (within : Bool) (hold : Hold) → IsReady low device (image_lease image) hold →
    Unbusy low device (attach_process s known image session within hold)
by-slot low device s known image (Some t) within hold ready = inl tt
by-slot low device s known image None false hold ready = inl tt
by-slot low device s known image None true hold ready = attaches low device s known image hold ready

pub fine-attach : (low : ℕ) (device : Device) (s : Setting) (known : Known) (holds : ℕ → Hold) (hand : List ℕ) (reading : ℕ) (slot : SlotNo) →
    IsReady low device (image_lease slot.0) (holds (lease_at (image_lease slot.0))) → Unbusy low device (command_process s known holds hand reading (Attach slot))
fine-attach low device s known holds hand reading slot ready =
    by-slot low device s known slot.0 (known.sessions slot.0) (nat_lt slot.0 s.geometry.images) (holds (lease_at (image_lease slot.0))) ready

-- whether a command is for space
abbrev pub is_reserve : Command → Bool
is_reserve (Attach slot) = false
is_reserve (Detach slot) = false
is_reserve (Create slot size label) = false
is_reserve (Delete slot) = false
is_reserve (Read slot vblock) = false
is_reserve (Write slot vblock payload) = false
is_reserve (Flush slot) = false
is_reserve (Reserve count) = true
is_reserve Renew = false
is_reserve Retire = false
is_reserve Reclaim = false

-- a command that claims no lease
abbrev pub IsWithoutClaims : Command → Type 0
IsWithoutClaims (Attach slot) = ⊥
IsWithoutClaims (Reserve count) = ⊥
IsWithoutClaims other = Unit {0}

pub fine-command : (s : Setting) (known : Known) (holds : ℕ → Hold) (hand : List ℕ) (reading : ℕ) (command : Command) → IsWithoutClaims command → Always (Suits false) (command_process s known holds hand reading command)
fine-command s known holds hand reading (Attach slot) none = absurd none
fine-command s known holds hand reading (Reserve count) none = absurd none
fine-command s known holds hand reading (Detach slot) none =
    (fine-attached s known slot.0 (known.sessions slot.0) (nat_lt slot.0 s.geometry.images) (holds (lease_at (image_lease slot.0))) reading (detach_process s known slot.0)
    (λ t until. (tt, tt, λ reading'. tt)))
fine-command s known holds hand reading (Create slot size label) none =
    (fine-attached s known slot.0 (known.sessions slot.0) (nat_lt slot.0 s.geometry.images) (holds (lease_at (image_lease slot.0))) reading (create_process s known slot.0 size label)
    (λ t until. fine-create s known slot.0 size label t until))
fine-command s known holds hand reading (Delete slot) none =
    (fine-attached s known slot.0 (known.sessions slot.0) (nat_lt slot.0 s.geometry.images) (holds (lease_at (image_lease slot.0))) reading (delete_process s known slot.0)
    (λ t until. fine-delete s known slot.0 t until))
fine-command s known holds hand reading (Read slot vblock) none =
    (fine-attached s known slot.0 (known.sessions slot.0) (nat_lt slot.0 s.geometry.images) (holds (lease_at (image_lease slot.0))) reading (read_process s known slot.0 vblock)
    (λ t until. fine-read s known slot.0 vblock t until))
fine-command s known holds hand reading (Write slot vblock payload) none =
    (fine-attached s known slot.0 (known.sessions slot.0) (nat_lt slot.0 s.geometry.images) (holds (lease_at (image_lease slot.0))) reading _
    (λ t until. fine-write s known slot.0 vblock _ t until))
fine-command s known holds hand reading (Flush slot) none = tt
fine-command s known holds hand reading Renew none =
    (suits-in-time false s known (first_reached (attached_uses known holds s.geometry.images 0) reading) reading _ (fine-renew s known holds reading (lease_count s.geometry) 0))
fine-command s known holds hand reading Retire none = (fine-retire s known holds hand)
fine-command s known holds hand reading Reclaim none = tt
