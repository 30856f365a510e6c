-- Each map that any command writes is written over what was read there directly before.
use Rattle.std.proofs.Common.{◌≡◌, ℕ, zero, suc, ◌+◌, ◌-◌, ◌≤◌, List, [], ◌∷◌, Bool, true, false, Option, Some, None, refl, length, take}
use Rattle.std.specs.Prelude.{if◌then◌else◌, nat_le, nat_lt, ◌==◌, not}
use Rattle.std.specs.Str.{bytes_eq}
use Rattle.plx_base.specs.Payload.{bytes_of}
use Rattle.plx_base.specs.declared.lease.Claim.{Claim}
use Rattle.plx_base.specs.declared.lease.LeaseRecord.{LeaseRecord}
use Rattle.plx_commands.specs.Facts.{is_size, is_worn}
use Rattle.plx_commands.specs.Limits.{last_claim, last_generation, last_write, greatest_size}
use Rattle.plx_commands.specs.declared.command.Command.{Command}
use Rattle.plx_commands.specs.declared.command.Command.TheVariants.{Attach, Detach, Create, Delete, Read, Write, Flush, Reserve, Renew, Retire, Reclaim}
use Rattle.plx_commands.specs.declared.reply.Reply.{Reply}
use Rattle.plx_commands.specs.declared.reply.Reply.TheVariants as reply
use Rattle.plx_gate.specs.Leases.{read_lease, lease_bytes}
use Rattle.plx_gate.specs.declared.image.ImageRecord.{ImageRecord}
use Rattle.plx_gate.specs.declared.image.ImageRecord.TheVariants as image_is
use Rattle.plx_geom.specs.Geometry.{Geometry, IsGeometry, data_at, descriptor_at, lease_count, root_lease, image_lease, extent_lease, lease_at, map_at}
use Rattle.plx_rules.specs.Process.{Process, Ends, ReadThen, WriteThen, ClockThen, UntilThen}
use Rattle.plx_rules.specs.Journaled.{Journaled}
use Rattle.plx_rules.specs.Attaching.{image_use, after_load, load_journal, after_record, load_image, after_claim, claim_image, attach_held, attach_process}
use Rattle.plx_rules.specs.Claims.{ClaimEnd, ClaimHeld, ClaimBusy, ClaimLost, ClaimReadFault, ClaimWriteFault, ClaimDamaged, claim_of, own_record, own_use, claim_in_time, claim_damaged, reread_by, reread_process, written_process, if_expired, seen_process, claim_process}
use Rattle.plx_rules.specs.Commands.{unless, attached_process, detach_process, record_process, create_process, delete_process, read_process, write_process, journal_process, next_write, renewal, renew_process, attached_uses, command_process}
use Rattle.plx_rules.specs.Ends.{End, ends, lost_process, in_time, ends_in_time}
use Rattle.plx_rules.specs.Holds.{Hold, Nothing, Seen, Wrote, Waited, Held}
use Rattle.plx_rules.specs.InUse.{InUse, first_reached, unless_reached}
use Rattle.plx_rules.specs.Journal.{Finding, Outside, Unused, Counts, finding}
use Rattle.plx_rules.specs.Loading.{LoadEnd, Loaded, LoadReadFault, LoadDamaged, load_found, load_process}
use Rattle.plx_rules.specs.Processes.{followed_by}
use Rattle.plx_rules.specs.Records.{is_live, generation_of, size_of, made_record, attached_record}
use Rattle.plx_rules.specs.Session.{Session, Known, with_claim, with_session, new_session, with_write, write_count, with_write_by_number}
use Rattle.plx_rules.specs.Settings.{Setting}
use Rattle.plx_rules.specs.Space.{Taking, with_claim_begun, with_claimed, with_taken, with_busy, first_taking, extent_use, if_needed, set_process, take_found, take_here, take_if_held, take_held, after_extent_claim, claim_extent, claim_if_free, other_found, take_if_other, take_others, shortage_process, taken_process, reserve_process, release_then, in_extent, give_found, give_process, retire_extent, retire_extents, retire_lease, retire_images, retire_process, read_map, free_from}
use Rattle.plx_rules.specs.Times.{is_expired}
use Rattle.law_space.proofs.Marks.{Careful, give-had, take-keeps}

-- what was read by the last ask
abbrev Found : Type 0
Found = Option (ℕ × List ℕ)

-- one process and then another
careful-followed : {E F : Type 0} (process : Process E) (next : E → Process F) (found : Found) → Careful found process → ((end : E) (last : Found) → Careful last (next end)) →
    Careful found (followed_by process next)
careful-followed (Ends end) next found careful after = after end found
careful-followed (ReadThen block rest fault) next found careful after = (λ bytes. careful-followed (rest bytes) next _ (careful.0 bytes) after, careful-followed fault next _ careful.1 after)
careful-followed (WriteThen kind block bytes guard done fault missed) next found careful after = (
  careful.0,
  careful-followed done next _ careful.1 after,
  careful-followed fault next _ careful.2 after,
  λ reading. careful-followed (missed reading) next _ (careful.3 reading) after,
)
careful-followed (ClockThen rest) next found careful after = λ reading. careful-followed (rest reading) next _ (careful reading) after
careful-followed (UntilThen from rest) next found careful after = λ reading. careful-followed (rest reading) next _ (careful reading) after

-- ---- a claim

claim-in_time : (uses : List InUse) (reading : ℕ) (rest : Process ClaimEnd) (found : Found) → Careful found rest → Careful found (claim_in_time uses reading rest)
claim-in_time uses reading rest found careful = by_found (first_reached uses reading)
  where
    by_found : (due : Option InUse) → Careful found (unless_reached due (λ due. Ends (ClaimLost due reading)) rest)
    by_found None = careful
    by_found (Some due) = tt

careful-damaged : (uses : List InUse) (found : Found) → Careful found (claim_damaged uses)
careful-damaged uses found = λ reading. claim-in_time uses reading (Ends ClaimDamaged) _ tt

careful-reread : (own : Bool) (uses : List InUse) (claim : Claim) (seen : Option LeaseRecord) (found : Found) → Careful found (reread_by own uses claim seen)
careful-reread true uses claim seen found = tt
careful-reread false uses claim None found = careful-damaged uses found
careful-reread false uses claim (Some seen) found = tt

careful-written : (others : List InUse) (lease : ℕ) (claim : Claim) (found : Found) → Careful found (written_process others lease claim)
careful-written others lease claim found = (
  tt,
  λ reading. claim-in_time (own_use lease claim ∷ others) reading (reread_process (own_use lease claim ∷ others) lease claim) _ (
    λ bytes. careful-reread (bytes_eq bytes (lease_bytes (own_record claim))) (own_use lease claim ∷ others) claim (read_lease bytes) _,
    tt,
  ),
  tt,
  λ reading. tt,
)

careful-seen : (others : List InUse) (lease : ℕ) (claim : Claim) (seen : Option LeaseRecord) (found : Found) → Careful found (seen_process others lease claim seen)
careful-seen others lease claim None found = careful-damaged others found
careful-seen others lease claim (Some seen) found = by_test (is_expired seen claim.sample)
  where
    by_test : (a : Bool) → Careful found (if_expired a seen (written_process others lease claim))
    by_test false = tt
    by_test true = careful-written others lease claim found

careful-claim : (boot : ℕ) (others : List InUse) (lease number : ℕ) (found : Found) → Careful found (claim_process boot others lease number)
careful-claim boot others lease number found = λ sample. claim-in_time others sample _ _ (λ bytes. careful-seen others lease (claim_of boot number sample) (read_lease bytes) _, tt)

-- ---- the reading of a journal

careful-load : (g : Geometry) (image : ℕ) (kept : ImageRecord) (left slot : ℕ) (writes : List Journaled) (found : Found) → Careful found (load_process g image kept left slot writes)
careful-load g image kept zero slot writes found = tt
careful-load g image kept (suc left) slot writes found = (
  λ bytes. by_found (finding kept g.slots slot bytes) _ (λ w f. careful-load g image kept left (slot + 1) w f),
  tt,
)
  where
    by_found : (seen : Finding) (f : Found) → ((w : List Journaled) (f' : Found) → Careful f' (load_process g image kept left (slot + 1) w)) →
        Careful f (load_found (descriptor_at g image slot) seen (load_process g image kept left (slot + 1) writes)
        (λ number vblock. ReadThen (data_at g image slot) (λ data'. load_process g image kept left (slot + 1) (with_write_by_number (record { number = number; vblock = vblock; block = data' }) writes)) (Ends (LoadReadFault (data_at g image slot)))))
    by_found Outside f rest = tt
    by_found Unused f rest = rest writes f
    by_found (Counts d) f rest = (λ data'. rest _ _, tt)

module _ (s : Setting) where
  -- ---- tests and last readings

  careful-in_time : (known : Known) (uses : List InUse) (reading : ℕ) (process : Process End) (found : Found) → Careful found process → Careful found (in_time s known uses reading process)
  careful-in_time known uses reading process found careful = by_found (first_reached uses reading)
    where
      by_found : (due : Option InUse) → Careful found (unless_reached due (λ due. lost_process s known due reading) process)
      by_found None = careful
      by_found (Some due) = tt

  careful-ends : (known : Known) (uses : List InUse) (reply : Reply) (after : Known) (found : Found) → Careful found (ends_in_time s known uses reply after)
  careful-ends known uses reply after found = λ reading. careful-in_time known uses reading (ends reply after) _ tt

  careful-unless : (refused : Bool) (refusal : Reply) (known : Known) (process : Process End) (found : Found) → Careful found process → Careful found (unless refused refusal known process)
  careful-unless true refusal known process found careful = tt
  careful-unless false refusal known process found careful = careful

  -- ---- attach

  careful-loaded : (known : Known) (image until : ℕ) (kept : ImageRecord) (end : LoadEnd) (found : Found) → Careful found (after_load s known image until kept end)
  careful-loaded known image until kept (Loaded writes) found = careful-ends known (image_use image until) _ _ found
  careful-loaded known image until kept (LoadReadFault block) found = tt
  careful-loaded known image until kept (LoadDamaged block) found = careful-ends known (image_use image until) _ _ found

  careful-journal : (known : Known) (image until : ℕ) (kept : ImageRecord) (live : Bool) (found : Found) → Careful found (load_journal s known image until kept live)
  careful-journal known image until kept true found =
      careful-followed (load_process s.geometry image kept s.geometry.slots 0 []) (after_load s known image until kept) found
      (careful-load s.geometry image kept s.geometry.slots 0 [] found) (λ end last. careful-loaded known image until kept end last)
  careful-journal known image until kept false found = careful-ends known (image_use image until) _ _ found

  careful-record : (known : Known) (image until : ℕ) (seen : Option ImageRecord) (found : Found) → Careful found (after_record s known image until seen)
  careful-record known image until None found = careful-ends known (image_use image until) _ _ found
  careful-record known image until (Some kept) found = careful-journal known image until kept (is_live kept) found

  careful-image : (known : Known) (image until : ℕ) (found : Found) → Careful found (load_image s known image until)
  careful-image known image until found = (λ bytes. careful-record known image until (attached_record bytes) _, tt)

  careful-claimed : (known : Known) (image : ℕ) (end : ClaimEnd) (found : Found) → Careful found (after_claim s known image end)
  careful-claimed known image (ClaimHeld claim until) found = careful-image known image until found
  careful-claimed known image (ClaimBusy seen) found = tt
  careful-claimed known image (ClaimLost due reading) found = tt
  careful-claimed known image ClaimReadFault found = tt
  careful-claimed known image ClaimWriteFault found = tt
  careful-claimed known image ClaimDamaged found = tt

  careful-claim_image : (enough : Bool) (known : Known) (image : ℕ) (found : Found) → Careful found (claim_image enough s known image)
  careful-claim_image false known image found = tt
  careful-claim_image true known image found =
      careful-followed (claim_process s.boot [] (image_lease image) known.claims) (after_claim s (with_claim known) image) found
      (careful-claim s.boot [] (image_lease image) known.claims found) (λ end last. careful-claimed (with_claim known) image end last)

  careful-held : (known : Known) (image : ℕ) (hold : Hold) (found : Found) → Careful found (attach_held s known image hold)
  careful-held known image (Held claim until) found = careful-image known image until found
  careful-held known image Nothing found = careful-claim_image (nat_lt known.claims last_claim) known image found
  careful-held known image (Seen l) found = careful-claim_image (nat_lt known.claims last_claim) known image found
  careful-held known image (Wrote claim until) found = careful-claim_image (nat_lt known.claims last_claim) known image found
  careful-held known image (Waited claim until) found = careful-claim_image (nat_lt known.claims last_claim) known image found

  careful-attach : (known : Known) (image : ℕ) (session : Option Session) (within : Bool) (hold : Hold) (found : Found) → Careful found (attach_process s known image session within hold)
  careful-attach known image (Some session) within hold found = tt
  careful-attach known image None false hold found = tt
  careful-attach known image None true hold found = careful-held known image hold found

  -- ---- commands of an attached image

  careful-attached : (known : Known) (image reading : ℕ) (session : Option Session) (within : Bool) (hold : Hold) (rest : Session → ℕ → Process End) (found : Found) →
      ((session : Session) (until : ℕ) → Careful found (rest session until)) → Careful found (attached_process s known image session within hold reading rest)
  careful-attached known image reading None within hold rest found careful = tt
  careful-attached known image reading (Some session) false hold rest found careful = tt
  careful-attached known image reading (Some session) true (Held claim until) rest found careful =
      careful-in_time known (image_use image until) reading (rest session until) found (careful session until)
  careful-attached known image reading (Some session) true Nothing rest found careful = tt
  careful-attached known image reading (Some session) true (Seen l) rest found careful = tt
  careful-attached known image reading (Some session) true (Wrote claim until) rest found careful = tt
  careful-attached known image reading (Some session) true (Waited claim until) rest found careful = tt

  careful-made : (known : Known) (image until : ℕ) (made : ImageRecord) (done : Reply) (found : Found) → Careful found (record_process s known image until made done)
  careful-made known image until made done found = (tt, careful-ends known (image_use image until) done (with_session known image (Some (new_session made))) None, tt, λ reading. tt)

  careful-create : (known : Known) (image size : ℕ) (label : List ℕ) (session : Session) (until : ℕ) (found : Found) → Careful found (create_process s known image size label session until)
  careful-create known image size label session until found =
      careful-unless (is_live session.image) reply.Exists known _ found
      (careful-unless (not (is_size size)) (reply.OutOfRange greatest_size) known _ found
      (careful-unless (is_worn last_generation (generation_of session.image)) (reply.WornOut last_generation) known _ found
      (careful-made known image until (made_record (generation_of session.image + 1) size label) reply.Created found)))

  careful-delete : (known : Known) (image : ℕ) (session : Session) (until : ℕ) (found : Found) → Careful found (delete_process s known image session until)
  careful-delete known image session until found =
      careful-unless (not (is_live session.image)) reply.NoImage known _ found
      (careful-made known image until (image_is.Free (generation_of session.image)) reply.Deleted found)

  careful-read : (known : Known) (image vblock : ℕ) (session : Session) (until : ℕ) (found : Found) → Careful found (read_process s known image vblock session until)
  careful-read known image vblock session until found =
      careful-unless (not (is_live session.image)) reply.NoImage known _ found
      (careful-unless (nat_le (size_of session.image) vblock) (reply.OutOfRange (size_of session.image)) known _ found
      (careful-ends known (image_use image until) _ _ found))

  careful-journaled : (known : Known) (image vblock : ℕ) (bytes : List ℕ) (session : Session) (until : ℕ) (found : Found) → Careful found (journal_process s known image vblock bytes session until)
  careful-journaled known image vblock bytes session until found = (
    tt,
    (tt, careful-ends known (image_use image until) (reply.Written (write_count session + 1)) (with_session known image (Some (with_write session (next_write session vblock bytes)))) None, tt, λ reading. tt),
    tt,
    λ reading. tt,
  )

  careful-write : (known : Known) (image vblock : ℕ) (bytes : List ℕ) (session : Session) (until : ℕ) (found : Found) → Careful found (write_process s known image vblock bytes session until)
  careful-write known image vblock bytes session until found =
      careful-unless (not (is_live session.image)) reply.NoImage known _ found
      (careful-unless (nat_le (size_of session.image) vblock) (reply.OutOfRange (size_of session.image)) known _ found
      (careful-unless (is_worn last_write (write_count session)) (reply.WornOut last_write) known _ found
      (careful-unless (length session.writes == s.geometry.slots) reply.Full known _ found
      (careful-journaled known image vblock bytes session until found))))

  -- ---- renew

  careful-renewal : (known : Known) (reading lease : ℕ) (hold : Hold) (rest : Process End) (found : Found) → ((last : Found) → Careful last rest) → Careful found (renewal s known reading lease hold rest)
  careful-renewal known reading lease (Held claim until) rest found careful = (tt, careful None, tt, λ reading. tt)
  careful-renewal known reading lease Nothing rest found careful = careful found
  careful-renewal known reading lease (Seen l) rest found careful = careful found
  careful-renewal known reading lease (Wrote claim until) rest found careful = careful found
  careful-renewal known reading lease (Waited claim until) rest found careful = careful found

  careful-renew : (known : Known) (holds : ℕ → Hold) (reading left lease : ℕ) (found : Found) → Careful found (renew_process s known holds reading left lease)
  careful-renew known holds reading zero lease found = tt
  careful-renew known holds reading (suc left) lease found =
      careful-renewal known reading lease (holds (lease_at lease)) _ found (λ last. careful-renew known holds reading left (lease + 1) last)

  -- ---- a take

  -- a take goes on carefully whatever it has so far
  abbrev GoesCarefully : (Taking → Process End) → Type 0
  GoesCarefully rest = (t : Taking) (found : Found) → Careful found (rest t)

  careful-needed : (count : ℕ) (here rest : Taking → Process End) → GoesCarefully here → GoesCarefully rest → GoesCarefully (if_needed count here rest)
  careful-needed count here rest one other t found = by_test (nat_le count (length t.hand))
    where
      by_test : (a : Bool) → Careful found (if a then rest t else here t)
      by_test true = other t found
      by_test false = one t found

  module _ (most : s.geometry.extent_blocks ≤ 32768) where
    careful-set : (extent until : ℕ) (bytes : List ℕ) (bits : List Bool) (blocks : List ℕ) (rest : Taking → Process End) (t : Taking) → read_map s.geometry.extent_blocks bytes ≡ Some bits →
        GoesCarefully rest → Careful (Some (map_at s.geometry extent, bytes)) (set_process s extent until bits blocks rest t)
    careful-set extent until bytes bits [] rest t is careful = careful t _
    careful-set extent until bytes bits (block ∷ blocks) rest t is careful = (
      (bytes, refl, take-keeps s.geometry.extent_blocks bytes bits (block ∷ blocks) (map_at s.geometry extent) most is),
      careful (with_taken t (block ∷ blocks)) None,
      tt,
      λ reading. tt,
    )

    careful-here : (count extent until : ℕ) (rest : Taking → Process End) → GoesCarefully rest → GoesCarefully (take_here s count extent until rest)
    careful-here count extent until rest careful t found = (λ bytes. by_map bytes (read_map s.geometry.extent_blocks bytes) refl, tt)
      where
        by_map : (bytes : List ℕ) (seen : Option (List Bool)) → read_map s.geometry.extent_blocks bytes ≡ seen →
            Careful (Some (map_at s.geometry extent, bytes)) (take_found s count extent until seen rest t)
        by_map bytes None is = careful-ends t.known (extent_use s.geometry extent until ∷ t.uses) (reply.Damaged (record { 0 = map_at s.geometry extent })) t.known (Some (map_at s.geometry extent, bytes))
        by_map bytes (Some bits) is = careful-set extent until bytes bits (take (count - length t.hand) (free_from t.hand (map_at s.geometry extent) bits)) rest t is careful

    careful-if_held : (count extent : ℕ) (hold : Hold) (rest : Taking → Process End) → GoesCarefully rest → GoesCarefully (take_if_held s count extent hold rest)
    careful-if_held count extent (Held claim until) rest careful = careful-here count extent until rest careful
    careful-if_held count extent Nothing rest careful = careful
    careful-if_held count extent (Seen l) rest careful = careful
    careful-if_held count extent (Wrote claim until) rest careful = careful
    careful-if_held count extent (Waited claim until) rest careful = careful

    careful-take_held : (count : ℕ) (holds : ℕ → Hold) (left extent : ℕ) (rest : Taking → Process End) → GoesCarefully rest → GoesCarefully (take_held s count holds left extent rest)
    careful-take_held count holds zero extent rest careful = careful
    careful-take_held count holds (suc left) extent rest careful =
        let next = careful-take_held count holds left (extent + 1) rest careful in
        careful-needed count _ _ (careful-if_held count extent (holds (lease_at (extent_lease s.geometry extent))) _ next) next

    careful-after_claim : (count extent : ℕ) (rest : Taking → Process End) (t : Taking) (end : ClaimEnd) (found : Found) → GoesCarefully rest → Careful found (after_extent_claim s count extent rest t end)
    careful-after_claim count extent rest t (ClaimHeld claim until) found careful = careful-here count extent until rest careful (with_claimed t (extent_use s.geometry extent until)) found
    careful-after_claim count extent rest t (ClaimBusy seen) found careful = careful (with_busy t (extent_lease s.geometry extent) seen) found
    careful-after_claim count extent rest t (ClaimLost due reading) found careful = tt
    careful-after_claim count extent rest t ClaimReadFault found careful = tt
    careful-after_claim count extent rest t ClaimWriteFault found careful = tt
    careful-after_claim count extent rest t ClaimDamaged found careful = tt

    careful-claim_extent : (enough : Bool) (count extent : ℕ) (rest : Taking → Process End) → GoesCarefully rest → GoesCarefully (claim_extent enough s count extent rest)
    careful-claim_extent false count extent rest careful t found = tt
    careful-claim_extent true count extent rest careful t found =
        careful-followed (claim_process s.boot t.uses (extent_lease s.geometry extent) t.known.claims) (after_extent_claim s count extent rest (with_claim_begun t)) found
        (careful-claim s.boot t.uses (extent_lease s.geometry extent) t.known.claims found) (λ end last. careful-after_claim count extent rest (with_claim_begun t) end last careful)

    careful-if_free : (count extent : ℕ) (free : List ℕ) (rest : Taking → Process End) → GoesCarefully rest → GoesCarefully (claim_if_free s count extent free rest)
    careful-if_free count extent [] rest careful t found = careful t found
    careful-if_free count extent (block ∷ blocks) rest careful t found = careful-claim_extent (nat_lt t.known.claims last_claim) count extent rest careful t found

    careful-seen_free : (count extent : ℕ) (rest : Taking → Process End) → GoesCarefully rest →
        GoesCarefully (λ t. ReadThen (map_at s.geometry extent) (λ bytes. other_found s count extent (read_map s.geometry.extent_blocks bytes) rest t) (ends (reply.ReadFault (record { 0 = map_at s.geometry extent })) t.known))
    careful-seen_free count extent rest careful t found = (λ bytes. by_map (read_map s.geometry.extent_blocks bytes) _, tt)
      where
        by_map : (seen : Option (List Bool)) (last : Found) → Careful last (other_found s count extent seen rest t)
        by_map None last = careful-ends t.known t.uses (reply.Damaged (record { 0 = map_at s.geometry extent })) t.known last
        by_map (Some bits) last = careful-if_free count extent (free_from t.hand (map_at s.geometry extent) bits) rest careful t last

    careful-if_other : (count extent : ℕ) (hold : Hold) (rest : Taking → Process End) → GoesCarefully rest → GoesCarefully (take_if_other s count extent hold rest)
    careful-if_other count extent (Held claim until) rest careful = careful
    careful-if_other count extent Nothing rest careful = careful-seen_free count extent rest careful
    careful-if_other count extent (Seen l) rest careful = careful-seen_free count extent rest careful
    careful-if_other count extent (Wrote claim until) rest careful = careful-seen_free count extent rest careful
    careful-if_other count extent (Waited claim until) rest careful = careful-seen_free count extent rest careful

    careful-take_others : (count : ℕ) (holds : ℕ → Hold) (left extent : ℕ) (rest : Taking → Process End) → GoesCarefully rest → GoesCarefully (take_others s count holds left extent rest)
    careful-take_others count holds zero extent rest careful = careful
    careful-take_others count holds (suc left) extent rest careful =
        let next = careful-take_others count holds left (extent + 1) rest careful in
        careful-needed count _ _ (careful-if_other count extent (holds (lease_at (extent_lease s.geometry extent))) _ next) next

    careful-refused : (known : Known) (busy : Option (ℕ × LeaseRecord)) (found : Found) → Careful found (shortage_process s known busy)
    careful-refused known None found = tt
    careful-refused known (Some met) found = tt

    careful-taken : (count : ℕ) (rest : Taking → Process End) → GoesCarefully rest → GoesCarefully (taken_process s count rest)
    careful-taken count rest careful t found = by_test (nat_le count (length t.hand))
      where
        by_test : (a : Bool) → Careful found (if a then rest t else shortage_process s t.known t.busy)
        by_test true = careful t found
        by_test false = careful-refused t.known t.busy found

    careful-reserve : (known : Known) (holds : ℕ → Hold) (hand : List ℕ) (count : ℕ) (found : Found) → Careful found (reserve_process s known holds hand count)
    careful-reserve known holds hand count found =
        careful-take_held count holds s.geometry.extents 0 _ (careful-take_others count holds s.geometry.extents 0 _ (careful-taken count _ (λ t last. tt))) (first_taking [] known hand) found

  -- ---- a retire

  module _ (most : s.geometry.extent_blocks ≤ 32768) where
    -- a rest that is careful whatever was read last
    abbrev IsCareful : Process End → Type 0
    IsCareful process = (found : Found) → Careful found process

    careful-release : (known : Known) (due : InUse) (rest : Process End) → IsCareful rest → IsCareful (release_then s known due rest)
    careful-release known due rest careful found = (tt, careful None, tt, λ r. tt)

    careful-give : (known : Known) (uses : List InUse) (extent until : ℕ) (blocks : List ℕ) (rest : Process End) → IsCareful rest → IsCareful (give_process s known uses extent until blocks rest)
    careful-give known uses extent until [] rest careful found = careful found
    careful-give known uses extent until (block ∷ blocks) rest careful found = (λ bytes. by_map bytes (read_map s.geometry.extent_blocks bytes) refl, tt)
      where
        by_map : (bytes : List ℕ) (seen : Option (List Bool)) → read_map s.geometry.extent_blocks bytes ≡ seen →
            Careful (Some (map_at s.geometry extent, bytes)) (give_found s known uses extent until (block ∷ blocks) seen rest)
        by_map bytes None is =
            careful-ends known (extent_use s.geometry extent until ∷ uses) (reply.Damaged (record { 0 = map_at s.geometry extent })) known (Some (map_at s.geometry extent, bytes))
        by_map bytes (Some bits) is = (
          (bytes, refl, give-had s.geometry.extent_blocks bytes bits (block ∷ blocks) (map_at s.geometry extent) most is),
          careful None,
          tt,
          λ reading. tt,
        )

    careful-given_up : (known : Known) (uses : List InUse) (hand : List ℕ) (extent : ℕ) (hold : Hold) (rest : Process End) → IsCareful rest → IsCareful (retire_extent s known uses hand extent hold rest)
    careful-given_up known uses hand extent (Held claim until) rest careful =
        careful-give known uses extent until (in_extent s.geometry extent hand) _ (careful-release known (extent_use s.geometry extent until) rest careful)
    careful-given_up known uses hand extent Nothing rest careful = careful
    careful-given_up known uses hand extent (Seen l) rest careful = careful
    careful-given_up known uses hand extent (Wrote claim until) rest careful = careful
    careful-given_up known uses hand extent (Waited claim until) rest careful = careful

    careful-extents : (known : Known) (uses : List InUse) (holds : ℕ → Hold) (hand : List ℕ) (left extent : ℕ) (rest : Process End) → IsCareful rest → IsCareful (retire_extents s known uses holds hand left extent rest)
    careful-extents known uses holds hand zero extent rest careful = careful
    careful-extents known uses holds hand (suc left) extent rest careful =
        careful-given_up known uses hand extent (holds (lease_at (extent_lease s.geometry extent))) _ (careful-extents known uses holds hand left (extent + 1) rest careful)

    careful-lease : (known : Known) (lease : ℕ) (session : Option Session) (hold : Hold) (rest : Process End) → IsCareful rest → IsCareful (retire_lease s known lease session hold rest)
    careful-lease known lease None (Held claim until) rest careful = careful-release known (record { lease = lease; until = until }) rest careful
    careful-lease known lease None Nothing rest careful = careful
    careful-lease known lease None (Seen l) rest careful = careful
    careful-lease known lease None (Wrote claim until) rest careful = careful
    careful-lease known lease None (Waited claim until) rest careful = careful
    careful-lease known lease (Some session) hold rest careful = careful

    careful-images : (known : Known) (holds : ℕ → Hold) (left image : ℕ) (rest : Process End) → IsCareful rest → IsCareful (retire_images s known holds left image rest)
    careful-images known holds zero image rest careful = careful
    careful-images known holds (suc left) image rest careful =
        careful-lease known (image_lease image) (known.sessions image) (holds (lease_at (image_lease image))) _ (careful-images known holds left (image + 1) rest careful)

    careful-retire : (known : Known) (holds : ℕ → Hold) (hand : List ℕ) → IsCareful (retire_process s known holds hand)
    careful-retire known holds hand =
        careful-extents known [] holds hand s.geometry.extents 0 _
        (careful-images known holds s.geometry.images 0 _
        (careful-lease known root_lease None (holds (lease_at root_lease)) _ (λ found. tt)))

  -- ---- all commands

  pub careful-command : IsGeometry s.geometry → (known : Known) (holds : ℕ → Hold) (hand : List ℕ) (reading : ℕ) (command : Command) (found : Found) →
      Careful found (command_process s known holds hand reading command)
  careful-command geometry known holds hand reading (Attach slot) found =
      careful-attach known slot.0 (known.sessions slot.0) (nat_lt slot.0 s.geometry.images) (holds (lease_at (image_lease slot.0))) found
  careful-command geometry known holds hand reading (Detach slot) found =
      careful-attached known slot.0 reading (known.sessions slot.0) (nat_lt slot.0 s.geometry.images) (holds (lease_at (image_lease slot.0))) (detach_process s known slot.0) found
      (λ session until. (tt, tt, tt, λ r. tt))
  careful-command geometry known holds hand reading (Create slot size label) found =
      careful-attached known slot.0 reading (known.sessions slot.0) (nat_lt slot.0 s.geometry.images) (holds (lease_at (image_lease slot.0))) (create_process s known slot.0 size label) found
      (λ session until. careful-create known slot.0 size label session until found)
  careful-command geometry known holds hand reading (Delete slot) found =
      careful-attached known slot.0 reading (known.sessions slot.0) (nat_lt slot.0 s.geometry.images) (holds (lease_at (image_lease slot.0))) (delete_process s known slot.0) found
      (λ session until. careful-delete known slot.0 session until found)
  careful-command geometry known holds hand reading (Read slot vblock) found =
      careful-attached known slot.0 reading (known.sessions slot.0) (nat_lt slot.0 s.geometry.images) (holds (lease_at (image_lease slot.0))) (read_process s known slot.0 vblock) found
      (λ session until. careful-read known slot.0 vblock session until found)
  careful-command geometry known holds hand reading (Write slot vblock payload) found =
      careful-attached known slot.0 reading (known.sessions slot.0) (nat_lt slot.0 s.geometry.images) (holds (lease_at (image_lease slot.0))) (write_process s known slot.0 vblock (bytes_of payload)) found
      (λ session until. careful-write known slot.0 vblock (bytes_of payload) session until found)
  careful-command geometry known holds hand reading (Flush slot) found = tt
  careful-command geometry known holds hand reading Renew found =
      careful-in_time known (attached_uses known holds s.geometry.images 0) reading _ found (careful-renew known holds reading (lease_count s.geometry) 0 found)
  careful-command geometry known holds hand reading (Reserve count) found = careful-reserve geometry.blocks_high known holds hand count found
  careful-command geometry known holds hand reading Retire found = careful-retire geometry.blocks_high known holds hand found
  careful-command geometry known holds hand reading Reclaim found = tt
