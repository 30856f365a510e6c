-- Each write that a command asks is allowed by what its boot holds.
use Rattle.std.proofs.Common.{◌≡◌, ℕ, zero, suc, ◌+◌, ◌-◌, ◌^◌, ◌≤◌, ◌<◌, List, [], ◌∷◌, Bool, true, false, Option, Some, None, refl, ap, sym, subst, ◌∙◌, arith, length}
use Rattle.std.proofs.Math.Nat.{mod-lt}
use Rattle.std.specs.Prelude.{if◌then◌else◌, nat_le, nat_lt, ◌==◌, not}
use Rattle.std.specs.Str.{bytes_eq}
use Rattle.plx_base.proofs.Spelling.{length-spelled}
use Rattle.plx_base.proofs.Tests.{nat_lt-tells}
use Rattle.plx_base.specs.Labels.{IsLabel}
use Rattle.plx_base.specs.declared.lease.Claim.{Claim}
use Rattle.plx_base.specs.declared.lease.LeaseRecord.{LeaseRecord}
use Rattle.plx_base.specs.declared.lease.LeaseRecord.TheVariants.{Free, Claimed}
use Rattle.plx_commands.specs.Facts.{is_size, is_worn}
use Rattle.plx_commands.specs.Limits.{last_claim, last_generation, last_write, greatest_size}
use Rattle.plx_commands.specs.declared.command.Command.{Command}
use Rattle.plx_commands.specs.declared.reply.Reply.{Reply}
use Rattle.plx_commands.specs.declared.reply.Reply.TheVariants as reply
use Rattle.plx_commands.proofs.Places.{at-same, at-other}
use Rattle.plx_gate.specs.Images.{image_bytes, image_magic, image_fields, label_of}
use Rattle.plx_gate.specs.Leases.{read_lease, lease_bytes}
use Rattle.plx_gate.specs.declared.image.ImageRecord.{ImageRecord}
use Rattle.plx_gate.specs.declared.image.ImageRecord.TheVariants as image_is
use Rattle.plx_gate.proofs.Descriptors.{length-descriptor}
use Rattle.plx_geom.specs.Geometry.{Geometry, data_at, descriptor_at, lease_count, image_lease, lease_at}
use Rattle.plx_geom.proofs.Places.{lease-lease, image-below}
use Rattle.plx_rules.specs.Process.{Process, Ends, ReadThen, WriteThen, ClockThen, UntilThen}
use Rattle.plx_rules.specs.Journaled.{Journaled}
use Rattle.plx_rules.specs.Attaching.{image_use, after_load, load_journal, after_record, load_image, after_claim, claim_image, attach_process}
use Rattle.plx_rules.specs.Claims.{ClaimEnd, ClaimHeld, ClaimBusy, ClaimLost, ClaimReadFault, ClaimWriteFault, ClaimDamaged, claim_of, own_record, own_use, claim_in_time, claim_damaged, reread_by, reread_process, written_process, if_expired, seen_process, claim_process}
use Rattle.plx_rules.specs.Commands.{unless, attached_process, detach_process, record_process, create_process, delete_process, read_process, write_process, journal_process, next_slot, next_descriptor, next_write, later_of, renewal, renew_process}
use Rattle.plx_rules.specs.Ends.{End, ends, lost_process, in_time, ends_in_time}
use Rattle.plx_rules.specs.Holds.{Hold, Nothing, Seen, Wrote, Waited, Held, first_hold, seen_by, hold_after_read, hold_after_reading}
use Rattle.plx_rules.specs.InUse.{InUse, first_reached, unless_reached}
use Rattle.plx_rules.specs.Journal.{Finding, Outside, Unused, Counts, finding}
use Rattle.plx_rules.specs.Loading.{LoadEnd, Loaded, LoadReadFault, LoadDamaged, load_found, load_process}
use Rattle.plx_rules.specs.Processes.{followed_by}
use Rattle.plx_rules.specs.Records.{is_live, generation_of, size_of, made_record, attached_record}
use Rattle.plx_rules.specs.Session.{Session, Known, with_claim, with_session, new_session, with_write, write_count, with_write_by_number}
use Rattle.plx_rules.specs.Settings.{Setting}
use Rattle.plx_rules.specs.Times.{is_expired, term}
use Rattle.plx_gate.proofs.Leases.{length-lease}
use Rattle.plx_rules.proofs.Holds.{later-below, later-least}
use Rattle.law_lease.proofs.Leased.{IsGranted, Lawful, LawfulRest}
use Rattle.law_lease.proofs.Rests.{one-in, lease-place-found, record-found, data-found, descriptor-place-found}

-- between commands a lease is held, or not
abbrev pub IsRest : Hold → Type 0
IsRest Nothing = Unit {0}
IsRest (Held claim until) = Unit {0}
IsRest (Seen sample) = ⊥
IsRest (Wrote claim until) = ⊥
IsRest (Waited claim until) = ⊥

pub first-rests : (session : Option Session) (reading : ℕ) (hold : Hold) → IsRest (first_hold session reading hold)
first-rests None reading (Held claim until) = by_test (nat_le until reading)
  where
    by_test : (a : Bool) → IsRest (if a then Nothing else Held claim until)
    by_test true = tt
    by_test false = tt
first-rests (Some session) reading (Held claim until) = tt
first-rests None reading Nothing = tt
first-rests None reading (Seen sample) = tt
first-rests None reading (Wrote claim until) = tt
first-rests None reading (Waited claim until) = tt
first-rests (Some session) reading Nothing = tt
first-rests (Some session) reading (Seen sample) = tt
first-rests (Some session) reading (Wrote claim until) = tt
first-rests (Some session) reading (Waited claim until) = tt

-- a record is a block of 4,096 bytes, where its label is one
pub length-labelled : (kept : ImageRecord) → length (label_of kept) ≤ 32 → length (image_bytes kept) ≡ 4096
unfolding image_bytes
length-labelled (image_is.Free generation) short = length-spelled image_magic (image_fields (image_is.Free generation)) [] (omega arith)
length-labelled (image_is.Live live) short = length-spelled image_magic (image_fields (image_is.Live live)) live.label (omega (arith, short))

-- nothing was filled at an end
abbrev pub Unfilled : {E : Type 0} → (At : E → (ℕ → Hold) → Option ℕ → Type 0) → E → (ℕ → Hold) → List (ℕ × List ℕ) → Option ℕ → Type 0
Unfilled At end held filled last = At end held last × (filled ≡ [])

module _ (g : Geometry) (boot : ℕ) (command : Command) where
  -- one process and then another
  pub lawful-followed : {E F : Type 0} (At : E → (ℕ → Hold) → List (ℕ × List ℕ) → Option ℕ → Type 0) (At' : F → (ℕ → Hold) → List (ℕ × List ℕ) → Option ℕ → Type 0) (process : Process E) (next : E → Process F)
      (holds : ℕ → Hold) (filled : List (ℕ × List ℕ)) (sample : Option ℕ) →
      Lawful At g boot command holds filled sample process → ((end : E) (h : ℕ → Hold) (f : List (ℕ × List ℕ)) (s : Option ℕ) → At end h f s → Lawful At' g boot command h f s (next end)) →
      Lawful At' g boot command holds filled sample (followed_by process next)
  lawful-followed At At' (Ends end) next holds filled sample lawful then' = then' end holds filled sample lawful
  lawful-followed At At' (ReadThen block rest fault) next holds filled sample lawful then' = (
    λ bytes. lawful-followed At At' (rest bytes) next _ _ _ (lawful.0 bytes) then',
    lawful-followed At At' fault next _ _ _ lawful.1 then',
  )
  lawful-followed At At' (WriteThen kind block bytes guard done fault missed) next holds filled sample lawful then' = (
    lawful.0,
    lawful-followed At At' done next _ _ _ lawful.1 then',
    lawful-followed At At' fault next _ _ _ lawful.2 then',
    λ reading. lawful-followed At At' (missed reading) next _ _ _ (lawful.3 reading) then',
    lawful.4,
  )
  lawful-followed At At' (ClockThen rest) next holds filled sample lawful then' = λ reading early. lawful-followed At At' (rest reading) next _ _ _ (lawful reading early) then'
  lawful-followed At At' (UntilThen from rest) next holds filled sample lawful then' = λ reading past early. lawful-followed At At' (rest reading) next _ _ _ (lawful reading past early) then'

  -- where the first fills nothing
  pub lawful-unfilled : {E F : Type 0} (At : E → (ℕ → Hold) → Option ℕ → Type 0) (At' : F → (ℕ → Hold) → List (ℕ × List ℕ) → Option ℕ → Type 0) (process : Process E) (next : E → Process F) (holds : ℕ → Hold) (sample : Option ℕ) →
      Lawful (Unfilled At) g boot command holds [] sample process → ((end : E) (h : ℕ → Hold) (s : Option ℕ) → At end h s → Lawful At' g boot command h [] s (next end)) →
      Lawful At' g boot command holds [] sample (followed_by process next)
  lawful-unfilled At At' process next holds sample lawful then' =
      lawful-followed (Unfilled At) At' process next holds [] sample lawful
      (λ end h f s at. subst (λ (fresh : List (ℕ × List ℕ)). Lawful At' g boot command h fresh s (next end)) (sym at.1) (then' end h s at.0))

  -- a part that fills nothing
  abbrev FillsNone : {E : Type 0} → (ℕ → Hold) → Option ℕ → Process E → Type 0
  FillsNone holds sample process = Lawful (Unfilled (λ end held last. Unit {0})) g boot command holds [] sample process

  -- ---- a claim

  claim-in_time : (uses : List InUse) (reading : ℕ) (rest : Process ClaimEnd) (holds : ℕ → Hold) (sample : Option ℕ) → FillsNone holds sample rest →
      FillsNone holds sample (claim_in_time uses reading rest)
  claim-in_time uses reading rest holds sample lawful = by_found (first_reached uses reading)
    where
      by_found : (found : Option InUse) → FillsNone holds sample (unless_reached found (λ due. Ends (ClaimLost due reading)) rest)
      by_found None = lawful
      by_found (Some due) = (tt, refl)

  claim-damaged : (uses : List InUse) (holds : ℕ → Hold) (sample : Option ℕ) → FillsNone holds sample (claim_damaged uses)
  claim-damaged uses holds sample = λ reading early. claim-in_time uses reading (Ends ClaimDamaged) _ _ (tt, refl)

  claim-reread : (own : Bool) (uses : List InUse) (claim : Claim) (seen : Option LeaseRecord) (holds : ℕ → Hold) (sample : Option ℕ) →
      FillsNone holds sample (reread_by own uses claim seen)
  claim-reread true uses claim seen holds sample = (tt, refl)
  claim-reread false uses claim None holds sample = claim-damaged uses holds sample
  claim-reread false uses claim (Some seen) holds sample = (tt, refl)

  claim-written : (others : List InUse) (lease number sample : ℕ) (holds : ℕ → Hold) (last : Option ℕ) → lease < lease_count g → number < 2 ^ 40 → sample < 2 ^ 48 →
      holds (lease_at lease) ≡ Seen sample → FillsNone holds last (written_process others lease (claim_of boot number sample))
  claim-written others lease number sample holds last within few early is = (
    record { lease = lease; number = number; sample = sample; within = within; at_lease = refl; alone = refl; hold = is; spells = refl; few = few; early = early; guarded = refl },
    λ reading past below. claim-in_time uses reading (reread_process uses lease claim) _ _ (
      λ bytes. claim-reread (bytes_eq bytes (lease_bytes (own_record claim))) uses claim (read_lease bytes) _ _,
      (tt, refl),
    ),
    (tt, refl),
    λ reading. (tt, refl),
    length-lease (own_record claim),
  )
    where
      claim : Claim
      claim = claim_of boot number sample

      uses : List InUse
      uses = own_use lease claim ∷ others

  claim-seen : (others : List InUse) (lease number sample : ℕ) (found : Option LeaseRecord) (holds : ℕ → Hold) → lease < lease_count g → number < 2 ^ 40 → sample < 2 ^ 48 →
      holds (lease_at lease) ≡ seen_by found sample → FillsNone holds None (seen_process others lease (claim_of boot number sample) found)
  claim-seen others lease number sample None holds within few early is = claim-damaged others holds None
  claim-seen others lease number sample (Some seen) holds within few early is = by_test (is_expired seen sample) is
    where
      by_test : (a : Bool) → holds (lease_at lease) ≡ (if a then Seen sample else Nothing) →
          FillsNone holds None (if_expired a seen (written_process others lease (claim_of boot number sample)))
      by_test false is' = (tt, refl)
      by_test true is' = claim-written others lease number sample holds None within few early is'

  pub lawful-claim : (others : List InUse) (lease number : ℕ) (holds : ℕ → Hold) (last : Option ℕ) → lease < lease_count g → number < 2 ^ 40 → holds (lease_at lease) ≡ Nothing →
      FillsNone holds last (claim_process boot others lease number)
  lawful-claim others lease number holds last within few is = λ sample early. claim-in_time others sample _ _ _ (
    λ bytes.
        let before : ℕ → Hold = λ block. hold_after_reading sample (holds block) in
        claim-seen others lease number sample (read_lease bytes) _ within few early
        (at-same before (lease_at lease) (hold_after_read (Some sample) bytes (before (lease_at lease))) ∙ ap (λ (h : Hold). hold_after_read (Some sample) bytes (hold_after_reading sample h)) is),
    (tt, refl),
  )

  -- ---- the reading of a journal

  pub lawful-load : (image : ℕ) (kept : ImageRecord) (left slot : ℕ) (writes : List Journaled) (holds : ℕ → Hold) (sample : Option ℕ) →
      FillsNone holds sample (load_process g image kept left slot writes)
  lawful-load image kept zero slot writes holds sample = (tt, refl)
  lawful-load image kept (suc left) slot writes holds sample = (
    λ bytes. by_found (finding kept g.slots slot bytes) _ _ (λ h s w. lawful-load image kept left (slot + 1) w h s),
    (tt, refl),
  )
    where
      by_found : (found : Finding) (h : ℕ → Hold) (s : Option ℕ) → ((h' : ℕ → Hold) (s' : Option ℕ) (w : List Journaled) → FillsNone h' s' (load_process g image kept left (slot + 1) w)) →
          FillsNone h s (load_found (descriptor_at g image slot) found (load_process g image kept left (slot + 1) writes)
          (λ number vblock. ReadThen (data_at g image slot) (λ data'. load_process g image kept left (slot + 1) (with_write_by_number (record { number = number; vblock = vblock; block = data' }) writes)) (Ends (LoadReadFault (data_at g image slot)))))
      by_found Outside h s rest = (tt, refl)
      by_found Unused h s rest = rest h s writes
      by_found (Counts d) h s rest = (λ data'. rest _ _ _, (tt, refl))

module _ (s : Setting) (command : Command) where
  abbrev g : Geometry
  g = s.geometry

  -- the rest of a command, where nothing was filled
  abbrev Right : (ℕ → Hold) → Option ℕ → Process End → Type 0
  Right holds sample process = LawfulRest s.geometry s.boot command holds [] sample process

  -- ---- tests and last readings

  pub right-in_time : (known : Known) (uses : List InUse) (reading : ℕ) (process : Process End) (holds : ℕ → Hold) (sample : Option ℕ) → Right holds sample process →
      Right holds sample (in_time s known uses reading process)
  right-in_time known uses reading process holds sample right = by_found (first_reached uses reading)
    where
      by_found : (found : Option InUse) → Right holds sample (unless_reached found (λ due. lost_process s known due reading) process)
      by_found None = right
      by_found (Some due) = tt

  pub right-ends : (known : Known) (uses : List InUse) (reply : Reply) (after : Known) (holds : ℕ → Hold) (sample : Option ℕ) → Right holds sample (ends_in_time s known uses reply after)
  right-ends known uses reply after holds sample = λ reading early. right-in_time known uses reading (ends reply after) _ _ tt

  right-unless : (refused : Bool) (refusal : Reply) (known : Known) (process : Process End) (holds : ℕ → Hold) (sample : Option ℕ) → Right holds sample process →
      Right holds sample (unless refused refusal known process)
  right-unless true refusal known process holds sample right = tt
  right-unless false refusal known process holds sample right = right

  -- ---- attach

  right-loaded : (known : Known) (image until : ℕ) (kept : ImageRecord) (end : LoadEnd) (holds : ℕ → Hold) (sample : Option ℕ) → Right holds sample (after_load s known image until kept end)
  right-loaded known image until kept (Loaded writes) holds sample = right-ends known (image_use image until) _ _ holds sample
  right-loaded known image until kept (LoadReadFault block) holds sample = tt
  right-loaded known image until kept (LoadDamaged block) holds sample = right-ends known (image_use image until) _ _ holds sample

  right-journal : (known : Known) (image until : ℕ) (kept : ImageRecord) (live : Bool) (holds : ℕ → Hold) (sample : Option ℕ) → Right holds sample (load_journal s known image until kept live)
  right-journal known image until kept true holds sample =
      lawful-unfilled s.geometry s.boot command (λ end held last. Unit {0}) (λ end held fresh last. Unit {0}) (load_process s.geometry image kept s.geometry.slots 0 []) (after_load s known image until kept) holds sample
      (lawful-load s.geometry s.boot command image kept s.geometry.slots 0 [] holds sample)
      (λ end h l any. right-loaded known image until kept end h l)
  right-journal known image until kept false holds sample = right-ends known (image_use image until) _ _ holds sample

  right-record : (known : Known) (image until : ℕ) (found : Option ImageRecord) (holds : ℕ → Hold) (sample : Option ℕ) → Right holds sample (after_record s known image until found)
  right-record known image until None holds sample = right-ends known (image_use image until) _ _ holds sample
  right-record known image until (Some kept) holds sample = right-journal known image until kept (is_live kept) holds sample

  right-image : (known : Known) (image until : ℕ) (holds : ℕ → Hold) (sample : Option ℕ) → Right holds sample (load_image s known image until)
  right-image known image until holds sample = (λ bytes. right-record known image until (attached_record bytes) _ _, tt)

  right-claimed : (known : Known) (image : ℕ) (end : ClaimEnd) (holds : ℕ → Hold) (sample : Option ℕ) → Right holds sample (after_claim s known image end)
  right-claimed known image (ClaimHeld claim until) holds sample = right-image known image until holds sample
  right-claimed known image (ClaimBusy seen) holds sample = tt
  right-claimed known image (ClaimLost due reading) holds sample = tt
  right-claimed known image ClaimReadFault holds sample = tt
  right-claimed known image ClaimWriteFault holds sample = tt
  right-claimed known image ClaimDamaged holds sample = tt

  right-claim : (enough : Bool) (known : Known) (image : ℕ) (holds : ℕ → Hold) (sample : Option ℕ) → nat_lt known.claims last_claim ≡ enough → image < s.geometry.images →
      holds (lease_at (image_lease image)) ≡ Nothing → Right holds sample (claim_image enough s known image)
  right-claim false known image holds sample e within is = tt
  right-claim true known image holds sample e within is =
      let few = nat_lt-tells known.claims last_claim e in
      lawful-unfilled s.geometry s.boot command (λ end held last. Unit {0}) (λ end held fresh last. Unit {0}) (claim_process s.boot [] (image_lease image) known.claims) (after_claim s (with_claim known) image) holds sample
      (lawful-claim s.geometry s.boot command [] (image_lease image) known.claims holds sample (image-below s.geometry image within) (omega (arith, few)) is)
      (λ end h l any. right-claimed (with_claim known) image end h l)

  pub right-attach : (known : Known) (image : ℕ) (holds : ℕ → Hold) (sample : Option ℕ) (session : Option Session) (within : Bool) (hold : Hold) → nat_lt image s.geometry.images ≡ within →
      holds (lease_at (image_lease image)) ≡ hold → IsRest hold → Right holds sample (attach_process s known image session within hold)
  right-attach known image holds sample (Some session) within hold e is rests = tt
  right-attach known image holds sample None false hold e is rests = tt
  right-attach known image holds sample None true (Held claim until) e is rests = right-image known image until holds sample
  right-attach known image holds sample None true Nothing e is rests =
      right-claim (nat_lt known.claims last_claim) known image holds sample refl (nat_lt-tells image s.geometry.images e) is
  right-attach known image holds sample None true (Seen l) e is rests = absurd rests
  right-attach known image holds sample None true (Wrote claim until) e is rests = absurd rests
  right-attach known image holds sample None true (Waited claim until) e is rests = absurd rests

  -- ---- commands of an attached image

  pub right-attached : (known : Known) (image reading : ℕ) (holds : ℕ → Hold) (sample : Option ℕ) (session : Option Session) (within : Bool) (hold : Hold) (rest : Session → ℕ → Process End) →
      nat_lt image s.geometry.images ≡ within → holds (lease_at (image_lease image)) ≡ hold →
      ((session : Session) (claim : Claim) (until : ℕ) → image < s.geometry.images → holds (lease_at (image_lease image)) ≡ Held claim until → Right holds sample (rest session until)) →
      Right holds sample (attached_process s known image session within hold reading rest)
  right-attached known image reading holds sample None within hold rest e is right = tt
  right-attached known image reading holds sample (Some session) false hold rest e is right = tt
  right-attached known image reading holds sample (Some session) true (Held claim until) rest e is right =
      right-in_time known (image_use image until) reading (rest session until) holds sample (right session claim until (nat_lt-tells image s.geometry.images e) is)
  right-attached known image reading holds sample (Some session) true Nothing rest e is right = tt
  right-attached known image reading holds sample (Some session) true (Seen l) rest e is right = tt
  right-attached known image reading holds sample (Some session) true (Wrote claim until) rest e is right = tt
  right-attached known image reading holds sample (Some session) true (Waited claim until) rest e is right = tt

  module _ (known : Known) (image : ℕ) (holds : ℕ → Hold) (sample : Option ℕ) (claim : Claim) (until : ℕ) (within : image < s.geometry.images)
      (is : holds (lease_at (image_lease image)) ≡ Held claim until) where
    -- the image's lease is granted
    granted : (lease : ℕ) → lease ≡ image_lease image → IsGranted holds lease until
    granted lease same = record { claim = claim; until = until; hold = ap (λ (n : ℕ). holds (lease_at n)) same ∙ is; guarded = omega arith }

    pub right-detach : (session : Session) → Right holds sample (detach_process s known image session until)
    right-detach session = (
      record { lease = image_lease image; claim = claim; until = until; within = image-below s.geometry image within; at_lease = refl; alone = ap (λ (n : ℕ). n ∷ []) (lease-place-found (image_lease image)); hold = is; spells = refl; guarded = refl },
      tt,
      tt,
      λ r. tt,
      length-lease Free,
    )

    right-made : (made : ImageRecord) (done : Reply) → length (label_of made) ≤ 32 → Right holds sample (record_process s known image until made done)
    right-made made done short = (
      record {
        placed = (image, within, refl, ([], tt, ap (λ (n : ℕ). image_lease n ∷ []) (record-found s.geometry image)));
        grants = λ lease needs. granted lease (one-in lease _ needs ∙ ap image_lease (record-found s.geometry image));
      },
      right-ends known (image_use image until) done (with_session known image (Some (new_session made))) _ None,
      tt,
      λ reading. tt,
      length-labelled made short,
    )

    pub right-create : (size : ℕ) (label : List ℕ) (session : Session) → IsLabel label → Right holds sample (create_process s known image size label session until)
    right-create size label session label-is =
        right-unless (is_live session.image) reply.Exists known _ holds sample
        (right-unless (not (is_size size)) (reply.OutOfRange greatest_size) known _ holds sample
        (right-unless (is_worn last_generation (generation_of session.image)) (reply.WornOut last_generation) known _ holds sample
        (right-made (made_record (generation_of session.image + 1) size label) reply.Created label-is.short)))

    pub right-delete : (session : Session) → Right holds sample (delete_process s known image session until)
    right-delete session =
        right-unless (not (is_live session.image)) reply.NoImage known _ holds sample
        (right-made (image_is.Free (generation_of session.image)) reply.Deleted (omega arith))

    pub right-read : (vblock : ℕ) (session : Session) → Right holds sample (read_process s known image vblock session until)
    right-read vblock session =
        right-unless (not (is_live session.image)) reply.NoImage known _ holds sample
        (right-unless (nat_le (size_of session.image) vblock) (reply.OutOfRange (size_of session.image)) known _ holds sample
        (right-ends known (image_use image until) _ _ holds sample))

    right-journaled : (vblock : ℕ) (bytes : List ℕ) (session : Session) → 2 ≤ s.geometry.slots → length bytes ≡ 4096 → Right holds sample (journal_process s known image vblock bytes session until)
    right-journaled vblock bytes session some long = (
      record {
        placed = (image, next_slot s session, within, room, refl, ap (λ (n : ℕ). image_lease n ∷ []) (data-found s.geometry image (next_slot s session) room));
        grants = λ lease needs. granted lease (one-in lease _ needs ∙ ap image_lease (data-found s.geometry image (next_slot s session) room));
      },
      (
        record {
          placed = (image, next_slot s session, within, room, refl, ap (λ (n : ℕ). image_lease n ∷ []) (descriptor-place-found s.geometry image (next_slot s session) room));
          grants = λ lease needs. granted lease (one-in lease _ needs ∙ ap image_lease (descriptor-place-found s.geometry image (next_slot s session) room));
        },
        right-ends known (image_use image until) (reply.Written (write_count session + 1)) (with_session known image (Some (with_write session (next_write session vblock bytes)))) _ None,
        tt,
        λ reading. tt,
        length-descriptor (next_descriptor session vblock),
      ),
      tt,
      λ reading. tt,
      long,
    )
      where
        room : next_slot s session < s.geometry.slots
        room = mod-lt (write_count session + 1 - 1) (omega arith)

    pub right-write : (vblock : ℕ) (bytes : List ℕ) (session : Session) → 2 ≤ s.geometry.slots → length bytes ≡ 4096 → Right holds sample (write_process s known image vblock bytes session until)
    right-write vblock bytes session some long =
        right-unless (not (is_live session.image)) reply.NoImage known _ holds sample
        (right-unless (nat_le (size_of session.image) vblock) (reply.OutOfRange (size_of session.image)) known _ holds sample
        (right-unless (is_worn last_write (write_count session)) (reply.WornOut last_write) known _ holds sample
        (right-unless (length session.writes == s.geometry.slots) reply.Full known _ holds sample
        (right-journaled vblock bytes session some long))))

  -- ---- renew

  pub right-renew : (known : Known) (holds0 : ℕ → Hold) (reading left lease : ℕ) (holds : ℕ → Hold) (sample : Option ℕ) → reading < 2 ^ 48 → left + lease ≡ lease_count s.geometry →
      ((j : ℕ) → lease ≤ j → holds (lease_at j) ≡ holds0 (lease_at j)) → Right holds sample (renew_process s known holds0 reading left lease)
  right-renew known holds0 reading zero lease holds sample early all same = tt
  right-renew known holds0 reading (suc left) lease holds sample early all same =
      by_hold (λ h l same'. right-renew known holds0 reading left (lease + 1) h l early (omega arith) same') (holds0 (lease_at lease)) (same lease (omega arith))
    where
      by_hold : (rest : (h : ℕ → Hold) (l : Option ℕ) → ((j : ℕ) → lease + 1 ≤ j → h (lease_at j) ≡ holds0 (lease_at j)) →
          Right h l (renew_process s known holds0 reading left (lease + 1))) (hold : Hold) → holds (lease_at lease) ≡ hold → Right holds sample (renewal s known reading lease hold (renew_process s known holds0 reading left (lease + 1)))
      by_hold rest (Held claim until) is =
          let next = later_of until (reading + term) in (
            record {
              lease = lease;
              claim = claim;
              until = until;
              next = next;
              within = omega arith;
              at_lease = refl;
              alone = ap (λ (n : ℕ). n ∷ []) (lease-place-found lease);
              hold = is;
              spells = refl;
              later = later-least until (reading + term);
              early = λ low. later-below until (reading + term) (2 ^ 49) low (omega arith);
              guarded = refl;
            },
            rest _ _ (λ j past. at-other holds (lease_at lease) (lease_at j) _ (λ e. let f = lease-lease j lease e in omega (arith, f, past)) ∙ same j (omega arith)),
            tt,
            λ r. tt,
            length-lease (Claimed claim next),
          )
      by_hold rest Nothing is = rest holds sample (λ j past. same j (omega arith))
      by_hold rest (Seen l) is = rest holds sample (λ j past. same j (omega arith))
      by_hold rest (Wrote claim until) is = rest holds sample (λ j past. same j (omega arith))
      by_hold rest (Waited claim until) is = rest holds sample (λ j past. same j (omega arith))
