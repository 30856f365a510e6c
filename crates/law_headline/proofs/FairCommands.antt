-- Each command is fair, whoever owns the lease of its image.
use Rattle.std.proofs.Common.{◌≡◌, ℕ, zero, suc, ◌+◌, ◌-◌, ◌^◌, ◌≤◌, ◌<◌, inl, inr, List, [], ◌∷◌, length, Bool, true, false, Option, Some, None, refl, ap, sym, subst, ◌∙◌, arith}
use Rattle.std.specs.Prelude.{is_some, ◌==◌, ◌&&◌, nat_lt, nat_le, not}
use Rattle.std.proofs.Math.Nat.{mod-lt}
use Rattle.std.proofs.lemmas.Bool.Decides.{eqb_tells, leb_tells}
use Rattle.plx_base.specs.Canonical.{payload_of}
use Rattle.plx_base.specs.Labels.{IsLabel}
use Rattle.plx_base.specs.Payload.{bytes_of}
use Rattle.plx_base.specs.declared.lease.Claim.{Claim}
use Rattle.plx_base.specs.declared.lease.LeaseRecord.TheVariants as record_is
use Rattle.plx_base.specs.declared.payload.Payload.{Payload}
use Rattle.plx_commands.specs.Facts.{is_size, is_worn}
use Rattle.plx_commands.specs.Limits.{last_generation, last_write, greatest_size}
use Rattle.plx_commands.specs.Model.{has_all}
use Rattle.plx_commands.specs.Places.{at}
use Rattle.plx_commands.specs.Replies.{is_in, row}
use Rattle.plx_commands.specs.Slots.{named_slots}
use Rattle.plx_commands.specs.declared.command.Command.{Command}
use Rattle.plx_commands.specs.declared.command.Command.TheVariants.{Attach, Detach, Create, Delete, Read, Write, Flush, Reserve, Renew, Retire, Reclaim}
use Rattle.plx_commands.specs.declared.reply.Reply.{Reply}
use Rattle.plx_commands.specs.declared.reply.Reply.TheVariants as reply
use Rattle.plx_commands.proofs.Places.{at-same, at-other}
use Rattle.plx_gate.specs.Images.{image_bytes, IsImage}
use Rattle.plx_gate.specs.Leases.{lease_bytes, read_lease, IsClaimed}
use Rattle.plx_gate.specs.declared.image.ImageRecord.{ImageRecord}
use Rattle.plx_gate.specs.declared.image.ImageRecord.TheVariants as image_is
use Rattle.plx_gate.proofs.Descriptors.{length-descriptor}
use Rattle.plx_geom.specs.Geometry.{IsGeometry, lease_count, image_lease, lease_at, record_at}
use Rattle.plx_geom.proofs.Places.{lease-lease}
use Rattle.plx_base.proofs.Tests.{nat_lt-true, nat_le-past}
use Rattle.plx_rules.specs.Process.{Process}
use Rattle.plx_rules.specs.Attaching.{image_use, attach_process}
use Rattle.plx_rules.specs.Commands.{IsBuilt, IsWellFormed, unless, attached_process, of_attached, detach_process, record_process, create_process, delete_process, read_process, next_write, next_slot, journal_process, write_process, later_of, renewal, renew_process, attached_uses, command_process}
use Rattle.plx_rules.specs.Ends.{End, ends, ends_in_time}
use Rattle.plx_rules.specs.Holds.{Hold, Nothing, Seen, Wrote, Waited, Held, no_holds, hold_after_reading, hold_after_renewal, holds_after_reply}
use Rattle.plx_rules.specs.Records.{is_live, generation_of, size_of, made_record}
use Rattle.plx_rules.specs.Session.{Session, Known, with_session, new_session, write_count, content, with_write}
use Rattle.plx_rules.specs.Settings.{Setting}
use Rattle.plx_rules.specs.Times.{term}
use Rattle.plx_rules.proofs.Holds.{later-below, later-least}
use Rattle.law_headline.proofs.FairAttach.{fair-unattached}
use Rattle.law_headline.proofs.FairProcesses.{lease-image, backs-timed, backs-with, replaced, unreached-tells, just-one, names-by-list, IsFair, fair-lost, fair-write_failed, fair-in-time, fair-ends}
use Rattle.law_headline.proofs.FairSpace.{fair-reserve, fair-retire}
use Rattle.law_headline.proofs.HandFacts.{NoMap}
use Rattle.law_headline.proofs.Harmless.{Harmless}
use Rattle.law_headline.proofs.Harmless as harmless
use Rattle.law_headline.proofs.Held.{attached_of, Backs, is_below, just_at, Fair}
use Rattle.law_headline.proofs.HeldCommands.{slot_no, size-tells}
use Rattle.plx_gate.proofs.Leases.{lease-back, length-lease}
use Rattle.law_lease.proofs.LawfulCommands.{IsRest, length-labelled}
use Rattle.law_model.proofs.Replied.{Names, sessions_after}

-- ---- a command of an attached image

module _ (s : Setting) (geometry : IsGeometry s.geometry) (a : ℕ) (known : Known) (i : ℕ) (reading : ℕ) (holds : ℕ → Hold) (backs : Backs s.geometry holds known) where
  -- the rest of a command at its first reading
  abbrev Starts : Command → Process End → Type 0
  Starts command process = IsFair s a command known holds (Some reading) (just_at s.geometry command holds reading) process

  -- the image is attached, and its lease is held
  fair-session : (command : Command) (rest : Session → ℕ → Process End) → named_slots command ≡ i ∷ [] → is_in 1 (row command) ≡ true →
      ((t : Session) (claim : Claim) (until : ℕ) → i < s.geometry.images → known.sessions i ≡ Some t → holds (lease_at (image_lease i)) ≡ Held claim until → just_at s.geometry command holds reading ≡ true →
      Starts command (rest t until)) →
      Starts command (of_attached s known holds reading i rest)
  fair-session command rest one listed fair = by_session (known.sessions i) refl
    where
      by_session : (o : Option Session) → known.sessions i ≡ o → Starts command (attached_process s known i o (nat_lt i s.geometry.images) (holds (lease_at (image_lease i))) reading rest)
      by_session None is = record {
        kept = λ j. refl;
        backs = backs;
        away = λ j no'. inl refl;
        clean = inl tt;
        allowed = inl (harmless.without listed (let P : List ℕ → Type 0 = λ l. has_all (attached_of known) l ≡ false in
            subst P (sym one) (ap (λ (o : Option Session). is_some o && true) is)));
      }
      by_session (Some t) is =
          let b = backs i t is in
          let W : Bool → Hold → Type 0 = λ w h. Starts command (attached_process s known i (Some t) w h reading rest) in
          subst (λ (w : Bool). W w (holds (lease_at (image_lease i)))) (sym (nat_lt-true i s.geometry.images b.within)) (subst (W true) (sym b.held)
          (fair-in-time s a command known holds (Some reading) (just_at s.geometry command holds reading) known (image_use i b.until) reading (rest t b.until)
          (λ e. fair t b.claim b.until b.within is b.held (just-one s.geometry command i one b.within holds reading ∙ (ap (λ (h : Hold). is_below h reading) b.held
          ∙ nat_lt-true reading b.until (unreached-tells i b.until reading e))))))

  -- a refusal directly after the first reading
  fair-refused : (command : Command) (refusal : Reply) → just_at s.geometry command holds reading ≡ true → ((j : ℕ) → sessions_after command refusal (attached_of known) j ≡ attached_of known j) →
      ((h : ℕ → Hold) → holds_after_reply refusal h ≡ h) → Starts command (ends refusal known)
  fair-refused command refusal just same keeps = record {
    kept = λ j. sym (same j);
    backs = (let P : (ℕ → Hold) → Type 0 = λ h. Backs s.geometry h known in subst P (sym (keeps holds)) backs);
    away = λ j no'. inl refl;
    clean = inr just;
    allowed = inr (inl just);
  }

  fair-read : (vblock : ℕ) → Starts (Read (slot_no i) vblock) (of_attached s known holds reading i (read_process s known i vblock))
  fair-read vblock = fair-session (Read (slot_no i) vblock) (read_process s known i vblock) refl refl
      (λ t claim until within is held just. by_test t claim until within held just (not (is_live t.image)) (nat_le (size_of t.image) vblock))
    where
      by_test : (t : Session) (claim : Claim) (until : ℕ) → i < s.geometry.images → holds (lease_at (image_lease i)) ≡ Held claim until → just_at s.geometry (Read (slot_no i) vblock) holds reading ≡ true → (x y : Bool) →
          Starts (Read (slot_no i) vblock) (unless x reply.NoImage known (unless y (reply.OutOfRange (size_of t.image)) known (ends_in_time s known (image_use i until) (reply.Data (payload_of (content t vblock))) known)))
      by_test t claim until within held just true y = fair-refused (Read (slot_no i) vblock) reply.NoImage just (λ j. refl) (λ h. refl)
      by_test t claim until within held just false true = fair-refused (Read (slot_no i) vblock) (reply.OutOfRange (size_of t.image)) just (λ j. refl) (λ h. refl)
      by_test t claim until within held just false false =
          fair-ends s a (Read (slot_no i) vblock) known i holds (Some reading) (just_at s.geometry (Read (slot_no i) vblock) holds reading) known known claim until (reply.Data (payload_of (content t vblock))) refl within held
          (λ j. refl) (λ r. backs-timed s.geometry known holds r backs) (λ j no'. inl refl)

  -- the session of the image is another one from now on
  fair-replaced : (command : Command) (done : Reply) (t u : Session) (claim : Claim) (until : ℕ) (sample : Option ℕ) (just : Bool) → named_slots command ≡ i ∷ [] → i < s.geometry.images → known.sessions i ≡ Some t →
      holds (lease_at (image_lease i)) ≡ Held claim until → ((f : ℕ → Bool) (j : ℕ) → sessions_after command done f j ≡ f j) → ((h : ℕ → Hold) → holds_after_reply done h ≡ h) →
      IsFair s a command known holds sample just (ends_in_time s known (image_use i until) done (with_session known i (Some u)))
  fair-replaced command done t u claim until sample just one within is held same keeps =
      fair-ends s a command known i holds sample just known (with_session known i (Some u)) claim until done one within held
      (λ j. replaced s.geometry known i t u is j ∙ sym (same (attached_of known) j))
      (λ r. let P : (ℕ → Hold) → Type 0 = λ h. Backs s.geometry h (with_session known i (Some u)) in
      subst P (sym (keeps (λ block. hold_after_reading r (holds block))))
      (backs-with s.geometry known (λ block. hold_after_reading r (holds block)) i u (backs-timed s.geometry known holds r backs i t is) (backs-timed s.geometry known holds r backs)))
      (λ j no'. inl (at-other known.sessions i j (Some u) (λ e. no' (let P : ℕ → Type 0 = λ n. Names command n in subst P (sym e) (names-by-list command i one)))))

  module _ (vblock : ℕ) (payload : Payload) (long : length (bytes_of payload) ≡ 4096) where
    abbrev writes_block : Command
    writes_block = Write (slot_no i) vblock payload

    fair-write : Starts writes_block (of_attached s known holds reading i (write_process s known i vblock (bytes_of payload)))
    fair-write = fair-session writes_block (write_process s known i vblock (bytes_of payload)) refl refl
        (λ t claim until within is held just. by_tests t claim until within is held just (not (is_live t.image)) (nat_le (size_of t.image) vblock) (is_worn last_write (write_count t)) (length t.writes == s.geometry.slots))
      where
        by_tests : (t : Session) (claim : Claim) (until : ℕ) → i < s.geometry.images → known.sessions i ≡ Some t → holds (lease_at (image_lease i)) ≡ Held claim until →
            just_at s.geometry writes_block holds reading ≡ true → (x y z f : Bool) →
            Starts writes_block (unless x reply.NoImage known (unless y (reply.OutOfRange (size_of t.image)) known (unless z (reply.WornOut last_write) known (unless f reply.Full known
            (journal_process s known i vblock (bytes_of payload) t until)))))
        by_tests t claim until within is held just true y z f = fair-refused writes_block reply.NoImage just (λ j. refl) (λ h. refl)
        by_tests t claim until within is held just false true z f = fair-refused writes_block (reply.OutOfRange (size_of t.image)) just (λ j. refl) (λ h. refl)
        by_tests t claim until within is held just false false true f = fair-refused writes_block (reply.WornOut last_write) just (λ j. refl) (λ h. refl)
        by_tests t claim until within is held just false false false true = fair-refused writes_block reply.Full just (λ j. refl) (λ h. refl)
        by_tests t claim until within is held just false false false false =
            let room : next_slot s t < s.geometry.slots = mod-lt (write_count t + 1 - 1) (let low = geometry.slots_low in omega (arith, low)) in
            let u = with_write t (next_write t vblock (bytes_of payload)) in (
              record { named = (i, within, inr (next_slot s t, room, inr refl), inl refl); spells = tt },
              long,
              (
                record { named = (i, within, inr (next_slot s t, room, inl refl), inl refl); spells = tt },
                length-descriptor _,
                fair-replaced writes_block (reply.Written (write_count t + 1)) t u claim until None false refl within is held (λ g j. refl) (λ h. refl),
                fair-write_failed s a writes_block known no_holds None false known _ refl,
                λ r. fair-lost s a writes_block known no_holds None false known _ r,
                refl,
                λ r. refl,
              ),
              fair-write_failed s a writes_block known no_holds None false known _ refl,
              λ r. fair-lost s a writes_block known no_holds None false known _ r,
              refl,
              λ r. refl,
            )

  fair-detach : Starts (Detach (slot_no i)) (of_attached s known holds reading i (detach_process s known i))
  fair-detach = fair-session (Detach (slot_no i)) (detach_process s known i) refl refl
      (λ t claim until within is held just. (
        record { named = tt; spells = tt },
        length-lease record_is.Free,
        record {
          kept = λ j. elim (eqb_tells j i) [ inl same ↦ rw same.0 refl | inr away ↦ rw away.0 refl ];
          backs = λ k x known'. elim (eqb_tells k i) [
            | inl same ↦
                absurd (let e : at known.sessions i None k ≡ None = (let P : ℕ → Type 0 = λ n. at known.sessions i None n ≡ None in subst P (sym same.1) (at-same known.sessions i None)) in
                let f : None ≡ Some x = sym e ∙ known' in let P : ⊥ = cc in P)
            | inr away ↦
                let b = backs k x (sym (at-other known.sessions i k None away.1) ∙ known') in
                record {
                  within = b.within;
                  claim = b.claim;
                  until = b.until;
                  held = at-other holds (lease_at (image_lease i)) (lease_at (image_lease k)) Nothing (λ e. away.1 (lease-image k i e)) ∙ b.held;
                  limits = b.limits;
                }
          ];
          away = λ j no'. inl (at-other known.sessions i j None (λ e. no' (inl (sym e))));
          clean = inl tt;
          allowed = inl (harmless.detached (ap (λ (o : Option Session). is_some o) is));
        },
        fair-write_failed s a (Detach (slot_no i)) known no_holds None false known _ refl,
        λ r. fair-lost s a (Detach (slot_no i)) known no_holds None false known _ r,
        refl,
        λ r. refl,
      ))

  -- ---- a record

  fair-record : (command : Command) (new : ImageRecord) (done : Reply) (t : Session) (claim : Claim) (until : ℕ) (sample : Option ℕ) (just : Bool) → length (image_bytes new) ≡ 4096 → named_slots command ≡ i ∷ [] → is_in 11 (row command) ≡ true →
      i < s.geometry.images → known.sessions i ≡ Some t → holds (lease_at (image_lease i)) ≡ Held claim until → ((f : ℕ → Bool) (j : ℕ) → sessions_after command done f j ≡ f j) → ((h : ℕ → Hold) → holds_after_reply done h ≡ h) →
      IsFair s a command known holds sample just (record_process s known i until new done)
  fair-record command new done t claim until sample just long one listed within is held same keeps = (
    record { named = (i, within, inl refl, names-by-list command i one); spells = tt },
    long,
    fair-replaced command done t (new_session new) claim until None false one within is held same keeps,
    fair-write_failed s a command known no_holds None false known (record_at s.geometry i) listed,
    λ r. fair-lost s a command known no_holds None false known _ r,
    refl,
    λ r. refl,
  )

  fair-create : (size : ℕ) (label : List ℕ) → IsLabel label → Starts (Create (slot_no i) size label) (of_attached s known holds reading i (create_process s known i size label))
  fair-create size label is-label = fair-session (Create (slot_no i) size label) (create_process s known i size label) refl refl
      (λ t claim until within is held just. by_tests t claim until within is held just (is_live t.image) (not (is_size size)) (is_worn last_generation (generation_of t.image)) refl refl)
    where
      by_tests : (t : Session) (claim : Claim) (until : ℕ) → i < s.geometry.images → known.sessions i ≡ Some t → holds (lease_at (image_lease i)) ≡ Held claim until →
          just_at s.geometry (Create (slot_no i) size label) holds reading ≡ true → (x y z : Bool) → not (is_size size) ≡ y → is_worn last_generation (generation_of t.image) ≡ z →
          Starts (Create (slot_no i) size label) (unless x reply.Exists known (unless y (reply.OutOfRange greatest_size) known (unless z (reply.WornOut last_generation) known
          (record_process s known i until (made_record (generation_of t.image + 1) size label) reply.Created))))
      by_tests t claim until within is held just true y z ey ez = fair-refused (Create (slot_no i) size label) reply.Exists just (λ j. refl) (λ h. refl)
      by_tests t claim until within is held just false true z ey ez = fair-refused (Create (slot_no i) size label) (reply.OutOfRange greatest_size) just (λ j. refl) (λ h. refl)
      by_tests t claim until within is held just false false true ey ez = fair-refused (Create (slot_no i) size label) (reply.WornOut last_generation) just (λ j. refl) (λ h. refl)
      by_tests t claim until within is held just false false false ey ez =
          let new = made_record (generation_of t.image + 1) size label in
          let sizes = size-tells size ey in
          let young = nat_le-past last_generation (generation_of t.image) ez in
          let limits : IsImage new = record {
            generation_low = omega arith;
            generation_high = omega (arith, young);
            size_low = omega (arith, sizes.0);
            size_high = sizes.1;
            taken_high = omega arith;
            root_pointer = inl refl;
            applied_high = omega arith;
            label_is = is-label;
          } in
          fair-record (Create (slot_no i) size label) new reply.Created t claim until (Some reading) (just_at s.geometry (Create (slot_no i) size label) holds reading) (length-labelled new is-label.short) refl refl
          within is held (λ f j. refl) (λ h. refl)

  fair-delete : Starts (Delete (slot_no i)) (of_attached s known holds reading i (delete_process s known i))
  fair-delete = fair-session (Delete (slot_no i)) (delete_process s known i) refl refl
      (λ t claim until within is held just. by_test t claim until within is held just (not (is_live t.image)))
    where
      by_test : (t : Session) (claim : Claim) (until : ℕ) → i < s.geometry.images → known.sessions i ≡ Some t → holds (lease_at (image_lease i)) ≡ Held claim until →
          just_at s.geometry (Delete (slot_no i)) holds reading ≡ true → (x : Bool) →
          Starts (Delete (slot_no i)) (unless x reply.NoImage known (record_process s known i until (image_is.Free (generation_of t.image)) reply.Deleted))
      by_test t claim until within is held just true = fair-refused (Delete (slot_no i)) reply.NoImage just (λ j. refl) (λ h. refl)
      by_test t claim until within is held just false =
          fair-record (Delete (slot_no i)) (image_is.Free (generation_of t.image)) reply.Deleted t claim until (Some reading) (just_at s.geometry (Delete (slot_no i)) holds reading) (length-labelled (image_is.Free (generation_of t.image)) (omega arith)) refl refl
          within is held (λ f j. refl) (λ h. refl)

  -- ---- an attach

  fair-attach : s.boot < 2 ^ 128 → IsRest (holds (lease_at (image_lease i))) → (i < s.geometry.images → (claim : Claim) (until : ℕ) → holds (lease_at (image_lease i)) ≡ Held claim until → IsClaimed claim until) →
      Starts (Attach (slot_no i)) (attach_process s known i (known.sessions i) (nat_lt i s.geometry.images) (holds (lease_at (image_lease i))))
  fair-attach small rest limits = by_session (known.sessions i) refl
    where
      by_within : (w : Bool) → nat_lt i s.geometry.images ≡ w → known.sessions i ≡ None → Starts (Attach (slot_no i)) (attach_process s known i None w (holds (lease_at (image_lease i))))
      by_within false e none = record {
        kept = λ j. refl;
        backs = backs;
        away = λ j no'. inl refl;
        clean = inl tt;
        allowed = inl (harmless.no_image {slot = slot_no i} (elim (leb_tells (suc i) s.geometry.images) [
          | inl below ↦ absurd (let f : true ≡ false = sym below.0 ∙ e in let P : ⊥ = cc in P)
          | inr past ↦ omega (arith, past.1)
        ]));
      }
      by_within true e none =
          let within : i < s.geometry.images = elim (leb_tells (suc i) s.geometry.images) [
            | inl below ↦ below.1
            | inr past ↦ absurd (let f : true ≡ false = sym e ∙ past.0 in let P : ⊥ = cc in P)
          ] in
          fair-unattached s geometry a small known i within none (holds (lease_at (image_lease i))) holds (Some reading) (just_at s.geometry (Attach (slot_no i)) holds reading) refl rest (limits within) backs

      by_session : (o : Option Session) → known.sessions i ≡ o → Starts (Attach (slot_no i)) (attach_process s known i o (nat_lt i s.geometry.images) (holds (lease_at (image_lease i))))
      by_session (Some t) is = record { kept = λ j. refl; backs = backs; away = λ j no'. inl refl; clean = inl tt; allowed = inl (harmless.with_session (ap (λ (o : Option Session). is_some o) is)) }
      by_session None is = by_within (nat_lt i s.geometry.images) refl is

-- ---- the renewals

module _ (s : Setting) (a : ℕ) (known : Known) (holds0 : ℕ → Hold) (reading : ℕ) (early : reading < 2 ^ 48) where
  abbrev Renews : (ℕ → Hold) → Option ℕ → Process End → Type 0
  Renews holds sample process = IsFair s a Renew known holds sample false process

  -- a lease that is held, and is renewed
  backs-renewed : (holds : ℕ → Hold) (lease : ℕ) (claim : Claim) (until : ℕ) → holds (lease_at lease) ≡ Held claim until → Backs s.geometry holds known →
      Backs s.geometry (at holds (lease_at lease) (hold_after_renewal (read_lease (lease_bytes (record_is.Claimed claim (later_of until (reading + term))))))) known
  backs-renewed holds lease claim until is backs k t known' =
      let next = later_of until (reading + term) in
      let own = lease_bytes (record_is.Claimed claim next) in
      let h = at holds (lease_at lease) (hold_after_renewal (read_lease own)) in
      let b = backs k t known' in
      elim (eqb_tells (image_lease k) lease) [
        | inl here ↦
            let held : Held claim until ≡ Held b.claim b.until = sym is ∙ (ap (λ (n : ℕ). holds (lease_at n)) (sym here.1) ∙ b.held) in
            let fc : claim ≡ b.claim = cc in
            let fu : until ≡ b.until = cc in
            let l = b.limits in
            let low = l.low in
            let least = later-least until (reading + term) in
            let limits : IsClaimed b.claim next = record {
              boot = l.boot;
              number = l.number;
              sample = l.sample;
              low = omega (arith, low, least, fu);
              high = later-below until (reading + term) (2 ^ 49) (let high = l.high in omega (arith, high, fu)) (omega (arith, early));
            } in
            let limits' : IsClaimed claim next = (let P : Claim → Type 0 = λ c. IsClaimed c next in subst P (sym fc) limits) in
            record {
              within = b.within;
              claim = claim;
              until = next;
              held = ap (λ (n : ℕ). h (lease_at n)) here.1 ∙ (at-same holds (lease_at lease) (hold_after_renewal (read_lease own)) ∙ ap hold_after_renewal (lease-back (record_is.Claimed claim next) limits'));
              limits = limits';
            }
        | inr away ↦ record {
          within = b.within;
          claim = b.claim;
          until = b.until;
          held = at-other holds (lease_at lease) (lease_at (image_lease k)) (hold_after_renewal (read_lease own)) (λ e. away.1 (lease-lease (image_lease k) lease e)) ∙ b.held;
          limits = b.limits;
        }
      ]

  fair-renew : (left lease : ℕ) (holds : ℕ → Hold) (sample : Option ℕ) → left + lease ≡ lease_count s.geometry → Backs s.geometry holds known →
      ((j : ℕ) → lease ≤ j → holds (lease_at j) ≡ holds0 (lease_at j)) → Renews holds sample (renew_process s known holds0 reading left lease)
  fair-renew zero lease holds sample all backs same = record { kept = λ j. refl; backs = backs; away = λ j no'. inl refl; clean = inl tt; allowed = inl (harmless.unnamed refl refl) }
  fair-renew (suc left) lease holds sample all backs same =
      by_hold (λ h t b same'. fair-renew left (lease + 1) h t (omega (arith, all)) b same') (holds0 (lease_at lease)) (same lease (omega arith))
    where
      by_hold : (rest : (h : ℕ → Hold) (t : Option ℕ) → Backs s.geometry h known → ((j : ℕ) → lease + 1 ≤ j → h (lease_at j) ≡ holds0 (lease_at j)) →
          Renews h t (renew_process s known holds0 reading left (lease + 1))) (hold : Hold) → holds (lease_at lease) ≡ hold →
          Renews holds sample (renewal s known reading lease hold (renew_process s known holds0 reading left (lease + 1)))
      by_hold rest (Held claim until) is = (
        record { named = tt; spells = tt },
        length-lease (record_is.Claimed claim (later_of until (reading + term))),
        rest _ None (backs-renewed holds lease claim until is backs)
            (λ j past. at-other holds (lease_at lease) (lease_at j) _ (λ e. let f = lease-lease j lease e in omega (arith, f, past)) ∙ same j (omega (arith, past))),
        fair-write_failed s a Renew known no_holds None false known (lease_at lease) refl,
        λ r. fair-lost s a Renew known no_holds None false known _ r,
        refl,
        λ r. refl,
      )
      by_hold rest Nothing is = rest holds sample backs (λ j past. same j (omega (arith, past)))
      by_hold rest (Seen t) is = rest holds sample backs (λ j past. same j (omega (arith, past)))
      by_hold rest (Wrote claim until) is = rest holds sample backs (λ j past. same j (omega (arith, past)))
      by_hold rest (Waited claim until) is = rest holds sample backs (λ j past. same j (omega (arith, past)))

-- ---- every command

module _ (s : Setting) (geometry : IsGeometry s.geometry) (a : ℕ) (small : s.boot < 2 ^ 128) (known : Known) (reading : ℕ) (holds : ℕ → Hold) (hand : List ℕ) (none : NoMap s.geometry hand) (backs : Backs s.geometry holds known)
    (rests : (i : ℕ) → IsRest (holds (lease_at (image_lease i))))
    (limits : (i : ℕ) → i < s.geometry.images → (claim : Claim) (until : ℕ) → holds (lease_at (image_lease i)) ≡ Held claim until → IsClaimed claim until) where
  pub fair-command : (command : Command) → IsWellFormed command → IsBuilt command → reading < 2 ^ 48 →
      Fair s.geometry a command known holds (Some reading) (just_at s.geometry command holds reading) (command_process s known holds hand reading command)
  fair-command (Attach slot) well built early = fair-attach s geometry a known slot.0 reading holds backs small (rests slot.0) (limits slot.0)
  fair-command (Detach slot) well built early = fair-detach s geometry a known slot.0 reading holds backs
  fair-command (Create slot size label) well built early = fair-create s geometry a known slot.0 reading holds backs size label well
  fair-command (Delete slot) well built early = fair-delete s geometry a known slot.0 reading holds backs
  fair-command (Read slot vblock) well built early = fair-read s geometry a known slot.0 reading holds backs vblock
  fair-command (Write slot vblock payload) well built early = fair-write s geometry a known slot.0 reading holds backs vblock payload well
  fair-command (Flush slot) well built early = absurd built
  fair-command (Reserve count) well built early = fair-reserve s geometry a known holds backs hand count (Some reading) false
  fair-command Renew well built early =
      fair-in-time s a Renew known holds (Some reading) false known (attached_uses known holds s.geometry.images 0) reading _
      (λ e. fair-renew s a known holds reading early (lease_count s.geometry) 0 holds (Some reading) (omega arith) backs (λ j past. refl))
  fair-command Retire well built early = fair-retire s geometry a known holds backs hand none (Some reading) false
  fair-command Reclaim well built early = absurd built
