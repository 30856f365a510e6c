-- An attach is fair, whoever owns the lease of its image.
use Rattle.std.proofs.Common.{◌≡◌, ℕ, zero, suc, ◌+◌, ◌^◌, ◌<◌, inl, inr, List, [], ◌∷◌, Bool, true, false, Option, Some, None, refl, ap, sym, subst, ◌∙◌, arith}
use Rattle.std.specs.Prelude.{is_some, ◌&&◌, if◌then◌else◌, nat_lt, nat_le}
use Rattle.std.specs.Str.{bytes_eq}
use Rattle.std.proofs.lemmas.Bool.Decides.{eqb_tells, leb_tells}
use Rattle.std.proofs.lemmas.Slice.Eq.{bytes_eq-Decides}
use Rattle.plx_base.specs.declared.lease.Claim.{Claim}
use Rattle.plx_base.specs.declared.lease.LeaseRecord.{LeaseRecord}
use Rattle.plx_base.specs.declared.lease.LeaseRecord.TheVariants.{Claimed}
use Rattle.plx_commands.specs.Limits.{last_claim}
use Rattle.plx_commands.specs.Places.{at}
use Rattle.plx_commands.specs.declared.command.Command.{Command}
use Rattle.plx_commands.specs.declared.command.Command.TheVariants.{Attach}
use Rattle.plx_commands.specs.declared.reply.Reply.TheVariants as reply
use Rattle.plx_commands.proofs.Places.{at-same, at-other}
use Rattle.plx_gate.specs.Leases.{lease_bytes, read_lease, IsClaimed}
use Rattle.plx_gate.specs.declared.image.ImageRecord.{ImageRecord}
use Rattle.plx_geom.specs.Geometry.{IsGeometry, image_lease, lease_at, record_at, descriptor_at, data_at}
use Rattle.plx_geom.proofs.Places.{image-below, lease-record, lease-data, lease-descriptor}
use Rattle.plx_base.proofs.Tests.{nat_lt-true, nat_le-true}
use Rattle.plx_rules.specs.Process.{Process, Ends, UntilThen}
use Rattle.plx_rules.specs.Journaled.{Journaled}
use Rattle.plx_rules.specs.Attaching.{image_use, attach_ends, after_load, load_journal, after_record, load_image, after_claim, claim_image, attach_held}
use Rattle.plx_rules.specs.Claims.{ClaimEnd, ClaimBusy, ClaimLost, claim_of, end_of_term, own_record, own_use, claim_in_time, reread_by, reread_process, written_process, if_expired, seen_process}
use Rattle.plx_rules.specs.Ends.{End, read_failed, damaged_process}
use Rattle.plx_rules.specs.Holds.{Hold, Nothing, Seen, Wrote, Waited, Held, no_holds, hold_after_read, hold_after_reread, hold_after_reading, hold_after_claim}
use Rattle.plx_rules.specs.InUse.{InUse, lease_name, first_reached, unless_reached}
use Rattle.plx_rules.specs.Journal.{Finding, Outside, Unused, Counts, finding}
use Rattle.plx_rules.specs.Loading.{LoadEnd, load_found, load_process, gap_found}
use Rattle.plx_rules.specs.Processes.{followed_by}
use Rattle.plx_rules.specs.Records.{is_live, applied_of, attached_record}
use Rattle.plx_rules.specs.Session.{Session, Known, with_session, with_write_by_number, first_gap, session_report}
use Rattle.plx_rules.specs.Settings.{Setting}
use Rattle.plx_rules.specs.Times.{wait, is_expired}
use Rattle.law_lease.proofs.LawfulCommands.{IsRest}
use Rattle.law_headline.proofs.FairProcesses.{read-stays-held, lease-image, backs-read, backs-timed, backs-at, backs-with, unreached-tells, IsFair, fair-still, fair-lost, fair-write_failed, fair-ends}
use Rattle.law_headline.proofs.Harmless.{Harmless}
use Rattle.law_headline.proofs.Harmless as harmless
use Rattle.law_headline.proofs.Held.{IsSpelled, Without, attached_of, HeldProcess, Backs, just_at}
use Rattle.law_headline.proofs.HeldCommands.{slot_no, load-attaches}
use Rattle.plx_gate.proofs.Leases.{lease-back, length-lease}
use Rattle.law_headline.proofs.Journals.{IsJournal}

module _ (s : Setting) (geometry : IsGeometry s.geometry) (a : ℕ) (small : s.boot < 2 ^ 128) (known : Known) (i : ℕ) (within : i < s.geometry.images) (none : known.sessions i ≡ None) where
  abbrev attaches : Command
  attaches = Attach (slot_no i)

  abbrev block : ℕ
  block = lease_at (image_lease i)

  -- these sessions, after so many claims
  abbrev knowing : ℕ → Known
  knowing n = record { sessions = known.sessions; claims = n }

  abbrev Fairly : (ℕ → Hold) → Option ℕ → Bool → Process End → Type 0
  Fairly holds sample just process = IsFair s a attaches known holds sample just process

  fair-read_failed : (holds : ℕ → Hold) (sample : Option ℕ) (just : Bool) (n b : ℕ) → Backs s.geometry holds known → Fairly holds sample just (read_failed b (knowing n))
  fair-read_failed holds sample just n b backs = fair-still s a attaches known holds sample just (knowing n) (reply.ReadFault (record { 0 = b })) refl (λ j. refl) backs tt (harmless.still (harmless.free refl refl refl refl) refl)

  -- bytes outside the format, read under the image's lease
  fair-damaged : (holds : ℕ → Hold) (sample : Option ℕ) (just : Bool) (n b : ℕ) (claim : Claim) (until : ℕ) → Backs s.geometry holds known → holds block ≡ Held claim until →
      Fairly holds sample just (damaged_process s (knowing n) (image_use i until) b)
  fair-damaged holds sample just n b claim until backs held =
      fair-ends s a attaches known i holds sample just (knowing n) (knowing n) claim until (reply.Damaged (record { 0 = b })) refl within held (λ j. refl)
      (λ r. backs-timed s.geometry known holds r backs) (λ j no'. inl refl)

  attached-sessions : (t : Session) (j : ℕ) → is_some (at known.sessions i (Some t) j) ≡ at (attached_of known) i true j
  attached-sessions t j = elim (eqb_tells j i) [ inl same ↦ rw same.0 refl | inr away ↦ rw away.0 refl ]

  fair-attached : (n : ℕ) (claim : Claim) (until : ℕ) (t : Session) (holds : ℕ → Hold) (sample : Option ℕ) (just : Bool) → Backs s.geometry holds known →
      holds block ≡ Held claim until → IsClaimed claim until → Fairly holds sample just (attach_ends s (knowing n) i until t)
  fair-attached n claim until t holds sample just backs held limits =
      fair-ends s a attaches known i holds sample just (knowing n) (with_session (knowing n) i (Some t)) claim until (reply.Attached (session_report t)) refl within held (attached-sessions t)
      (λ r. backs-with s.geometry known (λ k. hold_after_reading r (holds k)) i t (record { within = within; claim = claim; until = until; held = ap (hold_after_reading r) held; limits = limits }) (backs-timed s.geometry known holds r backs))
      (λ j no'. inl (at-other known.sessions i j (Some t) (λ e. no' (inl (sym e)))))

  -- ---- the journal and the record

  module _ (n : ℕ) (claim : Claim) (until : ℕ) (limits : IsClaimed claim until) (kept : ImageRecord) where
    abbrev Loads : (ℕ → Hold) → Option ℕ → Bool → Process LoadEnd → Type 0
    Loads holds sample just process = Fairly holds sample just (followed_by process (after_load s (knowing n) i until kept))

    fair-found : (b : ℕ) (found : Finding) (holds : ℕ → Hold) (unused : Process LoadEnd) (counts : ℕ → ℕ → Process LoadEnd) → Backs s.geometry holds known → holds block ≡ Held claim until → Loads holds None false unused →
        ((number vblock : ℕ) → Loads holds None false (counts number vblock)) → Loads holds None false (load_found b found unused counts)
    fair-found b Outside holds unused counts backs held l r = fair-damaged holds None false n b claim until backs held
    fair-found b Unused holds unused counts backs held l r = l
    fair-found b (Counts d) holds unused counts backs held l r = r d.number d.vblock

    fair-gap : (writes : List Journaled) (gap : Option ℕ) (holds : ℕ → Hold) (sample : Option ℕ) (just : Bool) → Backs s.geometry holds known → holds block ≡ Held claim until →
        Fairly holds sample just (after_load s (knowing n) i until kept (gap_found s.geometry i writes gap))
    fair-gap writes None holds sample just backs held = fair-attached n claim until (record { image = kept; writes = writes }) holds sample just backs held limits
    fair-gap writes (Some number) holds sample just backs held = fair-damaged holds sample just n _ claim until backs held

    fair-load : (left slot : ℕ) (writes : List Journaled) (holds : ℕ → Hold) (sample : Option ℕ) (just : Bool) → Backs s.geometry holds known →
        holds block ≡ Held claim until → Loads holds sample just (load_process s.geometry i kept left slot writes)
    fair-load zero slot writes holds sample just backs held = fair-gap writes (first_gap (applied_of kept) writes) holds sample just backs held
    fair-load (suc left) slot writes holds sample just backs held = (
      λ bytes spelled.
          let h = at holds (descriptor_at s.geometry i slot) (hold_after_read sample bytes (holds (descriptor_at s.geometry i slot))) in
          let backs' = backs-read s.geometry known holds (descriptor_at s.geometry i slot) sample bytes backs in
          let held' = read-stays-held holds (descriptor_at s.geometry i slot) block sample bytes claim until held in
          fair-found (descriptor_at s.geometry i slot) (finding kept s.geometry.slots slot bytes) h _ _ backs' held'
          (fair-load left (slot + 1) writes h None false backs' held')
          (λ number vblock. (
            λ data' spelled'. fair-load left (slot + 1) (with_write_by_number (record { number = number; vblock = vblock; block = data' }) writes) _ None false
                (backs-read s.geometry known h (data_at s.geometry i slot) None data' backs') (read-stays-held h (data_at s.geometry i slot) block None data' claim until held'),
            fair-read_failed h None false n (data_at s.geometry i slot) backs',
            λ k c u below e w. absurd (lease-data s.geometry (image_lease k) i slot (image-below s.geometry k below) (sym e)),
          )),
      fair-read_failed holds None false n (descriptor_at s.geometry i slot) backs,
      λ k c u below e w. absurd (lease-descriptor s.geometry (image_lease k) i slot (image-below s.geometry k below) (sym e)),
    )

    fair-journal : (live : Bool) (holds : ℕ → Hold) (sample : Option ℕ) (just : Bool) → Backs s.geometry holds known → holds block ≡ Held claim until →
        Fairly holds sample just (load_journal s (knowing n) i until kept live)
    fair-journal true holds sample just backs held = fair-load s.geometry.slots 0 [] holds sample just backs held
    fair-journal false holds sample just backs held = fair-attached n claim until (record { image = kept; writes = [] }) holds sample just backs held limits

  fair-record_read : (n : ℕ) (claim : Claim) (until : ℕ) (found : Option ImageRecord) (holds : ℕ → Hold) (sample : Option ℕ) (just : Bool) → Backs s.geometry holds known →
      holds block ≡ Held claim until → IsClaimed claim until → Fairly holds sample just (after_record s (knowing n) i until found)
  fair-record_read n claim until None holds sample just backs held limits = fair-damaged holds sample just n (record_at s.geometry i) claim until backs held
  fair-record_read n claim until (Some kept) holds sample just backs held limits = fair-journal n claim until limits kept (is_live kept) holds sample just backs held

  pub fair-image : (n : ℕ) (claim : Claim) (until : ℕ) (holds : ℕ → Hold) (sample : Option ℕ) (just : Bool) → Backs s.geometry holds known →
      holds block ≡ Held claim until → IsClaimed claim until → Fairly holds sample just (load_image s (knowing n) i until)
  fair-image n claim until holds sample just backs held limits = (
    λ bytes spelled. fair-record_read n claim until (attached_record bytes) _ None false (backs-read s.geometry known holds (record_at s.geometry i) sample bytes backs)
        (read-stays-held holds (record_at s.geometry i) block sample bytes claim until held) limits,
    fair-read_failed holds None false n (record_at s.geometry i) backs,
    λ k c u below e w. absurd (lease-record s.geometry (image_lease k) i (image-below s.geometry k below) (sym e)),
  )

  -- ---- the claim

  -- the lease's block is read back
  lease-read : (bytes : List ℕ) → IsSpelled s.geometry block bytes → (r : LeaseRecord) × (read_lease bytes ≡ Some r)
  lease-read bytes spelled =
      let r = spelled.lease (image_lease i) (image-below s.geometry i within) refl in
      (r.0, ap read_lease r.1 ∙ lease-back r.0 r.2)

  module _ (n : ℕ) where
    abbrev Claims : (ℕ → Hold) → Option ℕ → Bool → Process ClaimEnd → Type 0
    Claims holds sample just process = Fairly holds sample just (followed_by process (after_claim s (knowing n) i))

    -- a reading of the claim
    fair-claim_in_time : (uses : List InUse) (reading : ℕ) (holds : ℕ → Hold) (sample : Option ℕ) (just : Bool) (rest : Process ClaimEnd) → (first_reached uses reading ≡ None → Claims holds sample just rest) →
        Claims holds sample just (claim_in_time uses reading rest)
    fair-claim_in_time uses reading holds sample just rest fair = by_reached (first_reached uses reading) refl
      where
        by_reached : (o : Option InUse) → first_reached uses reading ≡ o → Claims holds sample just (unless_reached o (λ due. Ends (ClaimLost due reading)) rest)
        by_reached None e = fair e
        by_reached (Some due) e = fair-lost s a attaches known holds sample just (knowing n) due reading

    fair-busy : (holds : ℕ → Hold) (sample : Option ℕ) (just : Bool) (seen : LeaseRecord) → Backs s.geometry holds known → Claims holds sample just (Ends (ClaimBusy seen))
    fair-busy holds sample just seen backs =
        fair-still s a attaches known holds sample just (knowing n) (reply.Busy (lease_name s.geometry (image_lease i)) seen) refl (λ j. refl) backs tt (harmless.still (harmless.free refl refl refl refl) refl)

    module _ (number sample : ℕ) (few : number < 2 ^ 40) (early : sample < 2 ^ 48) where
      abbrev claim : Claim
      claim = claim_of s.boot number sample

      abbrev own : List ℕ
      own = lease_bytes (own_record claim)

      abbrev uses : List InUse
      uses = own_use (image_lease i) claim ∷ []

      limits : IsClaimed claim (end_of_term claim)
      limits = record { boot = small; number = few; sample = early; low = omega arith; high = omega (arith, early) }

      -- the reread of a claim that has waited
      fair-reread : (holds : ℕ → Hold) (before : Option ℕ) (just : Bool) → Backs s.geometry holds known → holds block ≡ Waited claim (end_of_term claim) →
          Claims holds before just (reread_process uses (image_lease i) claim)
      fair-reread holds before just backs waited = (
        λ bytes spelled.
            let h = at holds block (hold_after_read before bytes (holds block)) in
            let r = lease-read bytes spelled in
            by_test bytes h (bytes_eq bytes own) (read_lease bytes) r.0 r.1 (at-same holds block (hold_after_read before bytes (holds block)) ∙ ap (hold_after_read before bytes) waited)
            (backs-read s.geometry known holds block before bytes backs),
        fair-read_failed holds None false n block backs,
        λ k c u below e w.
            let same : i ≡ k = lease-image i k e in
            let at-i : holds block ≡ Waited c u = ap holds e ∙ w in
            let f : Waited claim (end_of_term claim) ≡ Waited c u = sym waited ∙ at-i in
            let fc : claim ≡ c = cc in
            let fu : end_of_term claim ≡ u = cc in (
              (λ j. Attach (slot_no (same j))),
              λ device kept writes journal.
                  let next : List ℕ → Process End = λ bytes. followed_by (reread_by (bytes_eq bytes own) uses claim (read_lease bytes)) (after_claim s (knowing n) i) in
                  let P : Bool → Type 0 = λ b. HeldProcess s.geometry a i attaches known (Without kept writes) (followed_by (reread_by b uses claim (read_lease own)) (after_claim s (knowing n) i)) device in
                  let here : P (bytes_eq own own) =
                  subst P (sym ((bytes_eq-Decides own own).1 refl)) (load-attaches s a i within geometry.slots_high known device kept writes
                  (let J : ℕ → Type 0 = λ x. IsJournal s.geometry device x kept writes in subst J (sym same) journal) none (knowing n) (end_of_term claim) none) in
                  let R : LeaseRecord → Type 0 = λ r. HeldProcess s.geometry a i attaches known (Without kept writes) (next (lease_bytes r)) device in
                  let Q : ℕ → Type 0 = λ x. HeldProcess s.geometry a x attaches known (Without kept writes) (next (lease_bytes (Claimed c u))) device in
                  subst Q same (subst R (λ j. Claimed (fc j) (fu j)) here),
            ),
      )
        where
          by_test : (bytes : List ℕ) (h : ℕ → Hold) (b : Bool) (found : Option LeaseRecord) (r : LeaseRecord) → found ≡ Some r → h block ≡ hold_after_reread b (Held claim (end_of_term claim)) → Backs s.geometry h known →
              Claims h None false (reread_by b uses claim found)
          by_test bytes h true found r e is backs' = fair-image n claim (end_of_term claim) h None false backs' is limits
          by_test bytes h false None r e is backs' = absurd (let P : ⊥ = cc in P)
          by_test bytes h false (Some seen) r e is backs' = fair-busy h None false seen backs'

      -- the wait of a claim that was written
      fair-wait : (holds : ℕ → Hold) (before : Option ℕ) (just : Bool) → Backs s.geometry holds known → holds block ≡ Wrote claim (end_of_term claim) →
          Claims holds before just (UntilThen (sample + wait) (λ reading. claim_in_time uses reading (reread_process uses (image_lease i) claim)))
      fair-wait holds before just backs wrote' = λ reading past early'.
          let h : ℕ → Hold = λ k. hold_after_reading reading (holds k) in
          fair-claim_in_time uses reading h (Some reading) (just_at s.geometry attaches h reading) (reread_process uses (image_lease i) claim)
          (λ e. fair-reread h (Some reading) (just_at s.geometry attaches h reading) (backs-timed s.geometry known holds reading backs)
          (ap (hold_after_reading reading) wrote' ∙ ap (λ (b : Bool). if b then Waited claim (end_of_term claim) else Wrote claim (end_of_term claim))
          (both (nat_le (sample + wait) reading) (nat_lt reading (end_of_term claim)) (nat_le-true (sample + wait) reading past)
          (nat_lt-true reading (end_of_term claim) (unreached-tells i (end_of_term claim) reading e)))))
        where
          both : (x y : Bool) → x ≡ true → y ≡ true → (x && y) ≡ true
          both x y ex ey = rw (ex, ey) refl

      fair-seen : (found : Option LeaseRecord) (r : LeaseRecord) (holds : ℕ → Hold) (just : Bool) → found ≡ Some r → Backs s.geometry holds known → Claims holds None just (seen_process [] (image_lease i) claim found)
      fair-seen None r holds just e backs = absurd (let P : ⊥ = cc in P)
      fair-seen (Some seen) r holds just e backs = by_test (is_expired seen sample)
        where
          by_test : (b : Bool) → Claims holds None just (if_expired b seen (written_process [] (image_lease i) claim))
          by_test false = fair-busy holds None just seen backs
          by_test true = (
            record { named = tt; spells = tt },
            length-lease (own_record claim),
            fair-wait _ None false (backs-at s.geometry known holds i _ none backs) (at-same holds block (hold_after_claim (read_lease own)) ∙ ap hold_after_claim (lease-back (own_record claim) limits)),
            fair-write_failed s a attaches known no_holds None false (knowing n) block refl,
            λ reading. fair-lost s a attaches known no_holds None false (knowing n) _ reading,
            refl,
            λ reading. refl,
          )

  fair-claim : (enough : Bool) (holds : ℕ → Hold) (sample : Option ℕ) (just : Bool) → nat_lt known.claims last_claim ≡ enough → Backs s.geometry holds known → holds block ≡ Nothing →
      Fairly holds sample just (claim_image enough s known i)
  fair-claim false holds sample just e backs is = fair-still s a attaches known holds sample just (knowing known.claims) (reply.WornOut last_claim) refl (λ j. refl) backs tt (harmless.still (harmless.worn refl refl) refl)
  fair-claim true holds sample just e backs is = λ reading early.
      let h : ℕ → Hold = λ k. hold_after_reading reading (holds k) in
      let backs' = backs-timed s.geometry known holds reading backs in (
        λ bytes spelled. let r = lease-read bytes spelled in fair-seen (known.claims + 1) known.claims reading
            (elim (leb_tells (suc known.claims) last_claim) [ inl below ↦ omega (arith, below.1) | inr not' ↦ absurd (let f : true ≡ false = sym e ∙ not'.0 in let P : ⊥ = cc in P) ])
            early (read_lease bytes) r.0 _ false r.1 (backs-read s.geometry known h block (Some reading) bytes backs'),
        fair-read_failed h None false (known.claims + 1) block backs',
        λ k c u below e' w.
            let at-i : h block ≡ Waited c u = ap h e' ∙ w in
            absurd (let f : Nothing ≡ Waited c u = sym (ap (hold_after_reading reading) is) ∙ at-i in let P : ⊥ = cc in P),
      )

  -- the image has no session
  pub fair-unattached : (hold : Hold) (holds : ℕ → Hold) (sample : Option ℕ) (just : Bool) → holds block ≡ hold → IsRest hold → ((claim : Claim) (until : ℕ) → holds block ≡ Held claim until → IsClaimed claim until) →
      Backs s.geometry holds known → Fairly holds sample just (attach_held s known i hold)
  fair-unattached (Held claim until) holds sample just is rest within_limits backs = fair-image known.claims claim until holds sample just backs is (within_limits claim until is)
  fair-unattached Nothing holds sample just is rest within_limits backs = fair-claim (nat_lt known.claims last_claim) holds sample just refl backs is
  fair-unattached (Seen t) holds sample just is rest within_limits backs = absurd rest
  fair-unattached (Wrote c u) holds sample just is rest within_limits backs = absurd rest
  fair-unattached (Waited c u) holds sample just is rest within_limits backs = absurd rest
