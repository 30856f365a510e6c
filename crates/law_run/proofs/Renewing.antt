-- Renewals.
use Rattle.std.proofs.Common.{◌≡◌, ◌≢◌, ℕ, zero, suc, ◌+◌, ◌≤◌, ◌<◌, ◌^◌, List, [], ◌∷◌, Bool, true, false, Option, Some, None, refl, ap, sym, subst, ◌∙◌, arith, inl, inr}
use Rattle.std.specs.Prelude.{nat_le, if◌then◌else◌}
use Rattle.std.proofs.lemmas.Bool.Decides.{eqb_tells}
use Rattle.plx_base.specs.declared.lease.Claim.{Claim}
use Rattle.plx_base.specs.declared.lease.LeaseName.{LeaseName}
use Rattle.plx_base.specs.declared.lease.LeaseName.TheVariants as lease
use Rattle.plx_base.specs.declared.lease.LeaseRecord.TheVariants as lease_is
use Rattle.plx_base.specs.declared.numbers.SlotNo.{SlotNo}
use Rattle.plx_base.specs.declared.write_kind.WriteKind.TheVariants as kind
use Rattle.plx_commands.specs.declared.command.Command.TheVariants.{Renew}
use Rattle.plx_commands.specs.declared.reply.Reply.TheVariants as reply
use Rattle.plx_disk.specs.declared.ask.Ask.{Ask}
use Rattle.plx_disk.specs.declared.ask.Ask.TheVariants as ask
use Rattle.plx_disk.specs.declared.ask.Answer.TheVariants as answer
use Rattle.plx_gate.specs.Leases.{lease_bytes, read_lease, IsClaimed}
use Rattle.plx_gate.proofs.Leases.{lease-back}
use Rattle.plx_geom.specs.Geometry.{lease_count, image_lease, lease_at}
use Rattle.plx_rules.specs.Commands.{later_of, renewal, renew_process, attached_uses, command_process}
use Rattle.plx_rules.specs.Ends.{ends, lost_process}
use Rattle.plx_rules.specs.Holds.{Hold, Nothing, Seen, Wrote, Waited, Held, hold_after_renewal}
use Rattle.plx_rules.specs.InUse.{InUse, IsNamedFirst, IsUse, lease_name, first_reached, unless_reached}
use Rattle.plx_rules.specs.Session.{Session, Known, nothing_known}
use Rattle.plx_rules.specs.Settings.{Setting}
use Rattle.plx_rules.specs.Times.{term}
use Rattle.law_run.specs.AllowedAsks.{WentOn, renewal_of_lease}
use Rattle.law_run.specs.Bounds.{one_held, count_held}
use Rattle.law_run.specs.Causes.{MayFollow}
use Rattle.law_run.specs.CommandLogs.{Exchange, Finished, IsIn, first_reading}
use Rattle.law_run.specs.Holdings.{at_first, holds_along, holds_after, hold_by_log, claims_in}
use Rattle.law_run.specs.Refusals.{IsExpired, NamesBlock, of_read, of_write, NeedsImage, of_delete, of_block, expired}
use Rattle.law_run.specs.Replies.{refused}
use Rattle.law_run.specs.Sessions.{is_attached}
use Rattle.plx_rules.proofs.Holds.{later-below, later-least}
use Rattle.law_run.proofs.Asking.{IsFine, replied-fine, asks-write}
use Rattle.law_run.proofs.Following.{first-follows}
use Rattle.law_run.proofs.Holding.{hold-after-first, first-more, claims-more}
use Rattle.law_run.proofs.Limits.{Limited, is-limited}
use Rattle.law_run.proofs.Meets.{exchange}
use Rattle.law_run.proofs.OnImage.{passed-sessions, lease-name}
use Rattle.law_run.proofs.Passed.{Passed, passed-at-most}
use Rattle.law_run.proofs.Reached.{OfSession, of-session, session-use}
use Rattle.plx_rules.proofs.InUse.{IsFirstDue, TellsFirstDue, first-tells}
use Rattle.law_run.proofs.Rests.{rests-by, rests-lost}
use Rattle.law_run.proofs.Right.{clock, IsHeld, FitsAt, Rests, finish, log_on, May, Right}
use Rattle.law_run.proofs.Runs.{HasFirst, along-more, start, hand_start}
use Rattle.plx_base.proofs.Tests.{clash}
use Rattle.plx_commands.proofs.Places.{at-other, at-same}
use Rattle.law_lease.proofs.Rests.{in-one, lease-place-found}

-- ---- no other refusal's fact holds of a renewal

no-block : (image v : ℕ) → ¬ NamesBlock Renew image v
no-block image v (of_read other is same) = let P : ⊥ = cc in P
no-block image v (of_write other payload is same) = let P : ⊥ = cc in P

no-image : (image : ℕ) → ¬ NeedsImage Renew image
no-image image (of_delete other is same) = let P : ⊥ = cc in P
no-image image (of_block vblock names) = no-block image vblock names

renew-passed : (s : Setting) (before : List Finished) (done : List Exchange) → ((one : InUse) (reading : ℕ) → ¬ IsExpired s (log_on before Renew done) one reading) →
    Passed s (log_on before Renew done) 11
renew-passed s before done early = record {
  sessions = λ lt image needed. absurd (let P : ⊥ = cc in P);
  unattached = λ lt slot is. absurd (let P : ⊥ = cc in P);
  in_time = λ lt. early;
  slots = λ lt slot is. absurd (let P : ⊥ = cc in P);
  images = λ lt image kept needs found. absurd (no-image image needs);
  free = λ lt slot size label kept is found. absurd (let P : ⊥ = cc in P);
  blocks = λ lt image v kept names found. absurd (no-block image v names);
  sizes = λ lt slot size label is. absurd (let P : ⊥ = cc in P);
  fresh = λ lt slot size label kept is found. absurd (let P : ⊥ = cc in P);
  counted = λ lt slot v payload kept count is found counts. absurd (let P : ⊥ = cc in P);
  claimed = λ lt slot is. absurd (let P : ⊥ = cc in P);
  room = λ lt slot v payload kept count is found counts. absurd (let P : ⊥ = cc in P);
}

-- ---- how many renewals there are

-- one more where a lease is held
abbrev asks_of_hold : Hold → ℕ → ℕ
asks_of_hold Nothing n = n
asks_of_hold (Seen sample) n = n
asks_of_hold (Wrote claim until) n = n
asks_of_hold (Waited claim until) n = n
asks_of_hold (Held claim until) n = suc n

abbrev renewals : (ℕ → Hold) → (left lease : ℕ) → ℕ
renewals holds zero lease = zero
renewals holds (suc left) lease = asks_of_hold (holds (lease_at lease)) (renewals holds left (lease + 1))

asks_of_hold-is : (hold : Hold) (n : ℕ) → asks_of_hold hold n ≡ one_held hold + n
asks_of_hold-is Nothing n = omega arith
asks_of_hold-is (Seen sample) n = omega arith
asks_of_hold-is (Wrote claim until) n = omega arith
asks_of_hold-is (Waited claim until) n = omega arith
asks_of_hold-is (Held claim until) n = omega arith

first-fewer : (attached : Bool) (reading : ℕ) (hold : Hold) → one_held (at_first attached reading hold) ≤ one_held hold
first-fewer true reading Nothing = omega arith
first-fewer true reading (Seen sample) = omega arith
first-fewer true reading (Wrote claim until) = omega arith
first-fewer true reading (Waited claim until) = omega arith
first-fewer true reading (Held claim until) = omega arith
first-fewer false reading Nothing = omega arith
first-fewer false reading (Seen sample) = omega arith
first-fewer false reading (Wrote claim until) = omega arith
first-fewer false reading (Waited claim until) = omega arith
first-fewer false reading (Held claim until) = by-flag (nat_le until reading)
  where
    by-flag : (test : Bool) → one_held (if test then Nothing else Held claim until) ≤ 1
    by-flag true = omega arith
    by-flag false = omega arith

renewals-fewer : (one other : ℕ → Hold) → ((block : ℕ) → one_held (one block) ≤ one_held (other block)) → (left lease : ℕ) → renewals one left lease ≤ count_held other left lease
renewals-fewer one other fewer zero lease = omega arith
renewals-fewer one other fewer (suc left) lease =
    let e = asks_of_hold-is (one (lease_at lease)) (renewals one left (lease + 1)) in
    let rest = renewals-fewer one other fewer left (lease + 1) in
    let here = fewer (lease_at lease) in
    omega arith

-- ---- the renewals, one after another

-- the leases before this one are renewed, where they are held; the others are held as after the first reading
record Renewing (s : Setting) (before : List Finished) (done : List Exchange) (reading lease : ℕ) : Type 0 where
  has : HasFirst done
  first : first_reading done ≡ Some reading
  begun : claims_in s.geometry done ≡ 0
  went : WentOn done
  follows : (a : Ask) → MayFollow s (log_on before Renew done) a
  later : (l : ℕ) → lease ≤ l → hold_by_log s before done l ≡ start s before reading (lease_at l)
  renewed : (l : ℕ) (claim : Claim) (until : ℕ) → l < lease → hold_by_log s before done l ≡ Held claim until →
      (guard : ℕ) × IsIn (exchange (ask.Write kind.Renew (record { 0 = lease_at l }) guard) (lease_bytes (lease_is.Claimed claim until)) answer.Done) done
  kept : (l : ℕ) → IsHeld (start s before reading (lease_at l)) → IsHeld (hold_by_log s before done l)

pub lease-one : (l m : ℕ) → l ≢ m → lease_at l ≢ lease_at m
lease-one l m apart same = apart (omega (arith, same))

-- a renewal that is done
abbrev pub renewal_write : (lease : ℕ) → Claim → (until reading : ℕ) → Exchange
renewal_write lease claim until reading =
    exchange (ask.Write kind.Renew (record { 0 = lease_at lease }) until) (lease_bytes (lease_is.Claimed claim (later_of until (reading + term)))) answer.Done

module _ (s : Setting) (before : List Finished) (done : List Exchange) (lease : ℕ) (claim : Claim) (until reading : ℕ) (small : reading < 2 ^ 48)
    (held : hold_by_log s before done lease ≡ Held claim until) where
  -- it keeps the limits of leases
  pub renewal-limits : IsClaimed claim (later_of until (reading + term))
  renewal-limits =
      let old : IsClaimed claim until = subst Limited held (is-limited s before done lease) in record {
        boot = old.boot;
        number = old.number;
        sample = old.sample;
        low = (let a = old.low in let b = later-least until (reading + term) in omega arith);
        high = later-below until (reading + term) (2 ^ 49) old.high (omega (arith, small));
      }

  -- and from there on the lease is held up to the later moment
  pub held-later : HasFirst done → hold_by_log s before (renewal_write lease claim until reading ∷ done) lease ≡ Held claim (later_of until (reading + term))
  held-later has =
      let H = holds_along s.geometry (is_attached before) (holds_after s.geometry before) done in
      let record' = lease_is.Claimed claim (later_of until (reading + term)) in
      ap (λ (h : ℕ → Hold). h (lease_at lease)) (along-more s.geometry (is_attached before) (holds_after s.geometry before) (renewal_write lease claim until reading) done has)
      ∙ (at-same H (lease_at lease) (hold_after_renewal (read_lease (lease_bytes record'))) ∙ ap hold_after_renewal (lease-back record' renewal-limits))

module _ (s : Setting) (before : List Finished) (known : Known) (reading : ℕ) (rests : Rests s before known) (small : reading < 2 ^ 48) (fine : IsFine s before Renew reading) where
  -- all leases are renewed
  all-renewed : (done : List Exchange) → Renewing s before done reading (lease_count s.geometry) → Right s before Renew done (ends reply.Renewed known) 0
  all-renewed done r = (
    replied-fine s before Renew reading fine done r.first reply.Renewed (record { command = refl; renewed = λ l claim until within held. r.renewed l claim until within held }),
    rests-by s before Renew done reply.Renewed known known s.geometry.images (λ other apart. refl) (λ other apart. refl) (λ other b apart. refl) (λ h. refl)
        (λ other apart within attached held. r.kept (image_lease other) (held.0, held.1, hold-after-first s before reading other held.0 held.1 within attached held.2))
        (past (known.sessions s.geometry.images) (rests.sessions s.geometry.images))
        (let c = rests.claims in let b = r.begun in omega arith) rests,
  )
    where
      past : (found : Option Session) → FitsAt s before s.geometry.images found → FitsAt s (finish Renew done reply.Renewed ∷ before) s.geometry.images found
      past None fits = fits
      past (Some session) fits = absurd (let within = fits.1.within in omega arith)

  -- one renewal
  one-renewal : (done : List Exchange) (lease : ℕ) (claim : Claim) (until : ℕ) → lease < lease_count s.geometry → Renewing s before done reading lease →
      hold_by_log s before done lease ≡ Held claim until →
      Renewing s before (renewal_write lease claim until reading ∷ done) reading (lease + 1)
  one-renewal done lease claim until within r held =
      let next = later_of until (reading + term) in
      let bytes = lease_bytes (lease_is.Claimed claim next) in
      let x = renewal_write lease claim until reading in
      let H = holds_along s.geometry (is_attached before) (holds_after s.geometry before) done in
      let step : (l : ℕ) → hold_by_log s before (x ∷ done) l ≡ _ =
      λ l. ap (λ (h : ℕ → Hold). h (lease_at l)) (along-more s.geometry (is_attached before) (holds_after s.geometry before) x done r.has) in
      let here : hold_by_log s before (x ∷ done) lease ≡ Held claim next = held-later s before done lease claim until reading small held r.has in
      let apart : (l : ℕ) → l ≢ lease → hold_by_log s before (x ∷ done) l ≡ hold_by_log s before done l =
      λ l ne. step l ∙ at-other H (lease_at lease) (lease_at l) (hold_after_renewal (read_lease bytes)) (lease-one l lease ne) in
      record {
        has = tt;
        first = first-more done x reading r.first;
        begun = claims-more s.geometry done x refl ∙ r.begun;
        went = (tt, r.went);
        follows = λ a. tt;
        later = λ l le. apart l (λ e. (let P : ⊥ = omega arith in P)) ∙ r.later l (omega arith);
        renewed = λ l claim' until' lt h. elim (eqb_tells l lease) [
          | inl same ↦
              let mine : hold_by_log s before (x ∷ done) lease ≡ Held claim' until' = subst (λ n. hold_by_log s before (x ∷ done) n ≡ Held claim' until') same.1 h in
              let e : Held claim next ≡ Held claim' until' = sym here ∙ mine in
              let c : claim ≡ claim' = cc in
              let u : next ≡ until' = cc in
              (until, inl (λ i. exchange (ask.Write kind.Renew (record { 0 = lease_at (same.1 i) }) until) (lease_bytes (lease_is.Claimed (sym c i) (sym u i))) answer.Done))
          | inr ne ↦
              let before' = r.renewed l claim' until' (omega (arith, ne.1)) (sym (apart l ne.1) ∙ h) in
              (before'.0, inr before'.1)
        ];
        kept = λ l h. elim (eqb_tells l lease) [
          | inl same ↦ subst (λ n. IsHeld (hold_by_log s before (x ∷ done) n)) (sym same.1) (claim, next, here)
          | inr ne ↦ (let k = r.kept l h in (k.0, k.1, apart l ne.1 ∙ k.2))
        ];
      }

  -- a lease that isn't held is passed over
  none-held : (done : List Exchange) (lease : ℕ) → Renewing s before done reading lease → ((claim : Claim) (until : ℕ) → ¬ (hold_by_log s before done lease ≡ Held claim until)) →
      Renewing s before done reading (lease + 1)
  none-held done lease r none = record {
    has = r.has;
    first = r.first;
    begun = r.begun;
    went = r.went;
    follows = r.follows;
    later = λ l le. r.later l (omega arith);
    renewed = λ l claim until lt h. elim (eqb_tells l lease) [
      | inl same ↦ absurd (none claim until (subst (λ n. hold_by_log s before done n ≡ Held claim until) same.1 h))
      | inr ne ↦ r.renewed l claim until (omega (arith, ne.1)) h
    ];
    kept = r.kept;
  }

  renews : (left lease : ℕ) (done : List Exchange) → left + lease ≡ lease_count s.geometry → Renewing s before done reading lease →
      Right s before Renew done (renew_process s known (start s before reading) reading left lease) (renewals (start s before reading) left lease)
  renews zero lease done all r = all-renewed done (subst (λ l. Renewing s before done reading l) (let e : lease ≡ lease_count s.geometry = omega arith in e) r)
  renews (suc left) lease done all r = by-hold (start s before reading (lease_at lease)) (r.later lease (omega arith)) (λ done' r'. renews left (lease + 1) done' (omega arith) r')
    where
      by-hold : (hold : Hold) → hold_by_log s before done lease ≡ hold →
          ((done' : List Exchange) → Renewing s before done' reading (lease + 1) →
          Right s before Renew done' (renew_process s known (start s before reading) reading left (lease + 1)) (renewals (start s before reading) left (lease + 1))) →
          Right s before Renew done (renewal s known reading lease hold (renew_process s known (start s before reading) reading left (lease + 1)))
          (asks_of_hold hold (renewals (start s before reading) left (lease + 1)))
      by-hold (Held claim until) held rest =
          asks-write (May s before Renew) s before known Renew reading fine done lease until kind.Renew (lease_at lease) (lease_bytes (lease_is.Claimed claim (later_of until (reading + term))))
          (renew_process s known (start s before reading) reading left (lease + 1)) (renewals (start s before reading) left (lease + 1)) r.first
          (let c = rests.claims in let b = r.begun in omega arith) (λ y e. claims-more s.geometry done y (rw e refl)) (omega arith) (in-one lease _ (sym (lease-place-found lease)))
          ((r.went, renewal_of_lease lease claim reading (omega arith) refl held r.first (renewal-limits s before done lease claim until reading small held) refl), r.follows _)
          (rest _ (one-renewal done lease claim until (omega arith) r held))
      by-hold Nothing held rest = rest done (none-held done lease r (λ claim until h. (let P : ⊥ = cc in P)))
      by-hold (Seen sample) held rest = rest done (none-held done lease r (λ claim until h. (let P : ⊥ = cc in P)))
      by-hold (Wrote c u) held rest = rest done (none-held done lease r (λ claim until h. (let P : ⊥ = cc in P)))
      by-hold (Waited c u) held rest = rest done (none-held done lease r (λ claim until h. (let P : ⊥ = cc in P)))

-- ---- the first reading

module _ (s : Setting) (before : List Finished) (known : Known) (reading : ℕ) (rests : Rests s before known) where
  -- an attached image has a session, and its lease is held as before
  attached-use : (image : ℕ) (found : Option Session) → known.sessions image ≡ found → FitsAt s before image found → is_attached before image ≡ true →
      (session : Session) × (known.sessions image ≡ Some session) × (image < s.geometry.images)
  attached-use image None is fits attached = absurd (clash (is_attached before image) attached fits)
  attached-use image (Some session) is fits attached = (session, is, fits.1.within)

  -- an expired lease is one of those in use
  expired-use : (done : List Exchange) (one : InUse) (reading' : ℕ) → IsExpired s (log_on before Renew done) one reading' →
      IsUse one (attached_uses known (start s before reading) s.geometry.images 0)
  expired-use done one reading' is =
      let image = is.image in
      let a = attached-use image (known.sessions image) refl (rests.sessions image) is.attached in
      let held : holds_after s.geometry before (lease_at (image_lease image)) ≡ Held is.claim one.until = ap (λ l. holds_after s.geometry before (lease_at l)) (sym is.is) ∙ is.held in
      subst (λ l. IsUse (record { lease = l; until = one.until }) (attached_uses known (start s before reading) s.geometry.images 0)) (sym is.is)
      (session-use known (start s before reading) s.geometry.images 0 image a.0 is.claim one.until (omega arith) (let w = a.2 in omega arith) a.1
      (hold-after-first s before reading image is.claim one.until a.2 is.attached held))

  -- what the one to be named tells
  due-expired : (due : InUse) → IsFirstDue (attached_uses known (start s before reading) s.geometry.images 0) reading due → (left : ℕ) →
      Right s before Renew (clock reading ∷ []) (lost_process s known due reading) left
  due-expired due f left =
      let o = of-session known (start s before reading) s.geometry.images 0 due f.among in
      by-session o (rests.sessions o.image)
    where
      by-session : (o : OfSession known (start s before reading) 0 due) → FitsAt s before o.image (known.sessions o.image) → Right s before Renew (clock reading ∷ []) (lost_process s known due reading) left
      by-session o at_image =
          let fits = subst (λ (found : Option Session). FitsAt s before o.image found) o.has at_image in
          let h = fits.2 in
          let now = hold-after-first s before reading o.image h.0 h.1 fits.1.within fits.0 h.2 in
          let e : Held h.0 h.1 ≡ Held o.claim due.until = sym now ∙ o.held in
          let u : h.1 ≡ due.until = cc in
          let held : holds_after s.geometry before (lease_at (image_lease o.image)) ≡ Held h.0 due.until = h.2 ∙ ap (Held h.0) u in
          let name : lease_name s.geometry due.lease ≡ lease.Image (record { 0 = o.image }) = ap (lease_name s.geometry) o.is ∙ lease-name s.geometry o.image fits.1.within in
          let slot : SlotNo = record { 0 = o.image } in
          subst (λ (n : LeaseName). Right s before Renew (clock reading ∷ []) (ends (reply.Lost n due.until reading) (nothing_known known.claims)) left) (sym name) (
            refused 3 (reading, refl)
                (expired slot (record { image = o.image; is = refl; used = refl; attached = fits.0; claim = h.0; held = held; first = refl; reached = f.past })
                (λ other is. subst (λ l. IsNamedFirst (record { lease = l; until = due.until }) other) o.is (f.first other (expired-use (clock reading ∷ []) other reading is) is.reached)))
                (λ p other refuses. passed-at-most s (log_on before Renew (clock reading ∷ [])) 3 p other
                (passed-sessions s _ (λ image needed. absurd (let P : ⊥ = cc in P)) (λ n is. absurd (let P : ⊥ = cc in P))) refuses),
            rests-lost s before Renew (clock reading ∷ []) (lease.Image slot) due.until reading known.claims (let c = rests.claims in omega arith),
          )

  -- a reading below the end of each lease in use
  fine-early : ((one : InUse) → IsUse one (attached_uses known (start s before reading) s.geometry.images 0) → reading < one.until) → IsFine s before Renew reading
  fine-early early done first = renew-passed s before done (λ one reading' is. (
      let below = early one (expired-use done one reading' is) in
      let e : Some reading ≡ Some reading' = sym first ∙ is.first in
      let same : reading ≡ reading' = cc in
      let past = is.reached in
      omega arith))

  by-due : reading < 2 ^ 48 → (found : Option InUse) → TellsFirstDue (attached_uses known (start s before reading) s.geometry.images 0) reading found →
      Right s before Renew (clock reading ∷ [])
      (unless_reached found (λ due. lost_process s known due reading) (renew_process s known (start s before reading) reading (lease_count s.geometry) 0))
      (renewals (start s before reading) (lease_count s.geometry) 0)
  by-due small (Some due) tells = due-expired due tells (renewals (start s before reading) (lease_count s.geometry) 0)
  by-due small None tells =
      renews s before known reading rests small (fine-early tells) (lease_count s.geometry) 0 (clock reading ∷ []) (omega arith) (record {
        has = tt;
        first = refl;
        begun = refl;
        went = (tt, tt);
        follows = first-follows s before Renew reading (fine-early tells) (λ image until named is. (let P : ⊥ = cc in absurd P));
        later = λ l le. refl;
        renewed = λ l claim until lt h. absurd (omega arith);
        kept = λ l h. h;
      })

pub renew-begins : (s : Setting) (before : List Finished) (known : Known) (reading : ℕ) → Rests s before known → reading < 2 ^ 48 →
    (left : ℕ) × (left ≤ count_held (holds_after s.geometry before) (lease_count s.geometry) 0)
    × Right s before Renew (clock reading ∷ []) (command_process s known (start s before reading) (hand_start s before reading) reading Renew) left
renew-begins s before known reading rests small = (
  renewals (start s before reading) (lease_count s.geometry) 0,
  renewals-fewer (start s before reading) (holds_after s.geometry before) (λ block. first-fewer _ reading (holds_after s.geometry before block)) (lease_count s.geometry) 0,
  by-due s before known reading rests small (first_reached (attached_uses known (start s before reading) s.geometry.images 0) reading)
      (first-tells (attached_uses known (start s before reading) s.geometry.images 0) reading),
)
