-- What makes a command fair, whoever owns the lease of its image: what is held, its ends, and its last reading.
use Rattle.std.proofs.Common.{◌≡◌, ◌≢◌, ℕ, ◌+◌, ◌-◌, ◌<◌, ◌⊎◌, inl, inr, List, [], ◌∷◌, Bool, true, Option, Some, None, refl, ap, sym, subst, ◌∙◌, arith}
use Rattle.std.specs.Prelude.{is_some, ◌&&◌, if◌then◌else◌, nat_lt}
use Rattle.std.proofs.lemmas.Bool.Decides.{eqb_tells, leb_tells}
use Rattle.plx_base.specs.declared.lease.Claim.{Claim}
use Rattle.plx_commands.specs.Places.{at}
use Rattle.plx_commands.specs.Replies.{is_in, row}
use Rattle.plx_commands.specs.Slots.{named_slots}
use Rattle.plx_commands.specs.declared.command.Command.{Command}
use Rattle.plx_commands.specs.declared.reply.Reply.{Reply}
use Rattle.plx_commands.proofs.Places.{at-same, at-other}
use Rattle.plx_geom.specs.Geometry.{Geometry, image_lease, lease_at}
use Rattle.plx_geom.proofs.Places.{lease-lease, image-image}
use Rattle.plx_base.proofs.Tests.{nat_lt-true, nat_le-true}
use Rattle.plx_rules.specs.Process.{Process}
use Rattle.plx_rules.specs.Attaching.{image_use}
use Rattle.plx_rules.specs.Ends.{End, ends, lost_process, write_failed, in_time, ends_in_time}
use Rattle.plx_rules.specs.Headline.{IsUndamaged}
use Rattle.plx_rules.specs.Holds.{Hold, Held, no_holds, after_first, first_hold, session_at, hold_after_read, hold_after_reading, holds_after_reply}
use Rattle.plx_rules.specs.InUse.{InUse, first_reached, unless_reached, earlier}
use Rattle.plx_rules.specs.Session.{Session, Known, nothing_known}
use Rattle.plx_rules.specs.Settings.{Setting}
use Rattle.law_headline.proofs.Harmless.{Harmless}
use Rattle.law_headline.proofs.Harmless as harmless
use Rattle.law_headline.proofs.Held.{attached_of, IsBacking, Backs, is_below, are_below, is_some_slot, just_at, Fair}
use Rattle.law_headline.proofs.HeldCommands.{lost-listed}
use Rattle.law_model.proofs.Replied.{IsAmongSlots, Names, IsDropping, sessions_after}
use Rattle.std.proofs.Math.Bool.{and-true}

-- ---- what is held

pub read-stays-held : (holds : ℕ → Hold) (block b : ℕ) (sample : Option ℕ) (bytes : List ℕ) (claim : Claim) (until : ℕ) → holds b ≡ Held claim until →
    at holds block (hold_after_read sample bytes (holds block)) b ≡ Held claim until
read-stays-held holds block b sample bytes claim until is = elim (eqb_tells b block) [
  | inl here ↦
      let P : ℕ → Type 0 = λ k. at holds k (hold_after_read sample bytes (holds k)) b ≡ Held claim until in
      subst P here.1 (at-same holds b (hold_after_read sample bytes (holds b)) ∙ ap (hold_after_read sample bytes) is)
  | inr away ↦ at-other holds block b (hold_after_read sample bytes (holds block)) away.1 ∙ is
]

-- the lease of an image tells it
pub lease-image : (i j : ℕ) → lease_at (image_lease i) ≡ lease_at (image_lease j) → i ≡ j
lease-image i j e = image-image i j (lease-lease (image_lease i) (image_lease j) e)

module _ (g : Geometry) (known : Known) where
  pub backs-read : (holds : ℕ → Hold) (block : ℕ) (sample : Option ℕ) (bytes : List ℕ) → Backs g holds known → Backs g (at holds block (hold_after_read sample bytes (holds block))) known
  backs-read holds block sample bytes backs k s is =
      let b = backs k s is in
      record { within = b.within; claim = b.claim; until = b.until; held = read-stays-held holds block (lease_at (image_lease k)) sample bytes b.claim b.until b.held; limits = b.limits }

  pub backs-timed : (holds : ℕ → Hold) (reading : ℕ) → Backs g holds known → Backs g (λ block. hold_after_reading reading (holds block)) known
  backs-timed holds reading backs k s is =
      let b = backs k s is in record { within = b.within; claim = b.claim; until = b.until; held = ap (hold_after_reading reading) b.held; limits = b.limits }

  pub backs-first : (holds : ℕ → Hold) (reading : ℕ) → Backs g holds known → Backs g (after_first g known reading holds) known
  backs-first holds reading backs k s is =
      let b = backs k s is in
      let block = lease_at (image_lease k) in
      let e : block - 2 ≡ k = omega arith in
      let within = b.within in
      let session : session_at g known block ≡ Some s =
      rw (nat_le-true 2 block (omega arith), nat_lt-true block (2 + g.images) (omega (arith, within))) (ap known.sessions e ∙ is) in
      record {
        within = b.within;
        claim = b.claim;
        until = b.until;
        held = ap (λ (h : Hold). first_hold (session_at g known block) reading h) b.held ∙ ap (λ (o : Option Session). first_hold o reading (Held b.claim b.until)) session;
        limits = b.limits;
      }

  -- a change of the hold of a lease that is no session's
  pub backs-other : (holds : ℕ → Hold) (lease : ℕ) (hold : Hold) → ((k : ℕ) (s : Session) → k < g.images → known.sessions k ≡ Some s → image_lease k ≢ lease) → Backs g holds known →
      Backs g (at holds (lease_at lease) hold) known
  backs-other holds lease hold other backs k s is =
      let b = backs k s is in
      record {
        within = b.within;
        claim = b.claim;
        until = b.until;
        held = at-other holds (lease_at lease) (lease_at (image_lease k)) hold (λ e. other k s b.within is (lease-lease (image_lease k) lease e)) ∙ b.held;
        limits = b.limits;
      }

  -- a lease of an image without a session
  pub unused-image : (i : ℕ) → known.sessions i ≡ None → (k : ℕ) (s : Session) → k < g.images → known.sessions k ≡ Some s → image_lease k ≢ image_lease i
  unused-image i none k s below is e = let same = image-image k i e in
      let f : None ≡ Some s = sym none ∙ (ap known.sessions (sym same) ∙ is) in let P : ⊥ = cc in P

  -- a change of its hold
  pub backs-at : (holds : ℕ → Hold) (i : ℕ) (hold : Hold) → known.sessions i ≡ None → Backs g holds known → Backs g (at holds (lease_at (image_lease i)) hold) known
  backs-at holds i hold none = backs-other holds (image_lease i) hold (unused-image i none)

  pub backs-none : (holds : ℕ → Hold) (claims : ℕ) → Backs g holds (nothing_known claims)
  backs-none holds claims k s is = absurd (let P : ⊥ = cc in P)

  -- a session of one more image, or of one that had one
  pub backs-with : (holds : ℕ → Hold) (i : ℕ) (s : Session) → IsBacking g holds i → Backs g holds known → (k : ℕ) (t : Session) → at known.sessions i (Some s) k ≡ Some t → IsBacking g holds k
  backs-with holds i s here backs k t is = elim (eqb_tells k i) [
    | inl same ↦ (let P : ℕ → Type 0 = λ n. IsBacking g holds n in subst P (sym same.1) here)
    | inr away ↦ backs k t (sym (at-other known.sessions i k (Some s) away.1) ∙ is)
  ]

  -- the sessions once a session of the image is another one
  pub replaced : (i : ℕ) (s t : Session) → known.sessions i ≡ Some s → (j : ℕ) → is_some (at known.sessions i (Some t) j) ≡ is_some (known.sessions j)
  replaced i s t is j = elim (eqb_tells j i) [
    | inl same ↦ rw same.0 (let P : ℕ → Type 0 = λ n. true ≡ is_some (known.sessions n) in subst P (sym same.1) (sym (ap (λ (o : Option Session). is_some o) is)))
    | inr away ↦ rw away.0 refl
  ]

-- ---- readings

-- the end of an image's lease isn't reached
pub unreached-tells : (i until reading : ℕ) → first_reached (image_use i until) reading ≡ None → reading < until
unreached-tells i until reading none = elim (leb_tells until reading) [
  | inl past ↦ absurd (let one : InUse = record { lease = image_lease i; until = until } in
      let f : Some (earlier one None) ≡ None = sym (ap (λ (b : Bool). if b then Some (earlier one None) else None) past.0) ∙ none in let P : ⊥ = cc in P)
  | inr below ↦ omega (arith, below.1)
]

-- of a command that names one image the test on a reading looks at the lease of that one
pub just-one : (g : Geometry) (command : Command) (i : ℕ) → named_slots command ≡ i ∷ [] → i < g.images → (h : ℕ → Hold) (r : ℕ) → just_at g command h r ≡ is_below (h (lease_at (image_lease i))) r
just-one g command i one within h r =
    let P : List ℕ → Type 0 = λ l. (is_some_slot l && are_below g h r l) ≡ is_below (h (lease_at (image_lease i))) r in
    subst P (sym one) (and-true (nat_lt i g.images && is_below (h (lease_at (image_lease i))) r)
    ∙ ap (λ (b : Bool). b && is_below (h (lease_at (image_lease i))) r) (nat_lt-true i g.images within))

pub names-by-list : (command : Command) (i : ℕ) → named_slots command ≡ i ∷ [] → Names command i
names-by-list command i one =
    let P : List ℕ → Type 0 = λ l. IsAmongSlots i l in subst P (sym one) (inl refl)

-- ---- ends

module _ (s : Setting) (a : ℕ) (command : Command) (known : Known) where
  abbrev pub IsFair : (ℕ → Hold) → Option ℕ → Bool → Process End → Type 0
  IsFair holds sample just process = Fair s.geometry a command known holds sample just process

  pub fair-lost : (holds : ℕ → Hold) (sample : Option ℕ) (just : Bool) (k : Known) (due : InUse) (reading : ℕ) → IsFair holds sample just (lost_process s k due reading)
  fair-lost holds sample just k due reading = record {
    kept = λ j. refl;
    backs = backs-none s.geometry known no_holds k.claims;
    away = λ j no'. inr refl;
    clean = inl tt;
    allowed = inl (harmless.ending (lost-listed command) refl);
  }

  pub fair-write_failed : (holds : ℕ → Hold) (sample : Option ℕ) (just : Bool) (k : Known) (block : ℕ) → is_in 11 (row command) ≡ true → IsFair holds sample just (write_failed block k)
  fair-write_failed holds sample just k block listed = record {
    kept = λ j. refl;
    backs = backs-none s.geometry known holds k.claims;
    away = λ j no'. inr refl;
    clean = inl tt;
    allowed = inl (harmless.ending listed refl);
  }

  -- an end that leaves the sessions, after so many claims
  pub fair-still : (holds : ℕ → Hold) (sample : Option ℕ) (just : Bool) (now : Known) (done : Reply) → now.sessions ≡ known.sessions →
      ((j : ℕ) → sessions_after command done (attached_of known) j ≡ attached_of known j) → Backs s.geometry (holds_after_reply done holds) known → IsUndamaged done →
      Harmless s.geometry.images (attached_of known) command done → IsFair holds sample just (ends done now)
  fair-still holds sample just now done e same backs clean fine = record {
    kept = λ j. ap (λ (f : ℕ → Option Session). is_some (f j)) e ∙ sym (same j);
    backs = λ k t is. backs k t (sym (ap (λ (f : ℕ → Option Session). f k) e) ∙ is);
    away = λ j no'. inl (ap (λ (f : ℕ → Option Session). f j) e);
    clean = inl clean;
    allowed = inl fine;
  }

  pub fair-in-time : (holds : ℕ → Hold) (sample : Option ℕ) (just : Bool) (k : Known) (uses : List InUse) (reading : ℕ) (process : Process End) →
      (first_reached uses reading ≡ None → IsFair holds sample just process) → IsFair holds sample just (in_time s k uses reading process)
  fair-in-time holds sample just k uses reading process fair = by_reached (first_reached uses reading) refl
    where
      by_reached : (o : Option InUse) → first_reached uses reading ≡ o → IsFair holds sample just (unless_reached o (λ due. lost_process s k due reading) process)
      by_reached None e = fair e
      by_reached (Some due) e = fair-lost holds sample just k due reading

  -- a last reading
  pub fair-ends : (i : ℕ) (holds : ℕ → Hold) (sample : Option ℕ) (just : Bool) (k after : Known) (claim : Claim) (until : ℕ) (done : Reply) → named_slots command ≡ i ∷ [] → i < s.geometry.images →
      holds (lease_at (image_lease i)) ≡ Held claim until →
      ((j : ℕ) → attached_of after j ≡ sessions_after command done (attached_of known) j) →
      ((r : ℕ) → Backs s.geometry (holds_after_reply done (λ block. hold_after_reading r (holds block))) after) →
      ((j : ℕ) → (Names command j → ⊥) → (after.sessions j ≡ known.sessions j) ⊎ IsDropping done) →
      IsFair holds sample just (ends_in_time s k (image_use i until) done after)
  fair-ends i holds sample just k after claim until done one within held kept backs away = λ reading early.
      fair-in-time (λ block. hold_after_reading reading (holds block)) (Some reading) (just_at s.geometry command (λ block. hold_after_reading reading (holds block)) reading) k (image_use i until) reading (ends done after)
      (λ e. record {
        kept = kept;
        backs = backs reading;
        away = away;
        clean = inr (is-just reading e);
        allowed = inr (inl (is-just reading e));
      })
    where
      is-just : (reading : ℕ) → first_reached (image_use i until) reading ≡ None → just_at s.geometry command (λ block. hold_after_reading reading (holds block)) reading ≡ true
      is-just reading e =
          just-one s.geometry command i one within (λ block. hold_after_reading reading (holds block)) reading
          ∙ (ap (λ (h : Hold). is_below (hold_after_reading reading h) reading) held ∙ nat_lt-true reading until (unreached-tells i until reading e))
