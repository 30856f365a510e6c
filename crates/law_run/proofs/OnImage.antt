-- Commands of one image, whose session they need.
use Rattle.std.proofs.Common.{◌≡◌, ◌≢◌, ℕ, suc, ◌≤◌, ◌<◌, List, [], ◌∷◌, Bool, true, false, Option, Some, None, refl, ap, sym, subst, ◌∙◌, arith, inl, inr}
use Rattle.std.specs.Prelude.{◌==◌, ◌||◌, nat_lt}
use Rattle.std.proofs.lemmas.Bool.Decides.{eqb_tells, leb_tells}
use Rattle.plx_base.specs.declared.lease.Claim.{Claim}
use Rattle.plx_base.specs.declared.lease.LeaseName.{LeaseName}
use Rattle.plx_base.specs.declared.lease.LeaseName.TheVariants as lease
use Rattle.plx_base.specs.declared.numbers.SlotNo.{SlotNo}
use Rattle.plx_commands.specs.declared.command.Command.{Command}
use Rattle.plx_commands.specs.declared.command.Command.TheVariants.{Attach}
use Rattle.plx_commands.specs.declared.reply.Reply.{Reply}
use Rattle.plx_commands.specs.declared.reply.Reply.TheVariants as reply
use Rattle.plx_geom.specs.Geometry.{Geometry, image_lease, lease_at}
use Rattle.plx_rules.specs.Process.{Process}
use Rattle.plx_rules.specs.Attaching.{image_use}
use Rattle.plx_rules.specs.Commands.{attached_process, of_attached}
use Rattle.plx_rules.specs.Ends.{End, ends, lost_process, in_time}
use Rattle.plx_rules.specs.Holds.{Held}
use Rattle.plx_rules.proofs.InUse.{same-first}
use Rattle.plx_rules.specs.InUse.{InUse, IsNamedFirst, lease_name}
use Rattle.plx_rules.specs.Session.{Session, Known, nothing_known}
use Rattle.plx_rules.specs.Settings.{Setting}
use Rattle.law_run.specs.CommandLogs.{Exchange, Finished, CommandLog, first_reading}
use Rattle.law_run.specs.Holdings.{holds_after, hold_by_log}
use Rattle.law_run.specs.KnownBytes.{given_after}
use Rattle.law_run.specs.Refusals.{IsExpired, not_attached, expired}
use Rattle.law_run.specs.Replies.{refused}
use Rattle.law_run.specs.Sessions.{names, uses, needs, attached_by, is_attached}
use Rattle.law_run.proofs.Holding.{spared-first, hold-after-first}
use Rattle.law_run.proofs.Passed.{Passed, passed-at-most}
use Rattle.law_run.proofs.Rests.{KeepsHolds, rests-by, own-still, rests-lost}
use Rattle.law_run.proofs.Right.{clock, IsHeld, FitsSession, FitsAt, Rests, finish, log_on, Right}
use Rattle.law_run.proofs.Runs.{start}
use Rattle.plx_base.proofs.Tests.{eqb-true, eqb-false, nat_lt-true, clash}

-- a command names one image, and needs its session
pub record OnImage (command : Command) (image : ℕ) : Type 0 where
  pub named : (other : ℕ) → names command other ≡ ((other == image) || false)
  pub used : (other : ℕ) → uses command other ≡ names command other
  pub needed : (other : ℕ) → needs command other ≡ names command other
  pub no_attach : (slot : SlotNo) → ¬ (command ≡ Attach slot)

-- the images that a command names, where it names one
abbrev pub NamesOne : Command → ℕ → Type 0
NamesOne command image = (other : ℕ) → names command other ≡ ((other == image) || false)

pub names-own : (command : Command) (image : ℕ) → NamesOne command image → names command image ≡ true
names-own command image named = named image ∙ rw (eqb-true image image refl) refl

pub names-other : (command : Command) (image : ℕ) → NamesOne command image → (other : ℕ) → other ≢ image → names command other ≡ false
names-other command image named other apart = named other ∙ rw (eqb-false other image apart) refl

pub names-only : (command : Command) (image : ℕ) → NamesOne command image → (other : ℕ) → names command other ≡ true → other ≡ image
names-only command image named other is = elim (eqb_tells other image) [
  | inl same ↦ same.1
  | inr apart ↦ absurd (clash (names command other) is (names-other command image named other apart.1))
]

-- no refusal stands before the first place
pub passed-first : (s : Setting) (log : CommandLog) → Passed s log 1
passed-first s log = record {
  sessions = λ lt. absurd (omega arith);
  unattached = λ lt. absurd (omega arith);
  in_time = λ lt. absurd (omega arith);
  slots = λ lt. absurd (omega arith);
  images = λ lt. absurd (omega arith);
  free = λ lt. absurd (omega arith);
  blocks = λ lt. absurd (omega arith);
  sizes = λ lt. absurd (omega arith);
  fresh = λ lt. absurd (omega arith);
  counted = λ lt. absurd (omega arith);
  claimed = λ lt. absurd (omega arith);
  room = λ lt. absurd (omega arith);
}

-- those by sessions don't hold
pub passed-sessions : (s : Setting) (log : CommandLog) → ((image : ℕ) → needs log.command image ≡ true → is_attached log.before image ≡ true) →
    ((slot : SlotNo) → log.command ≡ Attach slot → is_attached log.before slot.0 ≡ false) → Passed s log 3
passed-sessions s log needed unattached = record {
  sessions = λ lt. needed;
  unattached = λ lt. unattached;
  in_time = λ lt. absurd (omega arith);
  slots = λ lt. absurd (omega arith);
  images = λ lt. absurd (omega arith);
  free = λ lt. absurd (omega arith);
  blocks = λ lt. absurd (omega arith);
  sizes = λ lt. absurd (omega arith);
  fresh = λ lt. absurd (omega arith);
  counted = λ lt. absurd (omega arith);
  claimed = λ lt. absurd (omega arith);
  room = λ lt. absurd (omega arith);
}

pub needs-attached : (before : List Finished) (command : Command) (image : ℕ) → OnImage command image → is_attached before image ≡ true →
    (other : ℕ) → needs command other ≡ true → is_attached before other ≡ true
needs-attached before command image on attached other is =
    subst (λ n. is_attached before n ≡ true) (sym (names-only command image on.named other (sym (on.needed other) ∙ is))) attached

-- the lease that a command uses hasn't ended at its first reading
pub in-time : (s : Setting) (before : List Finished) (command : Command) (done : List Exchange) (image : ℕ) (claim : Claim) (until reading : ℕ) →
    ((other : ℕ) → uses command other ≡ true → other ≡ image) → holds_after s.geometry before (lease_at (image_lease image)) ≡ Held claim until →
    first_reading done ≡ Some reading → reading < until → (one : InUse) (reading' : ℕ) → ¬ IsExpired s (log_on before command done) one reading'
in-time s before command done image claim until reading only held first below one reading' is =
    let same = is.is ∙ ap image_lease (only is.image is.used) in
    let here : holds_after s.geometry before (lease_at (image_lease image)) ≡ Held is.claim one.until =
    subst (λ n. holds_after s.geometry before (lease_at n) ≡ Held is.claim one.until) same is.held in
    let ends : until ≡ one.until = (let e : Held claim until ≡ Held is.claim one.until = sym held ∙ here in cc) in
    let read : reading ≡ reading' = (let e : Some reading ≡ Some reading' = sym first ∙ is.first in cc) in
    let past = is.reached in
    omega arith

-- the name of an image's lease
pub lease-name : (g : Geometry) (image : ℕ) → image < g.images → lease_name g (image_lease image) ≡ lease.Image (record { 0 = image })
lease-name g image within =
    let e : image_lease image ≡ suc image = omega arith in ap (lease_name g) e ∙ rw (nat_lt-true image g.images within) refl

-- the rest by one lease in use
pub by-time : (P : Process End → Type 0) (s : Setting) (known : Known) (image until reading : ℕ) (process : Process End) →
    (until ≤ reading → P (lost_process s known (record { lease = image_lease image; until = until }) reading)) → (reading < until → P process) →
    P (in_time s known (image_use image until) reading process)
by-time P s known image until reading process late early = elim (leb_tells until reading) [
  | inl past ↦ rw past.0 (late past.1)
  | inr below ↦ rw below.0 (early (omega (arith, below.1)))
]

-- the rest of a command of an image, whose session it needs
module _ (s : Setting) (before : List Finished) (known : Known) (command : Command) (slot : SlotNo) (reading : ℕ) (on : OnImage command slot.0) (rests : Rests s before known) where
  -- its reply leaves all as it is
  pub still : (r : Reply) → ((other : ℕ) (b : Bool) → attached_by r command other b ≡ b) → KeepsHolds r → Rests s (finish command (clock reading ∷ []) r ∷ before) known
  still r none keeps =
      rests-by s before command (clock reading ∷ []) r known known slot.0 (names-other command slot.0 on.named) (λ other apart. refl) (λ other b apart. none other b) keeps
      (spared-first s before reading slot.0)
      (own-still s before command (clock reading ∷ []) r slot.0 (known.sessions slot.0) (λ b. none slot.0 b) keeps (rests.sessions slot.0)
      (λ attached. rw (names-own command slot.0 on.named, attached) refl)
      (λ attached. held-here (known.sessions slot.0) attached (rests.sessions slot.0)))
      (let c = rests.claims in omega arith) rests
    where
      held-here : (found : Option Session) → is_attached before slot.0 ≡ true → FitsAt s before slot.0 found → IsHeld (hold_by_log s before (clock reading ∷ []) (image_lease slot.0))
      held-here None attached fits = absurd (clash (is_attached before slot.0) attached fits)
      held-here (Some session) attached fits =
          let h = fits.2 in (h.0, h.1, hold-after-first s before reading slot.0 h.0 h.1 fits.1.within fits.0 h.2)

  not-attached : is_attached before slot.0 ≡ false → (left : ℕ) → Right s before command (clock reading ∷ []) (ends reply.NotAttached known) left
  not-attached missing left = (
    refused 1 (reading, refl) (not_attached slot.0 (on.needed slot.0 ∙ names-own command slot.0 on.named) missing) (λ p other refuses. passed-at-most s (log_on before command (clock reading ∷ [])) 1 p other (passed-first s _) refuses),
    still reply.NotAttached (λ other b. refl) (λ h. refl),
  )

  -- the first reading has reached the end of the lease
  late : (claim : Claim) (until : ℕ) → slot.0 < s.geometry.images → is_attached before slot.0 ≡ true → holds_after s.geometry before (lease_at (image_lease slot.0)) ≡ Held claim until → until ≤ reading → (left : ℕ) →
      Right s before command (clock reading ∷ []) (lost_process s known (record { lease = image_lease slot.0; until = until }) reading) left
  late claim until within attached held past left =
      subst (λ (n : LeaseName). Right s before command (clock reading ∷ []) (ends (reply.Lost n until reading) (nothing_known known.claims)) left) (sym (lease-name s.geometry slot.0 within)) (
        refused 3 (reading, refl)
            (expired slot (record { image = slot.0; is = refl; used = on.used slot.0 ∙ names-own command slot.0 on.named; attached = attached; claim = claim; held = held; first = refl; reached = past })
            (λ other is. alone other is))
            (λ p other refuses. passed-at-most s (log_on before command (clock reading ∷ [])) 3 p other
            (passed-sessions s _ (needs-attached before command slot.0 on attached) (λ n is. absurd (on.no_attach n is))) refuses),
        rests-lost s before command (clock reading ∷ []) (lease.Image slot) until reading known.claims (let c = rests.claims in omega arith),
      )
    where
      alone : (other : InUse) → IsExpired s (log_on before command (clock reading ∷ [])) other reading → IsNamedFirst (record { lease = image_lease slot.0; until = until }) other
      alone other is =
          let same : other.lease ≡ image_lease slot.0 = is.is ∙ ap image_lease (names-only command slot.0 on.named is.image (sym (on.used is.image) ∙ is.used)) in
          let here : holds_after s.geometry before (lease_at (image_lease slot.0)) ≡ Held is.claim other.until =
          subst (λ l. holds_after s.geometry before (lease_at l) ≡ Held is.claim other.until) same is.held in
          let e : Held claim until ≡ Held is.claim other.until = sym held ∙ here in
          same-first (record { lease = image_lease slot.0; until = until }) other (let u : until ≡ other.until = cc in u) (sym same)

  -- the image has a session, and its lease is held at the first reading
  pub record Ready (session : Session) (claim : Claim) (until : ℕ) : Type 0 where
    pub attached : is_attached before slot.0 ≡ true
    pub fits : FitsSession s.geometry (given_after s.geometry before slot.0) slot.0 session
    pub held : holds_after s.geometry before (lease_at (image_lease slot.0)) ≡ Held claim until
    pub now : hold_by_log s before (clock reading ∷ []) (image_lease slot.0) ≡ Held claim until
    pub below : reading < until
    pub is : known.sessions slot.0 ≡ Some session

  with-session : (left : ℕ) (rest : Session → (until : ℕ) → Process End) →
      ((session : Session) (claim : Claim) (until : ℕ) → Ready session claim until → Right s before command (clock reading ∷ []) (rest session until) left) →
      (found : Option Session) → known.sessions slot.0 ≡ found → FitsAt s before slot.0 found →
      Right s before command (clock reading ∷ []) (attached_process s known slot.0 found (nat_lt slot.0 s.geometry.images) (start s before reading (lease_at (image_lease slot.0))) reading rest) left
  with-session left rest right None is fits = not-attached fits left
  with-session left rest right (Some session) is fits =
      let h = fits.2 in
      let P : Process End → Type 0 = λ process. Right s before command (clock reading ∷ []) process left in
      let now = hold-after-first s before reading slot.0 h.0 h.1 fits.1.within fits.0 h.2 in
      rw (nat_lt-true slot.0 s.geometry.images fits.1.within, now)
      (by-time P s known slot.0 h.1 reading (rest session h.1) (λ past. late h.0 h.1 fits.1.within fits.0 h.2 past left)
      (λ below. right session h.0 h.1 (record { attached = fits.0; fits = fits.1; held = h.2; now = now; below = below; is = is })))

  pub on-image : (left : ℕ) (rest : Session → (until : ℕ) → Process End) →
      ((session : Session) (claim : Claim) (until : ℕ) → Ready session claim until → Right s before command (clock reading ∷ []) (rest session until) left) →
      Right s before command (clock reading ∷ []) (of_attached s known (start s before reading) reading slot.0 rest) left
  on-image left rest right = with-session left rest right (known.sessions slot.0) refl (rests.sessions slot.0)
