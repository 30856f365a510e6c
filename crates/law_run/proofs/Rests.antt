-- What is known between commands fits them once one more has its reply.
use Rattle.std.proofs.Common.{◌≡◌, ◌≢◌, ℕ, ◌+◌, List, ◌∷◌, Bool, true, false, Option, Some, None, refl, ap, sym, subst, ◌∙◌, arith, inl, inr}
use Rattle.std.proofs.lemmas.Bool.Decides.{eqb_tells}
use Rattle.plx_base.specs.declared.lease.LeaseName.{LeaseName}
use Rattle.plx_base.specs.declared.numbers.BlockNo.{BlockNo}
use Rattle.plx_commands.specs.declared.command.Command.{Command}
use Rattle.plx_commands.specs.declared.reply.Reply.{Reply}
use Rattle.plx_commands.specs.declared.reply.Reply.TheVariants as reply
use Rattle.plx_geom.specs.Geometry.{Geometry, image_lease, lease_at}
use Rattle.plx_rules.specs.Holds.{Hold, holds_after_reply}
use Rattle.plx_rules.specs.Session.{Session, Known, nothing_known}
use Rattle.plx_rules.specs.Settings.{Setting}
use Rattle.plx_rules.specs.Stored.{Given}
use Rattle.law_run.specs.CommandLogs.{Exchange, Finished}
use Rattle.law_run.specs.Holdings.{holds_along, holds_after, hold_by_log, claims_in, claims_begun}
use Rattle.law_run.specs.KnownBytes.{nothing_given, given_after_command, given_after, known_from, known_in}
use Rattle.law_run.specs.Sessions.{names, attached_by, is_attached}
use Rattle.law_run.proofs.Holding.{Spared}
use Rattle.law_run.proofs.Right.{IsHeld, FitsSession, FitsAt, Rests, finish, log_on}

-- what is known of an image that the command names
pub named-known : (g : Geometry) (before : List Finished) (command : Command) (done : List Exchange) (image : ℕ) → names command image ≡ true →
    known_in g (log_on before command done) image ≡ given_after_command g image command done (known_from g (log_on before command done) image)
named-known g before command done image is = rw is refl

pub known-attached : (g : Geometry) (before : List Finished) (command : Command) (done : List Exchange) (image : ℕ) → is_attached before image ≡ true →
    known_from g (log_on before command done) image ≡ given_after g before image
known-attached g before command done image e = rw e refl

pub known-unattached : (g : Geometry) (before : List Finished) (command : Command) (done : List Exchange) (image : ℕ) → is_attached before image ≡ false →
    known_from g (log_on before command done) image ≡ nothing_given
known-unattached g before command done image e = rw e refl

-- a reply leaves what is held
abbrev pub KeepsHolds : Reply → Type 0
KeepsHolds r = (holds : ℕ → Hold) → holds_after_reply r holds ≡ holds

-- what is held after a command with such a reply
pub held-after : (s : Setting) (before : List Finished) (command : Command) (done : List Exchange) (r : Reply) (lease : ℕ) → KeepsHolds r →
    holds_after s.geometry (finish command done r ∷ before) (lease_at lease) ≡ hold_by_log s before done lease
held-after s before command done r lease keeps =
    ap (λ (h : ℕ → Hold). h (lease_at lease)) (keeps (holds_along s.geometry (is_attached before) (holds_after s.geometry before) done))

-- a command that leaves the sessions of all images but one
pub rests-by : (s : Setting) (before : List Finished) (command : Command) (done : List Exchange) (r : Reply) (known next : Known) (image : ℕ) →
    ((other : ℕ) → other ≢ image → names command other ≡ false) → ((other : ℕ) → other ≢ image → next.sessions other ≡ known.sessions other) →
    ((other : ℕ) (b : Bool) → other ≢ image → attached_by r command other b ≡ b) → KeepsHolds r → Spared s before done image →
    FitsAt s (finish command done r ∷ before) image (next.sessions image) → next.claims ≡ claims_in s.geometry done + claims_begun s.geometry before →
    Rests s before known → Rests s (finish command done r ∷ before) next
rests-by s before command done r known next image only same none keeps spared own claims rests = record {
  sessions = λ other. elim (eqb_tells other image) [
    | inl is ↦ subst (λ n. FitsAt s (finish command done r ∷ before) n (next.sessions n)) (sym is.1) own
    | inr apart ↦ subst (λ (o : Option Session). FitsAt s (finish command done r ∷ before) other o) (sym (same other apart.1))
        (by-other other (known.sessions other) apart.1 (rests.sessions other))
  ];
  claims = claims;
}
  where
    by-other : (other : ℕ) (found : Option Session) → other ≢ image → FitsAt s before other found → FitsAt s (finish command done r ∷ before) other found
    by-other other None apart fits = none other (is_attached before other) apart ∙ fits
    by-other other (Some session) apart fits =
        let kept : given_after s.geometry (finish command done r ∷ before) other ≡ given_after s.geometry before other = rw (only other apart) refl in
        let held = spared other apart fits.1.within fits.0 fits.2 in (
          none other (is_attached before other) apart ∙ fits.0,
          subst (λ (g : Given). FitsSession s.geometry g other session) (sym kept) fits.1,
          (held.0, held.1, held-after s before command done r (image_lease other) keeps ∙ held.2),
        )

-- the session of an image that the command leaves as it is
pub own-still : (s : Setting) (before : List Finished) (command : Command) (done : List Exchange) (r : Reply) (image : ℕ) (found : Option Session) →
    ((b : Bool) → attached_by r command image b ≡ b) → KeepsHolds r → FitsAt s before image found →
    (is_attached before image ≡ true → given_after s.geometry (finish command done r ∷ before) image ≡ given_after s.geometry before image) →
    (is_attached before image ≡ true → IsHeld (hold_by_log s before done (image_lease image))) → FitsAt s (finish command done r ∷ before) image found
own-still s before command done r image None none keeps fits still held = none (is_attached before image) ∙ fits
own-still s before command done r image (Some session) none keeps fits still held =
    let h = held fits.0 in (
      none (is_attached before image) ∙ fits.0,
      subst (λ (g : Given). FitsSession s.geometry g image session) (sym (still fits.0)) fits.1,
      (h.0, h.1, held-after s before command done r (image_lease image) keeps ∙ h.2),
    )

-- after a loss nothing is known
pub rests-lost : (s : Setting) (before : List Finished) (command : Command) (done : List Exchange) (lease : LeaseName) (until reading claims : ℕ) →
    claims ≡ claims_in s.geometry done + claims_begun s.geometry before →
    Rests s (finish command done (reply.Lost lease until reading) ∷ before) (nothing_known claims)
rests-lost s before command done lease until reading claims is = record { sessions = λ image. refl; claims = omega arith }

pub rests-failed : (s : Setting) (before : List Finished) (command : Command) (done : List Exchange) (block : BlockNo) (claims : ℕ) →
    claims ≡ claims_in s.geometry done + claims_begun s.geometry before → Rests s (finish command done (reply.WriteFault block) ∷ before) (nothing_known claims)
rests-failed s before command done block claims is = record { sessions = λ image. refl; claims = omega arith }
