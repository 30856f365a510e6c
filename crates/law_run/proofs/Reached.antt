-- The leases of attached images, as those in use.
use Rattle.std.proofs.Common.{◌≡◌, ℕ, zero, suc, ◌+◌, ◌≤◌, ◌<◌, ◌⊎◌, List, Option, Some, None, refl, ap, sym, subst, arith, inl, inr}
use Rattle.std.proofs.lemmas.Bool.Decides.{eqb_tells}
use Rattle.plx_base.specs.declared.lease.Claim.{Claim}
use Rattle.plx_geom.specs.Geometry.{image_lease, lease_at}
use Rattle.plx_rules.specs.Commands.{session_use, attached_uses}
use Rattle.plx_rules.specs.Holds.{Hold, Nothing, Seen, Wrote, Waited, Held}
use Rattle.plx_rules.specs.InUse.{InUse, IsUse}
use Rattle.plx_rules.specs.Session.{Session, Known}

-- it is the lease of an image with a session
pub record OfSession (known : Known) (holds : ℕ → Hold) (from : ℕ) (one : InUse) : Type 0 where
  pub image : ℕ
  pub above : from ≤ image
  pub session : Session
  pub has : known.sessions image ≡ Some session
  pub claim : Claim
  pub held : holds (lease_at (image_lease image)) ≡ Held claim one.until
  pub is : one.lease ≡ image_lease image

in-session : (found : Option Session) (hold : Hold) (image : ℕ) (others : List InUse) (one : InUse) → IsUse one (session_use found hold image others) →
    ((session : Session) × (claim : Claim) × (found ≡ Some session) × (hold ≡ Held claim one.until) × (one.lease ≡ image_lease image)) ⊎ IsUse one others
in-session (Some session) (Held claim until) image others one (inl same) =
    inl (session, claim, refl, ap (Held claim) (sym (ap (λ (u : InUse). u.until) same)), ap (λ (u : InUse). u.lease) same)
in-session (Some session) (Held claim until) image others one (inr there) = inr there
in-session None hold image others one there = inr there
in-session (Some session) Nothing image others one there = inr there
in-session (Some session) (Seen sample) image others one there = inr there
in-session (Some session) (Wrote claim until) image others one there = inr there
in-session (Some session) (Waited claim until) image others one there = inr there

pub of-session : (known : Known) (holds : ℕ → Hold) (left from : ℕ) (one : InUse) → IsUse one (attached_uses known holds left from) → OfSession known holds from one
of-session known holds zero from one there = absurd there
of-session known holds (suc left) from one there =
    elim (in-session (known.sessions from) (holds (lease_at (image_lease from))) from (attached_uses known holds left (from + 1)) one there) [
      | inl here ↦ record { image = from; above = omega arith; session = here.0; has = here.2; claim = here.1; held = here.3; is = here.4 }
      | inr later ↦
          let o = of-session known holds left (from + 1) one later in
          record { image = o.image; above = (let a = o.above in omega arith); session = o.session; has = o.has; claim = o.claim; held = o.held; is = o.is }
    ]

of-held : (found : Option Session) (hold : Hold) (image : ℕ) (others : List InUse) (session : Session) (claim : Claim) (until : ℕ) → found ≡ Some session → hold ≡ Held claim until →
    IsUse (record { lease = image_lease image; until = until }) (session_use found hold image others)
of-held found hold image others session claim until has held = rw (has, held) (inl refl)

of-later : (found : Option Session) (hold : Hold) (image : ℕ) (others : List InUse) (one : InUse) → IsUse one others → IsUse one (session_use found hold image others)
of-later (Some session) (Held claim until) image others one there = inr there
of-later None hold image others one there = there
of-later (Some session) Nothing image others one there = there
of-later (Some session) (Seen sample) image others one there = there
of-later (Some session) (Wrote claim until) image others one there = there
of-later (Some session) (Waited claim until) image others one there = there

pub session-use : (known : Known) (holds : ℕ → Hold) (left from image : ℕ) (session : Session) (claim : Claim) (until : ℕ) → from ≤ image → image < from + left →
    known.sessions image ≡ Some session → holds (lease_at (image_lease image)) ≡ Held claim until →
    IsUse (record { lease = image_lease image; until = until }) (attached_uses known holds left from)
session-use known holds zero from image session claim until above below has held = absurd (omega arith)
session-use known holds (suc left) from image session claim until above below has held = elim (eqb_tells image from) [
  | inl same ↦
      subst (λ n. IsUse (record { lease = image_lease n; until = until }) (attached_uses known holds (suc left) from)) (sym same.1)
      (of-held (known.sessions from) (holds (lease_at (image_lease from))) from (attached_uses known holds left (from + 1)) session claim until
      (subst (λ n. known.sessions n ≡ Some session) same.1 has) (subst (λ n. holds (lease_at (image_lease n)) ≡ Held claim until) same.1 held))
  | inr apart ↦
      of-later (known.sessions from) (holds (lease_at (image_lease from))) from (attached_uses known holds left (from + 1)) (record { lease = image_lease image; until = until })
      (session-use known holds left (from + 1) image session claim until (omega (arith, apart.1)) (omega arith) has held)
]
