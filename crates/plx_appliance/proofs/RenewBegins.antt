-- A renew at its first reading: the renewal of a lease, and the leases of attached images.
use Rattle.std.proofs.Common.{◌≡◌, ℕ, zero, suc, ◌+◌, ◌-◌, ◌<◌, ◌≤◌, List, refl, sym, ap, ◌∙◌, arith}
use Rattle.std.specs.Prelude.{Option}
use Rattle.plx_geom.specs.Geometry.{Geometry, image_lease, lease_at, lease_count}
use Rattle.plx_rules.specs.Process.{Process}
use Rattle.plx_rules.specs.Processes.{followed_by}
use Rattle.plx_rules.specs.Commands.{attached_uses, later_of, renew_process, renewal, session_use}
use Rattle.plx_rules.specs.Ends.{End, in_time}
use Rattle.plx_rules.specs.Holds.{Hold}
use Rattle.plx_rules.specs.InUse.{InUse, first_reached}
use Rattle.plx_rules.specs.Session.{Known}
use Rattle.plx_rules.specs.Settings.{Setting}
use Rattle.plx_rules.specs.Times.{term}
use Rattle.law_run.specs.Renewals.{renewal_process}
use Rattle.plx_lease.specs.Following.{after_renewal}
use Rattle.plx_lease.specs.Renewing.{renewal_hold}
use Rattle.plx_lease.specs.declared.renewal.LeaseRenewal.{LeaseRenewal}
use Rattle.plx_appliance.specs.Renews.{renewal_then}
use Rattle.plx_appliance.specs.Tokens.{lease_holds_at}
use Rattle.plx_appliance.proofs.Entered.{held-image}

-- the renewal of a lease that is held
pub renewal-some : (s : Setting) (known : Known) (reading lease : ℕ) (hold : Hold) (rest : Process End) (r : LeaseRenewal) → hold ≡ renewal_hold r → r.number ≡ lease →
    r.later ≡ later_of r.until (reading + term) → renewal_then s known r rest ≡ renewal s known reading lease hold rest
renewal-some s known reading lease hold rest r is number later =
    ap (λ (n : ℕ). followed_by (renewal_process n r.claim r.until r.later) (after_renewal s known n rest)) number
    ∙ ap (λ (end : ℕ). followed_by (renewal_process lease r.claim r.until end) (after_renewal s known lease rest)) later
    ∙ sym (ap (λ (t : Hold). renewal s known reading lease t rest) is)

-- the lease of an image, and those in use after it
pub used-next : (known : Known) (g : Geometry) (leases extents : ℕ → Hold) (left image : ℕ) → image < g.images →
    attached_uses known (lease_holds_at g leases extents) (suc left) image ≡ session_use (known.sessions image) (leases image) image (attached_uses known (lease_holds_at g leases extents) left (image + 1))
used-next known g leases extents left image within =
    ap (λ (hold : Hold). session_use (known.sessions image) hold image (attached_uses known (lease_holds_at g leases extents) left (image + 1))) (held-image g leases extents image within)

-- of them the one that a reading has reached, once one image more was looked at
pub reached-next : (known : Known) (g : Geometry) (leases extents : ℕ → Hold) (reading count slot : ℕ) (found new : Option InUse) → slot + (count + 1) ≡ g.images →
    found ≡ first_reached (attached_uses known (lease_holds_at g leases extents) count (g.images - count)) reading →
    ((uses : List InUse) → found ≡ first_reached uses reading → new ≡ first_reached (session_use (known.sessions slot) (leases slot) slot uses) reading) →
    new ≡ first_reached (attached_uses known (lease_holds_at g leases extents) (count + 1) (g.images - (count + 1))) reading
reached-next known g leases extents reading count slot found new is before goes =
    let holds = lease_holds_at g leases extents in
    let here : g.images - count ≡ slot + 1 = omega (arith, is) in
    let next : g.images - (count + 1) ≡ slot = omega (arith, is) in
    let more : suc count ≡ count + 1 = omega arith in
    goes (attached_uses known holds count (slot + 1)) (before ∙ ap (λ (image : ℕ). first_reached (attached_uses known holds count image) reading) here)
    ∙ ap (λ (uses : List InUse). first_reached uses reading) (sym (used-next known g leases extents count slot (omega (arith, is)))
    ∙ ap (λ (left : ℕ). attached_uses known holds left slot) more ∙ ap (attached_uses known holds (count + 1)) (sym next))

-- ---- a renew goes by the leases alone

uses-agree : (known : Known) (g : Geometry) (holds others : ℕ → Hold) (left image : ℕ) → ((lease : ℕ) → lease < lease_count g → holds (lease_at lease) ≡ others (lease_at lease)) →
    image + left ≤ g.images → attached_uses known holds left image ≡ attached_uses known others left image
uses-agree known g holds others zero image h within = refl
uses-agree known g holds others (suc left) image h within =
    ap (λ (hold : Hold). session_use (known.sessions image) hold image (attached_uses known holds left (image + 1))) (h (image_lease image) (omega (arith, within)))
    ∙ ap (session_use (known.sessions image) (others (lease_at (image_lease image))) image) (uses-agree known g holds others left (image + 1) h (omega (arith, within)))

renewals-agree : (s : Setting) (known : Known) (g : Geometry) (holds others : ℕ → Hold) (reading left lease : ℕ) → ((lease : ℕ) → lease < lease_count g → holds (lease_at lease) ≡ others (lease_at lease)) →
    lease + left ≤ lease_count g → renew_process s known holds reading left lease ≡ renew_process s known others reading left lease
renewals-agree s known g holds others reading zero lease h within = refl
renewals-agree s known g holds others reading (suc left) lease h within =
    ap (λ (hold : Hold). renewal s known reading lease hold (renew_process s known holds reading left (lease + 1))) (h lease (omega (arith, within)))
    ∙ ap (renewal s known reading lease (others (lease_at lease))) (renewals-agree s known g holds others reading left (lease + 1) h (omega (arith, within)))

pub renew-agrees : (s : Setting) (known : Known) (holds others : ℕ → Hold) (reading : ℕ) → ((lease : ℕ) → lease < lease_count s.geometry → holds (lease_at lease) ≡ others (lease_at lease)) →
    in_time s known (attached_uses known holds s.geometry.images 0) reading (renew_process s known holds reading (lease_count s.geometry) 0)
    ≡ in_time s known (attached_uses known others s.geometry.images 0) reading (renew_process s known others reading (lease_count s.geometry) 0)
renew-agrees s known holds others reading h =
    let g = s.geometry in
    ap (λ (uses : List InUse). in_time s known uses reading (renew_process s known holds reading (lease_count g) 0)) (uses-agree known g holds others g.images 0 h (omega arith))
    ∙ ap (in_time s known (attached_uses known others g.images 0) reading) (renewals-agree s known g holds others reading (lease_count g) 0 h (omega arith))
