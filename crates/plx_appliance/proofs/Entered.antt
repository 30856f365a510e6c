-- A command of an attached image at its first reading.
use Rattle.std.proofs.Common.{◌≡◌, ℕ, ◌+◌, ◌-◌, ◌<◌, Some, None, refl, ap, ◌∙◌, subst, arith}
use Rattle.std.specs.Prelude.{Bool, nat_lt, if◌then◌else◌, IfOk, Result, Err}
use Rattle.plx_commands.specs.declared.reply.Reply.{Reply}
use Rattle.plx_commands.specs.declared.reply.Reply.TheVariants as reply
use Rattle.plx_geom.specs.Geometry.{Geometry, extent_lease, image_lease, root_lease, lease_at}
use Rattle.plx_rules.specs.Process.{Process}
use Rattle.plx_rules.specs.Attaching.{attach_held, attach_process}
use Rattle.plx_rules.specs.Commands.{held_process, of_attached}
use Rattle.plx_rules.specs.Ends.{End, ends}
use Rattle.plx_rules.specs.Holds.{Hold, Nothing}
use Rattle.plx_rules.specs.Session.{Known, Session}
use Rattle.plx_rules.specs.Settings.{Setting}
use Rattle.plx_session.specs.Ending.{known_after}
use Rattle.plx_appliance.specs.Entering.{Enters, IsOfImage}
use Rattle.plx_session.specs.Giving.{rules_setting}
use Rattle.plx_session.specs.Works.{image_leased}
use Rattle.plx_appliance.specs.Kept.{known_of}
use Rattle.plx_appliance.specs.Lent.{lent_of}
use Rattle.plx_appliance.specs.RenewStarts.{holds_in, leases_in}
use Rattle.plx_appliance.specs.Space.{extents_in}
use Rattle.plx_appliance.specs.Works.{IsTied, StartsInside, work_entered, work_suits}
use Rattle.plx_appliance.specs.Tokens.{image_leases, lease_holds_at}
use Rattle.plx_appliance.specs.declared.holdings.Holdings.{Holdings}
use Rattle.plx_session.specs.declared.leased.Leased.{Leased}
use Rattle.plx_session.specs.declared.setting.Setting.{Setting as Own}
use Rattle.plx_appliance.specs.declared.work.Work.{Work}
use Rattle.plx_appliance.specs.declared.work.Work.TheVariants as work
use Rattle.plx_base.specs.declared.numbers.SlotNo.{SlotNo}
use Rattle.std.proofs.lemmas.Result.{IfOk-weaker}
use Rattle.plx_base.proofs.Tests.{nat_le-false, nat_le-true, nat_lt-false, nat_lt-true}

-- what is held at the block of an image's lease
pub held-image : (g : Geometry) (leases extents : ℕ → Hold) (image : ℕ) → image < g.images → lease_holds_at g leases extents (lease_at (image_lease image)) ≡ leases image
held-image g leases extents image within = rw (nat_le-true 2 (1 + (1 + image)) (omega arith), nat_lt-true (1 + (1 + image)) (2 + g.images) (omega (arith, within)), back image) refl
  where
    back : (image : ℕ) → 1 + (1 + image) - 2 ≡ image
    back image = omega arith

-- nothing is held of the root's
pub held-root : (g : Geometry) (leases extents : ℕ → Hold) → lease_holds_at g leases extents (lease_at root_lease) ≡ Nothing
held-root g leases extents =
    ap (λ (b : Bool). if b then extents (lease_at root_lease - (2 + g.images)) else Nothing) (nat_le-false (2 + g.images) (lease_at root_lease) (omega arith))

-- and of an extent's
pub held-extent : (g : Geometry) (leases extents : ℕ → Hold) (extent : ℕ) → lease_holds_at g leases extents (lease_at (extent_lease g extent)) ≡ extents extent
held-extent g leases extents extent =
    rw (
      nat_le-true 2 (1 + (1 + g.images + extent)) (omega arith),
      nat_lt-false (1 + (1 + g.images + extent)) (2 + g.images) (omega arith),
      nat_le-true (2 + g.images) (1 + (1 + g.images + extent)) (omega arith),
      back g.images extent,
    ) refl
  where
    back : (images extent : ℕ) → 1 + (1 + images + extent) - (2 + images) ≡ extent
    back images extent = omega arith

-- an attach of an image without a session, by what is held of the image's lease
pub attach-within : (h : Holdings) (image : ℕ) → image < h.setting.geometry.images →
    attach_process (rules_setting h.setting) (known_of h) image None
    (nat_lt image h.setting.geometry.images) (holds_in h (lease_at (image_lease image)))
    ≡ attach_held (rules_setting h.setting) (known_of h) image
    (image_leases h.leases.leases.items image)
attach-within h image within =
    let g = h.setting.geometry in
    let held = held-image g (image_leases h.leases.leases.items) (extents_in h) image within in
    rw (nat_lt-true image g.images within, held) refl

-- an image without a session
pub attached-none : (s : Setting) (known : Known) (holds : ℕ → Hold) (reading image : ℕ) (rest : Session → (until : ℕ) → Process End) →
    known.sessions image ≡ None → ends reply.NotAttached known ≡ of_attached s known holds reading image rest
attached-none s known holds reading image rest none = rw none refl

-- an image with a session
pub attached-some : (s : Setting) (known : Known) (leases extents : ℕ → Hold) (reading image : ℕ) (session : Session) (rest : Session → (until : ℕ) → Process End) →
    known.sessions image ≡ Some session → image < s.geometry.images →
    held_process s known image (leases image) reading (rest session) ≡ of_attached s known (lease_holds_at s.geometry leases extents) reading image rest
attached-some s known leases extents reading image session rest some within =
    rw (some, nat_lt-true image s.geometry.images within, held-image s.geometry leases extents image within) refl

-- a command of an image with a session, where the image's lease decides
pub by-lease : (h : Holdings) (reading : ℕ) (slot : SlotNo) (session : Session)
    (rest : Session → (until : ℕ) → Process End) {process : Process End} →
    process ≡ held_process (rules_setting h.setting) (known_of h) slot.0
    (image_leases h.leases.leases.items slot.0) reading (rest session) →
    (known_of h).sessions slot.0 ≡ Some session → slot.0 < h.sessions.count →
    process ≡ of_attached (rules_setting h.setting) (known_of h) (holds_in h) reading slot.0 rest
by-lease h reading slot session rest held some within =
    let leases = image_leases h.leases.leases.items in
    let below = subst (λ (count : ℕ). slot.0 < count) h.images within in
    held ∙ attached-some (rules_setting h.setting) (known_of h) leases (extents_in h)
    reading slot.0 session rest some below

-- what is entered over holdings that are only read
pub enters : (h : Holdings) (result : Result Work Reply) {process : Process End} →
    work_entered (lent_of h) result ≡ process → IfOk result (IsTied h.setting) →
    IfOk result (StartsInside (leases_in h) (extents_in h)) → IfOk result (work_suits h.space) →
    Enters h h process result
enters h result is tied inside suits = record {
  process = is;
  leases = refl;
  extents = refl;
  hand = refl;
  setting = refl;
  tied = tied;
  inside = inside;
  suits = suits;
  sessions = refl;
}

-- a refusal
pub refusal-enters : (h : Holdings) (reply : Reply) {process : Process End} →
    ends reply (known_after reply (known_of h)) ≡ process → Enters h h process (Err reply)
refusal-enters h reply is = enters h (Err reply) is tt tt tt

-- the machine of a command of an image is of the image's setting
own-tied : (setting : Own) (image own : Leased) → image.setting ≡ setting → own ≡ image →
    (own.setting ≡ setting) × (own.setting.geometry.slots ≡ setting.geometry.slots)
own-tied setting image own same is = rw is (same, ap (λ (s : Own). s.geometry.slots) same)

-- claims no lease, and suits whatever is kept of space
image-begins : (h : Holdings) (image : Leased) (w : Work) → image.setting ≡ h.setting → IsOfImage image w →
    IsTied h.setting w × StartsInside (leases_in h) (extents_in h) w × work_suits h.space w
image-begins h image (work.Attach a) same is = absurd is
image-begins h image (work.Detach d) same is = let t = own-tied h.setting image d.image same is in (record { same = t.0; room = t.1 }, tt, tt)
image-begins h image (work.Image w) same is = let t = own-tied h.setting image (image_leased w) same is in (record { same = t.0; room = t.1 }, tt, tt)
image-begins h image (work.Renew r) same is = absurd is
image-begins h image (work.Reserve r) same is = absurd is
image-begins h image (work.Retire r) same is = absurd is

-- a command of an attached image enters as its machine does
pub image-enters : (h : Holdings) (reading : ℕ) (slot : SlotNo) (session : Session) (image : Leased)
    (command : Setting → (image : ℕ) → Session → (until : ℕ) → Process End) (result : Result Work Reply) →
    work_entered (lent_of h) result ≡ command (rules_setting image.setting) image.slot.0 session image.until →
    IfOk result (IsOfImage image) → image.slot ≡ slot → image.setting ≡ h.setting →
    ((rest : (until : ℕ) → Process End) → rest image.until
    ≡ held_process (rules_setting h.setting) (known_of h) slot.0
    (image_leases h.leases.leases.items slot.0) reading rest) →
    (known_of h).sessions slot.0 ≡ Some session → slot.0 < h.sessions.count →
    Enters h h (of_attached (rules_setting h.setting) (known_of h) (holds_in h) reading slot.0
    (command (rules_setting h.setting) slot.0)) result
image-enters h reading slot session image command result made is same_slot same_setting held some within =
    let s = rules_setting h.setting in
    let same : command (rules_setting image.setting) image.slot.0 session image.until
    ≡ command s slot.0 session image.until = rw (same_slot, same_setting) refl in
    let rest = command s slot.0 in
    let begins = λ (w : Work). image-begins h image w same_setting in
    enters h result (by-lease h reading slot session rest (made ∙ same ∙ held (rest session)) some within)
    (IfOk-weaker result (IsOfImage image) (IsTied h.setting) (λ w of. (begins w of).0) is)
    (IfOk-weaker result (IsOfImage image) (StartsInside (leases_in h) (extents_in h)) (λ w of. (begins w of).1) is)
    (IfOk-weaker result (IsOfImage image) (work_suits h.space) (λ w of. (begins w of).2) is)
