-- A retire, by what is kept of leases.
use Rattle.std.proofs.Common.{◌≡◌, ℕ, suc, ◌+◌, ◌-◌, ◌<◌, ◌≤◌, [], sym, ap, ◌∙◌, arith}
use Rattle.std.specs.Prelude.{None}
use Rattle.plx_commands.specs.declared.reply.Reply.TheVariants as reply
use Rattle.plx_geom.specs.Geometry.{image_lease, root_lease, lease_at}
use Rattle.plx_rules.specs.Ends.{ends}
use Rattle.plx_rules.specs.Holds.{Hold}
use Rattle.plx_rules.specs.Session.{Known}
use Rattle.plx_rules.specs.Settings.{Setting}
use Rattle.plx_rules.specs.Space.{retire_extents, retire_images, retire_lease, retire_process}
use Rattle.plx_alloc.specs.Tables.{hand_numbers, holds_of}
use Rattle.plx_alloc.specs.Tables.{allocator_setting as space_given}
use Rattle.plx_session.specs.Giving.{rules_setting}
use Rattle.plx_appliance.specs.Kept.{known_of}
use Rattle.plx_appliance.specs.RenewStarts.{holds_in, leases_in}
use Rattle.plx_appliance.specs.Retires.{images_from}
use Rattle.plx_appliance.specs.Space.{extents_in, hand_in}
use Rattle.plx_appliance.specs.Tokens.{lease_holds_at}
use Rattle.plx_appliance.specs.declared.holdings.Holdings.{Holdings}
use Rattle.plx_appliance.proofs.Entered.{held-image, held-root}
use Rattle.plx_appliance.proofs.Lending.{retire-lent}
use Rattle.plx_appliance.proofs.SpaceBegins.{images-agree}

-- the lease of an image, by its block
lease-place-back : (leases : ℕ → Hold) (image : ℕ) → leases (lease_at (image_lease image) - 2) ≡ leases image
lease-place-back leases image = let e : lease_at (image_lease image) - 2 ≡ image = omega arith in ap leases e

-- one image, and those after it
pub retire-image-next : (s : Setting) (known : Known) (leases : ℕ → Hold) (image : ℕ) → image < s.geometry.images →
    images_from s known leases image ≡ retire_lease s known (image_lease image) (known.sessions image) (leases image) (images_from s known leases (image + 1))
retire-image-next s known leases image within =
    let left : s.geometry.images - image ≡ suc (s.geometry.images - (image + 1)) = omega (arith, within) in
    ap (λ (n : ℕ). retire_images s known (λ block. leases (block - 2)) n image (ends reply.Retired known)) left
    ∙ ap (λ (hold : Hold). retire_lease s known (image_lease image) (known.sessions image) hold (images_from s known leases (image + 1))) (lease-place-back leases image)

-- only the leases from one on count
pub retire-apart : (s : Setting) (known : Known) (leases others : ℕ → Hold) (image : ℕ) → ((place : ℕ) → image ≤ place → leases place ≡ others place) →
    images_from s known leases image ≡ images_from s known others image
retire-apart s known leases others image same =
    images-agree s known (λ block. leases (block - 2)) (λ block. others (block - 2)) (s.geometry.images - image) image (ends reply.Retired known)
    (λ place low high. lease-place-back leases place ∙ same place low ∙ sym (lease-place-back others place))

-- all images, and then the root
pub retire-all : (s : Setting) (known : Known) (leases extents : ℕ → Hold) →
    images_from s known leases 0
    ≡ retire_images s known (lease_holds_at s.geometry leases extents) s.geometry.images 0
    (retire_lease s known root_lease None (lease_holds_at s.geometry leases extents (lease_at root_lease)) (ends reply.Retired known))
retire-all s known leases extents =
    let g = s.geometry in
    let holds = lease_holds_at g leases extents in
    let root = λ (hold : Hold). retire_lease s known root_lease None hold (ends reply.Retired known) in
    let all : g.images - 0 ≡ g.images = omega arith in
    ap (λ (n : ℕ). retire_images s known (λ block. leases (block - 2)) n 0 (ends reply.Retired known)) all
    ∙ images-agree s known (λ block. leases (block - 2)) holds g.images 0 (ends reply.Retired known)
    (λ place low high. lease-place-back leases place ∙ sym (held-image g leases extents place (omega (arith, high))))
    ∙ ap (λ (hold : Hold). retire_images s known holds g.images 0 (root hold)) (sym (held-root g leases extents))

-- a whole retire
pub retire-whole : (h : Holdings) →
    retire_extents (space_given h.setting.appliance.0 h.space) (known_of h) [] (holds_of h.space) (hand_numbers h.space) h.space.geometry.extents 0
    (images_from (rules_setting h.setting) (known_of h) (leases_in h) 0)
    ≡ retire_process (rules_setting h.setting) (known_of h) (holds_in h) (hand_in h)
retire-whole h =
    retire-lent h (images_from (rules_setting h.setting) (known_of h) (leases_in h) 0)
    ∙ ap (retire_extents (rules_setting h.setting) (known_of h) [] (holds_in h) (hand_in h) h.setting.geometry.extents 0)
    (retire-all (rules_setting h.setting) (known_of h) (leases_in h) (extents_in h))
