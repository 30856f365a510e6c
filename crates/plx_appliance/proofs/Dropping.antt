-- Leases that are dropped at a first reading, image by image.
use Rattle.std.proofs.Common.{◌≡◌, ◌≢◌, ℕ, ◌+◌, ◌<◌, ◌≤◌, inl, inr, sym, ap, ◌∙◌, arith}
use Rattle.std.proofs.Math.Path.{fun_ext}
use Rattle.plx_commands.specs.Places.{at}
use Rattle.plx_commands.proofs.Places.{at-same, at-other}
use Rattle.plx_rules.specs.Holds.{Hold, Nothing, first_hold}
use Rattle.plx_rules.specs.Session.{Known}
use Rattle.plx_appliance.specs.Holding.{first_leases}
use Rattle.plx_appliance.proofs.First.{first-nothing}
use Rattle.plx_base.proofs.Tests.{below-next, below-or-past}

-- the images below one have had their turn, the others not
abbrev pub AreImagesDropped : (known : Known) → (reading : ℕ) → (leases now : ℕ → Hold) → (index : ℕ) → Type 0
AreImagesDropped known reading leases now index =
    ((image : ℕ) → image < index → now image ≡ first_leases known reading leases image) × ((image : ℕ) → index ≤ image → now image ≡ leases image)

pub images-dropped-next : (known : Known) (reading : ℕ) (leases now new : ℕ → Hold) (index : ℕ) → AreImagesDropped known reading leases now index →
    new ≡ at now index (first_hold (known.sessions index) reading (now index)) → AreImagesDropped known reading leases new (index + 1)
images-dropped-next known reading leases now new index h is = (below, past)
  where
    here : new index ≡ first_leases known reading leases index
    here = ap (λ t. t index) is ∙ at-same now index _ ∙ ap (first_hold (known.sessions index) reading) (h.1 index (omega arith))

    there : (image : ℕ) → image ≢ index → new image ≡ now image
    there image ne = ap (λ t. t image) is ∙ at-other now index image _ ne

    below : (image : ℕ) → image < index + 1 → new image ≡ first_leases known reading leases image
    below image less = elim (below-next image index less) [
      | inl e ↦ rw e here
      | inr before ↦ there image (λ e. absurd (omega (arith, e, before))) ∙ h.0 image before
    ]

    past : (image : ℕ) → index + 1 ≤ image → new image ≡ leases image
    past image more = there image (λ e. absurd (omega (arith, e, more))) ∙ h.1 image (omega (arith, more))

pub images-dropped-all : (known : Known) (reading : ℕ) (leases now : ℕ → Hold) (index : ℕ) → AreImagesDropped known reading leases now index →
    ((image : ℕ) → index ≤ image → leases image ≡ Nothing) → now ≡ first_leases known reading leases
images-dropped-all known reading leases now index h none = fun_ext (λ image. elim (below-or-past image index) [
  | inl below ↦ h.0 image below
  | inr past ↦ h.1 image past ∙ none image past ∙ sym (ap (first_hold (known.sessions image) reading) (none image past) ∙ first-nothing (known.sessions image) reading)
])
