-- Each issued write but a claim rests on its home, under which its block lies.
use Rattle.std.proofs.Common.{◌≡◌, ℕ, ◌<◌, ◌⊎◌, inl, inr, List, [], ◌∷◌, Some, refl, ap, sym, subst}
use Rattle.plx_base.specs.declared.write_kind.WriteKind.{WriteKind}
use Rattle.plx_base.specs.declared.write_kind.WriteKind.TheVariants as kind
use Rattle.plx_geom.proofs.Places.{image-below, extent-below}
use Rattle.plx_geom.specs.Geometry.{Geometry, lease_count, root_lease, image_lease, extent_lease}
use Rattle.plx_geom.specs.declared.place.Place.TheVariants.{Record, Log, JDesc, JData, Map}
use Rattle.plx_rules.specs.Homes.{IsHomeOf, LiesUnder, own, placed, in_extent, in_image, RestsAsNeeded, RestsOnHome, WritesHaveHomes}
use Rattle.plx_rules.specs.Rests.{extents_of, home_of}
use Rattle.law_lease.proofs.LeaseSteps.{reached-leased}
use Rattle.law_lease.proofs.Leased.{IsPlaced}

-- one that is where it may be and is no claim rests on its home
rests-home-of : (g : Geometry) (k : WriteKind) (block : ℕ) (bytes rests : List ℕ) → IsPlaced g k block bytes rests → ¬ (k ≡ kind.Claim) → RestsOnHome g k block rests
rests-home-of g kind.Claim block bytes rests at unclaimed = absurd (unclaimed refl)
rests-home-of g kind.Renew block bytes rests at unclaimed = record { home = at.0; others = []; all = at.4; is = (at.1, at.2); beside = refl }
rests-home-of g kind.Release block bytes rests at unclaimed = record { home = at.0; others = []; all = at.4; is = (at.1, at.2); beside = refl }
rests-home-of g kind.Take block bytes rests at unclaimed = record { home = extent_lease g at.0; others = []; all = at.3; is = (at.0, at.1, at.2, refl); beside = refl }
rests-home-of g kind.Give block bytes rests at unclaimed = record { home = extent_lease g at.0; others = []; all = at.3; is = (at.0, at.1, at.2, refl); beside = refl }
rests-home-of g kind.Sweep block bytes rests at unclaimed = record { home = extent_lease g at.0; others = root_lease ∷ []; all = at.3; is = (at.0, at.1, at.2, refl); beside = refl }
rests-home-of g kind.Fresh block bytes rests at unclaimed = record { home = extent_lease g at.0; others = []; all = at.3; is = (at.0, at.1, at.2, refl); beside = refl }
rests-home-of g kind.Link block bytes rests at unclaimed = record {
  home = image_lease at.0;
  others = extents_of g at.3.0;
  all = at.3.2;
  is = (at.0, at.1, at.2, refl);
  beside = (at.3.0, at.3.1, refl);
}
rests-home-of g kind.Overwrite block bytes rests at unclaimed = record { home = image_lease at.0; others = []; all = at.3; is = (at.0, at.1, at.2, refl); beside = refl }
rests-home-of g kind.Record block bytes rests at unclaimed = record {
  home = image_lease at.0;
  others = extents_of g at.3.0;
  all = at.3.2;
  is = (at.0, at.1, at.2, refl);
  beside = (at.3.0, at.3.1, refl);
}
rests-home-of g kind.Log block bytes rests at unclaimed = absurd at
rests-home-of g kind.JData block bytes rests at unclaimed = record {
  home = image_lease at.0;
  others = [];
  all = at.5;
  is = (at.0, at.1, at.2, at.3, at.4, refl);
  beside = refl;
}
rests-home-of g kind.JCommit block bytes rests at unclaimed = record {
  home = image_lease at.0;
  others = [];
  all = at.5;
  is = (at.0, at.1, at.2, at.3, at.4, refl);
  beside = refl;
}

-- a claim rests on nothing
claim-alone : (g : Geometry) (k : WriteKind) (block : ℕ) (bytes rests : List ℕ) → IsPlaced g k block bytes rests → (RestsOnHome g k block rests) ⊎ ((k ≡ kind.Claim) × (rests ≡ []))
claim-alone g kind.Claim block bytes rests at = inr (refl, at.4)
claim-alone g other block bytes rests at = inl (rests-home-of g other block bytes rests at (λ e. let P : ⊥ = cc in P))

pub rests-as-needed : RestsAsNeeded
rests-as-needed w reached number write found =
    elim (claim-alone w.geometry write.kind write.block write.bytes (w.rests number) ((reached-leased reached).right number write found).placed) [
      | inl home ↦ inr home
      | inr claim ↦ inl claim
    ]

-- a map lies under its extent's lease, and a block of a tree under its image's
of-map : (g : Geometry) (block home : ℕ) → IsHomeOf g kind.Take block home → LiesUnder g block home × (home < lease_count g)
of-map g block home is = (
  placed (record { place = Map (record { 0 = is.0 }); is = is.1; here = sym is.2; under = ap Some (sym is.3) }),
  subst (λ (l : ℕ). l < lease_count g) (sym is.3) (extent-below g is.0 is.1),
)

of-tree : (g : Geometry) (block home : ℕ) → IsHomeOf g kind.Link block home → LiesUnder g block home × (home < lease_count g)
of-tree g block home is = (
  subst (λ (l : ℕ). LiesUnder g block l) (sym is.3) (in_image is.2.0 is.2.1 is.0 is.2.2 is.1),
  subst (λ (l : ℕ). l < lease_count g) (sym is.3) (image-below g is.0 is.1),
)

-- the block of a write lies under its home
lies-under : (g : Geometry) (k : WriteKind) (block home : ℕ) → IsHomeOf g k block home → LiesUnder g block home × (home < lease_count g)
lies-under g kind.Claim block home is = absurd is
lies-under g kind.Renew block home is = (own is.1, is.0)
lies-under g kind.Release block home is = (own is.1, is.0)
lies-under g kind.Take block home is = of-map g block home is
lies-under g kind.Give block home is = of-map g block home is
lies-under g kind.Sweep block home is = of-map g block home is
lies-under g kind.Fresh block home is = (
  subst (λ (l : ℕ). LiesUnder g block l) (sym is.3) (in_extent is.0 is.1 is.2),
  subst (λ (l : ℕ). l < lease_count g) (sym is.3) (extent-below g is.0 is.2.extent_high),
)
lies-under g kind.Link block home is = of-tree g block home is
lies-under g kind.Overwrite block home is = of-tree g block home is
lies-under g kind.Record block home is = (
  placed (record { place = Record (record { 0 = is.0 }); is = is.1; here = sym is.2; under = ap Some (sym is.3) }),
  subst (λ (l : ℕ). l < lease_count g) (sym is.3) (image-below g is.0 is.1),
)
lies-under g kind.Log block home is = (
  placed (record { place = Log (record { 0 = is.0 }); is = is.1; here = sym is.2; under = ap Some (sym is.3) }),
  subst (λ (l : ℕ). l < lease_count g) (sym is.3) (image-below g is.0 is.1),
)
lies-under g kind.JData block home is = (
  placed (record { place = JData (record { 0 = is.0 }) is.1; is = (is.2, is.3); here = sym is.4; under = ap Some (sym is.5) }),
  subst (λ (l : ℕ). l < lease_count g) (sym is.5) (image-below g is.0 is.2),
)
lies-under g kind.JCommit block home is = (
  placed (record { place = JDesc (record { 0 = is.0 }) is.1; is = (is.2, is.3); here = sym is.4; under = ap Some (sym is.5) }),
  subst (λ (l : ℕ). l < lease_count g) (sym is.5) (image-below g is.0 is.2),
)

pub writes-have-homes : WritesHaveHomes
writes-have-homes w reached number write found unclaimed =
    let rests = rests-home-of w.geometry write.kind write.block write.bytes (w.rests number) ((reached-leased reached).right number write found).placed unclaimed in
    let under = lies-under w.geometry write.kind write.block rests.home rests.is in
    (rests.home, under.1, ap home_of rests.all, under.0)
