-- Writes of an image's record and journal: what a kind owes, in one lemma each, so that the invariant asks for no kind.
use Rattle.std.proofs.Common.{◌≡◌, ℕ, ◌<◌, ◌⊎◌, inl, inr, List, Bool, true, Some, refl, ap, sym, subst, ◌∙◌, length}
use Rattle.std.proofs.lemmas.Bool.Decides.{eqb_tells}
use Rattle.plx_base.specs.Sectors.{Device, put, with_landed_sectors}
use Rattle.plx_base.specs.declared.write_kind.WriteKind.{WriteKind}
use Rattle.plx_base.specs.declared.write_kind.WriteKind.TheVariants as kind
use Rattle.plx_commands.specs.Model.{Model, Slot}
use Rattle.plx_commands.specs.Replies.{is_in}
use Rattle.plx_commands.specs.declared.command.Command.{Command}
use Rattle.plx_geom.proofs.Places.{image-extent, image-image}
use Rattle.plx_geom.specs.Geometry.{Geometry, IsGeometry, image_lease, extent_lease, record_at, descriptor_at, data_at}
use Rattle.plx_geom.specs.declared.place.Place.TheVariants as place
use Rattle.plx_rules.specs.Process.{Process, WriteThen}
use Rattle.plx_rules.specs.Ends.{End}
use Rattle.plx_rules.specs.Holds.{Hold}
use Rattle.plx_rules.specs.Rests.{home_of}
use Rattle.plx_rules.specs.Session.{Known}
use Rattle.plx_rules.specs.Homes.{Covers}
use Rattle.law_lease.proofs.Covers.{one-cover, lease-uncovered, pool-uncovered, home-covers, write-covered}
use Rattle.law_lease.proofs.Frame.{SameUnder}
use Rattle.law_lease.proofs.Leased.{MayIssue, MayUse, IsPlaced}
use Rattle.law_lease.proofs.Rests.{home-in}
use Rattle.law_headline.proofs.Content.{IsJournalled}
use Rattle.law_headline.proofs.Held.{Regime, IsWith, Looks, IsOf, HeldProcess, IsNamed}
use Rattle.law_headline.proofs.Journals.{HoldsSlot, Same}
use Rattle.law_headline.proofs.BytesByKind.{OnlyBytes}
use Rattle.law_headline.proofs.PlacedByKind.{KeepsImage, PlacedBy}
use Rattle.law_model.proofs.Replied.{Names}
use Rattle.plx_base.proofs.Tests.{same-some}

-- ---- by kind

-- a write whose home is an image's lease is of that image
of-image : (g : Geometry) (i j block : ℕ) (rests : List ℕ) → home_of rests ≡ Some (image_lease i) → home_of rests ≡ Some (image_lease j) → IsOf g j block → IsOf g i block
of-image g i j block rests home its of = subst (λ (n : ℕ). IsOf g n block) (image-image j i (same-some (image_lease j) (image_lease i) (sym its ∙ home))) of

-- a write that its image's lease covers is one of its record or journal
pub image-write : (g : Geometry) → IsGeometry g → (i block : ℕ) (bytes rests : List ℕ) → i < g.images → Covers g (image_lease i) block → home_of rests ≡ Some (image_lease i) →
    (k : WriteKind) → IsPlaced g k block bytes rests → IsOf g i block × IsJournalled k
image-write g geometry i block bytes rests within covers home kind.Claim placed = absurd (lease-uncovered g (image_lease i) block placed.0 placed.1 placed.2 covers)
image-write g geometry i block bytes rests within covers home kind.Renew placed = absurd (lease-uncovered g (image_lease i) block placed.0 placed.1 placed.2 covers)
image-write g geometry i block bytes rests within covers home kind.Release placed = absurd (lease-uncovered g (image_lease i) block placed.0 placed.1 placed.2 covers)
image-write g geometry i block bytes rests within covers home kind.Take placed = absurd (image-extent g i placed.0 within (same-some (image_lease i) (extent_lease g placed.0) (sym home ∙ ap home_of placed.3)))
image-write g geometry i block bytes rests within covers home kind.Give placed = absurd (image-extent g i placed.0 within (same-some (image_lease i) (extent_lease g placed.0) (sym home ∙ ap home_of placed.3)))
image-write g geometry i block bytes rests within covers home kind.Sweep placed = absurd (image-extent g i placed.0 within (same-some (image_lease i) (extent_lease g placed.0) (sym home ∙ ap home_of placed.3)))
image-write g geometry i block bytes rests within covers home kind.Fresh placed = absurd (image-extent g i placed.0 within (same-some (image_lease i) (extent_lease g placed.0) (sym home ∙ ap home_of placed.3)))
image-write g geometry i block bytes rests within covers home kind.Link placed = absurd (pool-uncovered g geometry (image_lease i) placed.2.0 placed.2.1 block placed.2.2 covers)
image-write g geometry i block bytes rests within covers home kind.Overwrite placed = absurd (pool-uncovered g geometry (image_lease i) placed.2.0 placed.2.1 block placed.2.2 covers)
image-write g geometry i block bytes rests within covers home kind.Record placed = (of-image g i placed.0 block rests home (ap home_of placed.3.2) (inl placed.2), tt)
image-write g geometry i block bytes rests within covers home kind.JData placed = (of-image g i placed.0 block rests home (ap home_of placed.5) (inr (placed.1, placed.3, inr placed.4)), tt)
image-write g geometry i block bytes rests within covers home kind.JCommit placed = (of-image g i placed.0 block rests home (ap home_of placed.5) (inr (placed.1, placed.3, inl placed.4)), tt)
image-write g geometry i block bytes rests within covers home other placed = absurd placed

-- it is of an image that its command names
pub named-image : (g : Geometry) (command : Command) (block : ℕ) (k : WriteKind) → IsJournalled k → IsNamed g command k block → (i : ℕ) × (i < g.images) × IsOf g i block × Names command i
named-image g command block kind.Record is named = named
named-image g command block kind.JData is named = named
named-image g command block kind.JCommit is named = named
named-image g command block other is named = absurd is

-- it uses leases that are held
pub use-image : (g : Geometry) (boot : ℕ) (holds : ℕ → Hold) (rests : List ℕ) (block : ℕ) (bytes : List ℕ) (guard : ℕ) (k : WriteKind) → IsJournalled k →
    MayIssue g boot holds rests k block bytes guard → MayUse g holds rests k block bytes guard
use-image g boot holds rests block bytes guard kind.Record is may = may
use-image g boot holds rests block bytes guard kind.JData is may = may
use-image g boot holds rests block bytes guard kind.JCommit is may = may
use-image g boot holds rests block bytes guard other is may = absurd is

-- of its block only its own bytes differ, and the image is kept whatever of it lands
pub placed-made : (k : WriteKind) (g : Geometry) (device : Device) (slots : ℕ → Slot) (home block : ℕ) (bytes : List ℕ) → IsJournalled k → OnlyBytes k bytes (device block) → KeepsImage g device slots home block bytes →
    PlacedBy k g device slots home block bytes
placed-made kind.Record g device slots home block bytes is only keeps = (only, keeps)
placed-made kind.JData g device slots home block bytes is only keeps = (only, keeps)
placed-made kind.JCommit g device slots home block bytes is only keeps = (only, keeps)
placed-made other g device slots home block bytes is only keeps = absurd is

pub placed-keeps : (k : WriteKind) (g : Geometry) (device : Device) (slots : ℕ → Slot) (home block : ℕ) (bytes : List ℕ) → IsJournalled k → PlacedBy k g device slots home block bytes →
    KeepsImage g device slots home block bytes
placed-keeps kind.Record g device slots home block bytes is placed = placed.1
placed-keeps kind.JData g device slots home block bytes is placed = placed.1
placed-keeps kind.JCommit g device slots home block bytes is placed = placed.1
placed-keeps other g device slots home block bytes is placed = absurd is

-- a write is one of the image whose lease is its home, or nothing is said of its block
pub placed-block : (g : Geometry) (k : WriteKind) (block : ℕ) (bytes rests : List ℕ) (home : ℕ) → IsPlaced g k block bytes rests → home_of rests ≡ Some home →
    ((i : ℕ) × (i < g.images) × (home ≡ image_lease i) × IsOf g i block × IsJournalled k) ⊎ ((device : Device) (slots : ℕ → Slot) → PlacedBy k g device slots home block bytes)
placed-block g kind.Claim block bytes rests home placed is = inr (λ device slots. tt)
placed-block g kind.Renew block bytes rests home placed is = inr (λ device slots. tt)
placed-block g kind.Release block bytes rests home placed is = inr (λ device slots. tt)
placed-block g kind.Take block bytes rests home placed is = inr (λ device slots. tt)
placed-block g kind.Give block bytes rests home placed is = inr (λ device slots. tt)
placed-block g kind.Sweep block bytes rests home placed is = inr (λ device slots. tt)
placed-block g kind.Fresh block bytes rests home placed is = inr (λ device slots. tt)
placed-block g kind.Link block bytes rests home placed is = inr (λ device slots. tt)
placed-block g kind.Overwrite block bytes rests home placed is = inr (λ device slots. tt)
placed-block g kind.Record block bytes rests home placed is = inl (placed.0, placed.1, same-some home (image_lease placed.0) (sym is ∙ ap home_of placed.3.2), inl placed.2, tt)
placed-block g kind.JData block bytes rests home placed is = inl (placed.0, placed.2, same-some home (image_lease placed.0) (sym is ∙ ap home_of placed.5), inr (placed.1, placed.3, inr placed.4), tt)
placed-block g kind.JCommit block bytes rests home placed is = inl (placed.0, placed.2, same-some home (image_lease placed.0) (sym is ∙ ap home_of placed.5), inr (placed.1, placed.3, inl placed.4), tt)
placed-block g other block bytes rests home placed is = absurd placed

module _ (g : Geometry) (a i : ℕ) (command : Command) (known : Known) (regime : Regime) (block : ℕ) (bytes : List ℕ) (guard : ℕ) (done fault : Process End) (missed : ℕ → Process End) (device : Device) where
  -- what an owner owes where it asks for a write of its image: whatever of it lands the image is kept, and what follows is right on the device with all of it landed
  pub record IsImageWrite (k : WriteKind) : Type 0 where
    pub of : IsOf g i block
    pub keeps : (flags : List Bool) → length flags ≡ 8 → (m : Model) → Looks g a i command known regime m → HoldsSlot g (put device block (with_landed_sectors flags bytes (device block))) i (m.slots i)
    pub follows : HeldProcess g a i command known regime done (put device block bytes)
    pub changes : IsWith regime
    pub only : OnlyBytes k bytes (device block)

  pub held-image-write : (k : WriteKind) → IsJournalled k → HeldProcess g a i command known regime (WriteThen k block bytes guard done fault missed) device → IsImageWrite k
  held-image-write kind.Record is held = record { of = held.0; keeps = held.1; follows = held.2; changes = held.3; only = held.4 }
  held-image-write kind.JData is held = record { of = held.0; keeps = held.1; follows = held.2; changes = held.3; only = held.4 }
  held-image-write kind.JCommit is held = record { of = held.0; keeps = held.1; follows = held.2; changes = held.3; only = held.4 }
  held-image-write other is held = absurd is

  pub image-held : (k : WriteKind) → IsJournalled k → IsImageWrite k → HeldProcess g a i command known regime (WriteThen k block bytes guard done fault missed) device
  image-held kind.Record is write = (write.of, write.keeps, write.follows, write.changes, write.only)
  image-held kind.JData is write = (write.of, write.keeps, write.follows, write.changes, write.only)
  image-held kind.JCommit is write = (write.of, write.keeps, write.follows, write.changes, write.only)
  image-held other is write = absurd is

  -- an owner asks for the release of its lease, or for a write of its image
  pub held-or : (k : WriteKind) → HeldProcess g a i command known regime (WriteThen k block bytes guard done fault missed) device →
      (HeldProcess g a i command known regime done device) ⊎ (IsOf g i block)
  held-or kind.Release held = inl held.1
  held-or other held = inr held.0

-- ---- by the lease that covers the block

-- what an image's lease covers of it
pub of-covers : (g : Geometry) (i block : ℕ) → i < g.images → IsOf g i block → Covers g (image_lease i) block
of-covers g i block within (inl at) = record { place = place.Record (record { 0 = i }); is = within; here = sym at; under = refl }
of-covers g i block within (inr (slot, below, inl at)) = record { place = place.JDesc (record { 0 = i }) slot; is = (within, below); here = sym at; under = refl }
of-covers g i block within (inr (slot, below, inr at)) = record { place = place.JData (record { 0 = i }) slot; is = (within, below); here = sym at; under = refl }

-- where what its lease covers is the same, what the image has is the same
pub same-under : (g : Geometry) (i : ℕ) (d e : Device) → i < g.images → SameUnder g (image_lease i) d e → Same g i d e
same-under g i d e within same = record {
  recorded = same (record_at g i) (of-covers g i (record_at g i) within (inl refl));
  descriptors = λ slot below. same (descriptor_at g i slot) (of-covers g i (descriptor_at g i slot) within (inr (slot, below, inl refl)));
  blocks = λ slot below. same (data_at g i slot) (of-covers g i (data_at g i slot) within (inr (slot, below, inr refl)));
}

-- a block of two images is one image's
pub of-one-image : (g : Geometry) → IsGeometry g → (i j block : ℕ) → i < g.images → j < g.images → IsOf g i block → IsOf g j block → i ≡ j
of-one-image g geometry i j block wi wj one two = image-image i j (one-cover g geometry (image_lease i) (image_lease j) block (of-covers g i block wi one) (of-covers g j block wj two))

-- a write is one of the image, and rests on its lease; or its block is none of the image's
pub placed-cases : (g : Geometry) → IsGeometry g → (k : WriteKind) (block : ℕ) (bytes rests : List ℕ) → IsPlaced g k block bytes rests → (i : ℕ) → i < g.images →
    (IsOf g i block × IsJournalled k × (is_in (image_lease i) rests ≡ true)) ⊎ (IsOf g i block → ⊥)
placed-cases g geometry k block bytes rests placed i within = elim (home-covers g k block bytes rests placed) [
  | inl lease ↦ inr (λ of. lease-uncovered g (image_lease i) block lease.0 lease.1 lease.2 (of-covers g i block within of))
  | inr (inr pool) ↦ inr (λ of. pool-uncovered g geometry (image_lease i) pool.0 pool.1 block pool.2 (of-covers g i block within of))
  | inr (inl home) ↦ elim (eqb_tells home.0 (image_lease i)) [
    | inl same ↦
        let is : home_of rests ≡ Some (image_lease i) = home.1 ∙ ap Some same.1 in
        let its = image-write g geometry i block bytes rests within (subst (λ (l : ℕ). Covers g l block) same.1 home.2) is k placed in
        inl (its.0, its.1, home-in (image_lease i) rests is)
    | inr away ↦ inr (λ of. away.1 (same-some home.0 (image_lease i) (sym home.1 ∙ write-covered g geometry k block bytes rests placed (image_lease i) (of-covers g i block within of))))
  ]
]
