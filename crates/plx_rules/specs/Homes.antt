-- Under which lease a block lies, and on which leases each issued write rests.
use Rattle.std.specs.Prelude.{◌≡◌, ◌<◌, ◌⊎◌, ℕ, List, [], ◌∷◌, Option, Some, None, slice_get}
use Rattle.plx_base.specs.declared.write_kind.WriteKind.{WriteKind}
use Rattle.plx_base.specs.declared.write_kind.WriteKind.TheVariants as kind
use Rattle.plx_disk.specs.Writes.{Issued}
use Rattle.plx_geom.specs.Geometry.{Geometry, IsPoolBlock, lease_count, root_lease, image_lease}
use Rattle.plx_geom.specs.Geometry.{extent_lease, lease_at, record_at, log_at, descriptor_at}
use Rattle.plx_geom.specs.Geometry.{data_at, map_at}
use Rattle.plx_geom.specs.Places.{IsPlace, block_of}
use Rattle.plx_geom.specs.declared.place.Place.{Place}
use Rattle.plx_geom.specs.declared.place.Place.TheVariants.{Super, RootLease, ImageLease}
use Rattle.plx_geom.specs.declared.place.Place.TheVariants.{ExtentLease, Record, Log, JDesc, JData}
use Rattle.plx_geom.specs.declared.place.Place.TheVariants.{Map, Pool}
use Rattle.plx_rules.specs.Rests.{AreWithin, extents_of, home_of}
use Rattle.plx_rules.specs.World.{World, Reached}

-- the lease under which a place lies: an image's record, log and journal under that image's, and a
-- map under its extent's; nothing else lies under one by its place
abbrev pub lease_over : Geometry → Place → Option ℕ
lease_over g (Record image) = Some (image_lease image.0)
lease_over g (Log image) = Some (image_lease image.0)
lease_over g (JDesc image slot) = Some (image_lease image.0)
lease_over g (JData image slot) = Some (image_lease image.0)
lease_over g (Map extent) = Some (extent_lease g extent.0)
lease_over g Super = None
lease_over g RootLease = None
lease_over g (ImageLease image) = None
lease_over g (ExtentLease extent) = None
lease_over g (Pool extent bit) = None

-- a block is covered by a lease
pub record Covers (g : Geometry) (lease block : ℕ) : Type 0 where
  pub place : Place
  pub is : IsPlace g place
  pub here : block_of g place ≡ block
  pub under : lease_over g place ≡ Some lease

-- a block lies under a lease: it is the lease's own, its place lies there, or it is a block of the
-- pool, and the lease is its extent's or an image's
pub data LiesUnder (g : Geometry) (block : ℕ) : (lease : ℕ) → Type 0 where
  own : {lease : ℕ} → block ≡ lease_at lease → LiesUnder g block lease
  placed : {lease : ℕ} → Covers g lease block → LiesUnder g block lease
  in_extent : (extent bit : ℕ) → IsPoolBlock g extent bit block →
      LiesUnder g block (extent_lease g extent)
  in_image : (extent bit image : ℕ) → IsPoolBlock g extent bit block → image < g.images →
      LiesUnder g block (image_lease image)

-- each issued write but a claim has a home, the first of the leases on which it rests, and its
-- block lies under that
abbrev pub WritesHaveHomes : Type 0
WritesHaveHomes = (w : World) → Reached w → (number : ℕ) (write : Issued) →
    slice_get w.surface.writes number ≡ Some write → ¬ (write.kind ≡ kind.Claim) →
    (home : ℕ) × (home < lease_count w.geometry) × (home_of (w.rests number) ≡ Some home)
    × LiesUnder w.geometry write.block home

-- ---- by kind

-- a block is the map of an extent, of which this is the lease
abbrev pub IsMapUnder : Geometry → (block lease : ℕ) → Type 0
IsMapUnder g block lease =
    (extent : ℕ) × (extent < g.extents) × (block ≡ map_at g extent)
    × (lease ≡ extent_lease g extent)

-- a lease is the home of a write of this kind to this block: the block tells it, but where it is a
-- tree's, whose home is the lease of an image
abbrev pub IsHomeOf : Geometry → WriteKind → (block home : ℕ) → Type 0
IsHomeOf g kind.Claim block home = ⊥
IsHomeOf g kind.Renew block home = (home < lease_count g) × (block ≡ lease_at home)
IsHomeOf g kind.Release block home = (home < lease_count g) × (block ≡ lease_at home)
IsHomeOf g kind.Take block home = IsMapUnder g block home
IsHomeOf g kind.Give block home = IsMapUnder g block home
IsHomeOf g kind.Sweep block home = IsMapUnder g block home
IsHomeOf g kind.Fresh block home =
    (extent : ℕ) × (bit : ℕ) × IsPoolBlock g extent bit block × (home ≡ extent_lease g extent)
IsHomeOf g kind.Link block home =
    (image : ℕ) × (image < g.images)
    × ((extent : ℕ) × (bit : ℕ) × IsPoolBlock g extent bit block) × (home ≡ image_lease image)
IsHomeOf g kind.Overwrite block home =
    (image : ℕ) × (image < g.images)
    × ((extent : ℕ) × (bit : ℕ) × IsPoolBlock g extent bit block) × (home ≡ image_lease image)
IsHomeOf g kind.Record block home =
    (image : ℕ) × (image < g.images) × (block ≡ record_at g image) × (home ≡ image_lease image)
IsHomeOf g kind.Log block home =
    (image : ℕ) × (image < g.images) × (block ≡ log_at g image) × (home ≡ image_lease image)
IsHomeOf g kind.JData block home =
    (image : ℕ) × (slot : ℕ) × (image < g.images) × (slot < g.slots)
    × (block ≡ data_at g image slot) × (home ≡ image_lease image)
IsHomeOf g kind.JCommit block home =
    (image : ℕ) × (slot : ℕ) × (image < g.images) × (slot < g.slots)
    × (block ≡ descriptor_at g image slot) × (home ≡ image_lease image)

-- the leases of the extents of some blocks
abbrev pub AreOfExtents : Geometry → List ℕ → Type 0
AreOfExtents g leases = (blocks : List ℕ) × AreWithin g blocks × (leases ≡ extents_of g blocks)

-- the leases on which a write of this kind rests beside its home: a sweep on the root's, and one
-- that may link blocks on those of their extents
abbrev pub AreBeside : Geometry → WriteKind → (others : List ℕ) → Type 0
AreBeside g kind.Claim others = others ≡ []
AreBeside g kind.Renew others = others ≡ []
AreBeside g kind.Release others = others ≡ []
AreBeside g kind.Take others = others ≡ []
AreBeside g kind.Give others = others ≡ []
AreBeside g kind.Sweep others = others ≡ root_lease ∷ []
AreBeside g kind.Fresh others = others ≡ []
AreBeside g kind.Link others = AreOfExtents g others
AreBeside g kind.Overwrite others = others ≡ []
AreBeside g kind.Record others = AreOfExtents g others
AreBeside g kind.Log others = others ≡ []
AreBeside g kind.JData others = others ≡ []
AreBeside g kind.JCommit others = others ≡ []

-- a write rests on its home, which stands first, on those leases, and on no others
pub record RestsOnHome (g : Geometry) (kind : WriteKind) (block : ℕ) (rests : List ℕ) : Type 0 where
  pub home : ℕ
  pub others : List ℕ
  pub all : rests ≡ home ∷ others
  pub is : IsHomeOf g kind block home
  pub beside : AreBeside g kind others

-- each issued write does, and a claim rests on nothing
abbrev pub RestsAsNeeded : Type 0
RestsAsNeeded = (w : World) → Reached w → (number : ℕ) (write : Issued) →
    slice_get w.surface.writes number ≡ Some write →
    ((write.kind ≡ kind.Claim) × (w.rests number ≡ []))
    ⊎ RestsOnHome w.geometry write.kind write.block (w.rests number)
