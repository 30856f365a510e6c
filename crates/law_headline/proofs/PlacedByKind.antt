-- What holds of a write's own block, by its kind, while its home stands.
use Rattle.std.proofs.Common.{◌≡◌, ℕ, ◌<◌, List, Bool, length}
use Rattle.plx_base.specs.Sectors.{Device, put, with_landed_sectors}
use Rattle.plx_base.specs.declared.write_kind.WriteKind.{WriteKind}
use Rattle.plx_base.specs.declared.write_kind.WriteKind.TheVariants as kind
use Rattle.plx_commands.specs.Model.{Slot}
use Rattle.plx_geom.specs.Geometry.{Geometry, image_lease}
use Rattle.law_headline.proofs.BytesByKind.{OnlyBytes}
use Rattle.law_headline.proofs.Held.{IsOf}
use Rattle.law_headline.proofs.Journals.{HoldsSlot}

-- whatever of the write lands, the image is kept
abbrev pub KeepsAll : Geometry → Device → (image : ℕ) → Slot → (block : ℕ) → (bytes : List ℕ) → Type 0
KeepsAll g device i slot block bytes = (flags : List Bool) → length flags ≡ 8 → HoldsSlot g (put device block (with_landed_sectors flags bytes (device block))) i slot

-- where the home is an image's lease the block is one of that image, which is kept whatever lands
abbrev pub KeepsImage : Geometry → Device → (slots : ℕ → Slot) → (home block : ℕ) → (bytes : List ℕ) → Type 0
KeepsImage g device slots home block bytes = (i : ℕ) → i < g.images → home ≡ image_lease i → IsOf g i block × KeepsAll g device i (slots i) block bytes

-- a record and a journal's blocks are the image's to write, and only their own bytes differ; of maps more is said as they are issued, of leases by the law of leases, and nothing yet of trees
abbrev pub PlacedBy : WriteKind → Geometry → Device → (slots : ℕ → Slot) → (home block : ℕ) → (bytes : List ℕ) → Type 0
PlacedBy kind.Claim g device slots home block bytes = Unit {0}
PlacedBy kind.Renew g device slots home block bytes = Unit {0}
PlacedBy kind.Release g device slots home block bytes = Unit {0}
PlacedBy kind.Take g device slots home block bytes = Unit {0}
PlacedBy kind.Give g device slots home block bytes = Unit {0}
PlacedBy kind.Sweep g device slots home block bytes = Unit {0}
PlacedBy kind.Fresh g device slots home block bytes = Unit {0}
PlacedBy kind.Link g device slots home block bytes = Unit {0}
PlacedBy kind.Overwrite g device slots home block bytes = Unit {0}
PlacedBy kind.Record g device slots home block bytes = OnlyBytes kind.Record bytes (device block) × KeepsImage g device slots home block bytes
PlacedBy kind.Log g device slots home block bytes = Unit {0}
PlacedBy kind.JData g device slots home block bytes = OnlyBytes kind.JData bytes (device block) × KeepsImage g device slots home block bytes
PlacedBy kind.JCommit g device slots home block bytes = OnlyBytes kind.JCommit bytes (device block) × KeepsImage g device slots home block bytes

-- it holds on another device, or of other slots, where both of its halves do
pub placed-moves : (k : WriteKind) (g : Geometry) (d e : Device) (slots others : ℕ → Slot) (home block : ℕ) (bytes : List ℕ) → (OnlyBytes k bytes (d block) → OnlyBytes k bytes (e block)) →
    (KeepsImage g d slots home block bytes → KeepsImage g e others home block bytes) → PlacedBy k g d slots home block bytes → PlacedBy k g e others home block bytes
placed-moves kind.Claim g d e slots others home block bytes only keeps placed = tt
placed-moves kind.Renew g d e slots others home block bytes only keeps placed = tt
placed-moves kind.Release g d e slots others home block bytes only keeps placed = tt
placed-moves kind.Take g d e slots others home block bytes only keeps placed = tt
placed-moves kind.Give g d e slots others home block bytes only keeps placed = tt
placed-moves kind.Sweep g d e slots others home block bytes only keeps placed = tt
placed-moves kind.Fresh g d e slots others home block bytes only keeps placed = tt
placed-moves kind.Link g d e slots others home block bytes only keeps placed = tt
placed-moves kind.Overwrite g d e slots others home block bytes only keeps placed = tt
placed-moves kind.Record g d e slots others home block bytes only keeps placed = (only placed.0, keeps placed.1)
placed-moves kind.Log g d e slots others home block bytes only keeps placed = tt
placed-moves kind.JData g d e slots others home block bytes only keeps placed = (only placed.0, keeps placed.1)
placed-moves kind.JCommit g d e slots others home block bytes only keeps placed = (only placed.0, keeps placed.1)
