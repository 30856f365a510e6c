-- Given bytes store one image at most.
use Rattle.std.specs.Prelude.{◌≡◌, ℕ}
use Rattle.plx_geom.specs.Geometry.{Geometry}
use Rattle.plx_rules.specs.Stored.{Given, StoredImage, Stores}

-- two images are one, as far as bytes are given
pub record IsSameImage (i k : StoredImage) : Type 0 where
  pub live : i.live ≡ k.live
  pub generation : i.generation ≡ k.generation
  pub size : i.size ≡ k.size
  pub label : i.label ≡ k.label
  pub writes : i.writes ≡ k.writes
  pub content : (vblock : ℕ) → i.content vblock ≡ k.content vblock
  pub frozen : i.frozen ≡ k.frozen

-- bytes that store two images in a slot store one
abbrev pub StoresOneImage : Type 0
StoresOneImage =
    (g : Geometry) (given : Given) (image : ℕ) (i k : StoredImage) →
    Stores g given image i → Stores g given image k → IsSameImage i k
