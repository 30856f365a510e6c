-- Blocks of pools, and leases in the places of their extents.
use Rattle.std.specs.Prelude.{◌+◌, ◌-◌, ◌%◌, ◌<◌, ◌≤◌, ◌≡◌, ℕ, List, All, Option, Some, None, get_or}
use Rattle.plx_base.specs.declared.numbers.BlockNo.{BlockNo}
use Rattle.plx_geom.specs.Geometry.{Geometry, block_count, extents_start}
use Rattle.plx_token.specs.declared.held.Held.{Held}
use Rattle.plx_token.specs.declared.kind.Extent.{Extent}

-- a block is one of a pool: it lies in an extent, and isn't the extent's map
pub record IsInPool (g : Geometry) (block : ℕ) : Type 0 where
  pub low : extents_start g ≤ block
  pub high : block < block_count g
  pub own : 1 ≤ (block - extents_start g) % g.extent_blocks

-- each of these blocks is one of a pool
abbrev pub AreInPool : Geometry → List BlockNo → Type 0
AreInPool g blocks = All (λ block. IsInPool g block.0) blocks

-- each of these blocks lies in the extent that has so many blocks, of which the first is its map
abbrev pub AreBetween : (map count : ℕ) → List BlockNo → Type 0
AreBetween map count blocks = All (λ block. (map < block.0) × (block.0 < map + count)) blocks

-- each lease stands in the place of its extent
abbrev pub AreOwn : List (Option (Held Extent)) → Type 0
AreOwn extents = (extent : ℕ) (held : Held Extent) → get_or extents extent None ≡ Some held → held.lease.0.0 ≡ extent
