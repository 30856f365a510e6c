-- The superblock as bytes.
use Rattle.std.specs.Prelude.{ℕ, List, [], ◌∷◌}
use Rattle.plx_base.specs.Spelling.{block_of_fields}
use Rattle.plx_base.specs.declared.stored.Field.{Field}
use Rattle.plx_base.specs.declared.stored.Field.TheVariants.{U32}
use Rattle.plx_geom.specs.Geometry.{Geometry}

-- the eight bytes that begin a superblock: PLXSUPR1
abbrev pub superblock_magic : List ℕ
superblock_magic = 80 ∷ 76 ∷ 88 ∷ 83 ∷ 85 ∷ 80 ∷ 82 ∷ 49 ∷ []

-- the fields of a superblock: images, extents, blocks of an extent and slots, each of four bytes
abbrev pub superblock_fields : Geometry → List Field
superblock_fields g =
    U32 g.images
    ∷ U32 g.extents
    ∷ U32 g.extent_blocks
    ∷ U32 g.slots
    ∷ []

-- the block that spells a geometry
unfoldable pub superblock_bytes : Geometry → List ℕ
superblock_bytes g = block_of_fields superblock_magic (superblock_fields g) []
