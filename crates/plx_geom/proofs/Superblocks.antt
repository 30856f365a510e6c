-- Superblocks as bytes: a geometry is read back from its own, and each geometry has one.
use Rattle.std.proofs.Common.{◌≡◌, ◌≢◌, ℕ, List, [], ◌∷◌, length, refl, ap, sym, subst, ◌∙◌, arith}
use Rattle.plx_base.specs.Fields.{number_at}
use Rattle.plx_base.specs.Spelling.{field_number, block_of_fields}
use Rattle.plx_base.specs.declared.stored.Field.{Field}
use Rattle.plx_base.proofs.Spelling.{AreFields, spelled-fields, length-spelled}
use Rattle.plx_geom.specs.Geometry.{Geometry, IsGeometry, geometry_of}
use Rattle.plx_geom.specs.Superblock.{superblock_magic, superblock_fields, superblock_bytes}

-- the geometry whose numbers stand at the places of the fields
abbrev pub found_geometry : List ℕ → Geometry
found_geometry bytes = geometry_of (number_at 4 8 bytes) (number_at 4 12 bytes) (number_at 4 16 bytes) (number_at 4 20 bytes)

-- the geometry of four fields
abbrev geometry_in : List Field → Geometry
geometry_in (a ∷ b ∷ c ∷ d ∷ rest) = geometry_of (field_number a) (field_number b) (field_number c) (field_number d)
geometry_in (a ∷ b ∷ c ∷ []) = geometry_of 0 0 0 0
geometry_in (a ∷ b ∷ []) = geometry_of 0 0 0 0
geometry_in (a ∷ []) = geometry_of 0 0 0 0
geometry_in [] = geometry_of 0 0 0 0

-- each field is a number of four bytes
small-geometry_fields : (g : Geometry) → IsGeometry g → AreFields (superblock_fields g)
small-geometry_fields g h =
    let a = h.images_high in
    let b = h.extents_high in
    let c = h.blocks_high in
    let d = h.slots_high in
    (omega (arith, a), (omega (arith, b), (omega (arith, c), (omega (arith, d), tt))))

-- a geometry is read back from its superblock
pub superblock-back : (g : Geometry) → IsGeometry g → found_geometry (superblock_bytes g) ≡ g
unfolding superblock_bytes
superblock-back g h = ap geometry_in (spelled-fields superblock_magic (superblock_fields g) [] (small-geometry_fields g h))

-- two geometries with one superblock are one
pub superblock-same : (g h : Geometry) → IsGeometry g → IsGeometry h → superblock_bytes g ≡ superblock_bytes h → g ≡ h
superblock-same g h is other same = sym (superblock-back g is) ∙ (ap found_geometry same ∙ superblock-back h other)

-- a superblock fills a block
pub length-superblock : (g : Geometry) → length (superblock_bytes g) ≡ 4096
unfolding superblock_bytes
length-superblock g = length-spelled superblock_magic (superblock_fields g) [] (omega arith)

-- bytes in which no geometry is found are no superblock
pub no-geometry : (bytes : List ℕ) (found : Geometry) → found ≡ found_geometry bytes → ¬ (IsGeometry found) → (g : Geometry) → IsGeometry g → bytes ≢ superblock_bytes g
no-geometry bytes found is not_found g h same = not_found (subst IsGeometry (sym (is ∙ (ap found_geometry same ∙ superblock-back g h))) h)

-- and so are bytes that spell another geometry than the one found
pub other-bytes : (bytes : List ℕ) (found : Geometry) → found ≡ found_geometry bytes → bytes ≢ superblock_bytes found → (g : Geometry) → IsGeometry g → bytes ≢ superblock_bytes g
other-bytes bytes found is not_spelled g h same = not_spelled (same ∙ ap superblock_bytes (sym (is ∙ (ap found_geometry same ∙ superblock-back g h))))

-- the spelling, written out
pub superblock-eq : (g : Geometry) → superblock_bytes g ≡ block_of_fields superblock_magic (superblock_fields g) []
unfolding superblock_bytes
superblock-eq g = refl

-- the geometry of the numbers that were read
pub found-is : (a b c d : ℕ) (read bytes : List ℕ) → read ≡ bytes → a ≡ number_at 4 8 read → b ≡ number_at 4 12 read → c ≡ number_at 4 16 read → d ≡ number_at 4 20 read →
    geometry_of a b c d ≡ found_geometry bytes
found-is a b c d read bytes same ha hb hc hd = rw (← same, ha, hb, hc, hd) refl
