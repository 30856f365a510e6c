use Rattle.std.proofs.Common.{◌≡◌, [], ap, sym, ◌∙◌, refl, true, false}
use Rattle.plx_base.specs.Spelling.{block_of_fields}
use Rattle.plx_geom.specs.Geometry.{geometry_of}
use Rattle.plx_geom.specs.Superblock.{superblock_magic}
use Rattle.plx_geom.proofs.Superblocks.{superblock-eq, no-geometry, other-bytes, found-is, found_geometry}
use Rattle.plx_geom.proofs.superblock.read_superblock.Goals as goal

pub returns-in_default-clause-damaged : goal.returns-in_default-clause-damaged
returns-in_default-clause-damaged c =
    let a = c.get_u32-images.result in
    let b = c.get_u32-extents.result in
    let d = c.get_u32-extent_blocks.result in
    let e = c.get_u32-slots.result in
    no-geometry c.args.block.now (geometry_of a b d e)
    (found-is a b d e c.as_slice-bytes.result.now c.args.block.now c.as_slice-bytes.ensures.same c.get_u32-images.ensures c.get_u32-extents.ensures c.get_u32-extent_blocks.ensures c.get_u32-slots.ensures)
    (λ is. let bad : false ≡ true = c.in_default.ensures.limits.1 is in cc)

pub returns-then-not-is_record-clause-damaged : goal.returns-then-not-is_record-clause-damaged
returns-then-not-is_record-clause-damaged c =
    let g = c.in-Ok.geometry in
    let here : g ≡ found_geometry c.args.block.now =
    c.in-Ok.ensures.same
    ∙ found-is c.get_u32-images.result c.get_u32-extents.result c.get_u32-extent_blocks.result c.get_u32-slots.result c.as_slice-bytes.result.now c.args.block.now c.as_slice-bytes.ensures.same c.get_u32-images.ensures c.get_u32-extents.ensures c.get_u32-extent_blocks.ensures c.get_u32-slots.ensures in
    other-bytes c.args.block.now g here
    (λ same. let bad : false ≡ true =
    c.if-not-is_record.ensures.1 (c.as_slice-bytes.ensures.same ∙ (same ∙ (superblock-eq g ∙ ap (λ f. block_of_fields superblock_magic f []) (sym c.fields.ensures)))) in cc)

pub returns-clause-spelled : goal.returns-clause-spelled
returns-clause-spelled c =
    let g = c.in-Ok.geometry in
    sym c.as_slice-bytes.ensures.same ∙ (c.if-not-is_record.ensures.0 refl ∙ (ap (λ f. block_of_fields superblock_magic f []) c.fields.ensures ∙ sym (superblock-eq g)))
