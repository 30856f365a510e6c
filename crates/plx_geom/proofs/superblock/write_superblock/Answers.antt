use Rattle.std.proofs.Common.{[], ap, sym, ◌∙◌}
use Rattle.plx_base.specs.Spelling.{block_of_fields}
use Rattle.plx_geom.specs.Superblock.{superblock_magic}
use Rattle.plx_geom.proofs.Superblocks.{superblock-eq}
use Rattle.plx_geom.proofs.superblock.write_superblock.Goals as goal

pub returns : goal.returns
returns c = c.put_record.ensures ∙ (ap (λ f. block_of_fields superblock_magic f []) c.fields.ensures ∙ sym (superblock-eq c.args.geometry.now))
