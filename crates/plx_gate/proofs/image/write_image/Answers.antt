use Rattle.std.proofs.Common.{ap, sym, ◌∙◌}
use Rattle.plx_base.specs.Spelling.{block_of_fields}
use Rattle.plx_base.proofs.Spelling.{only-of}
use Rattle.plx_gate.specs.Images.{image_bytes, image_fields, image_magic}
use Rattle.plx_gate.proofs.Images.{image-eq, image-sector}
use Rattle.plx_gate.proofs.image.write_image.Goals as goal

pub returns-clause-spelled : goal.returns-clause-spelled
returns-clause-spelled c =
    c.put_record.ensures
    ∙ (ap (λ f. block_of_fields image_magic f c.label.result.now) c.fields.ensures
    ∙ (ap (block_of_fields image_magic (image_fields c.args.value.now)) c.label.ensures.same ∙ sym (image-eq c.args.value.now)))

pub returns-clause-sector : goal.returns-clause-sector
returns-clause-sector c =
    λ old within is. only-of 0 c.put_record.new.bytes c.args.bytes.now (image_bytes c.args.value.now) (image_bytes old) (returns-clause-spelled c) is
    (image-sector c.args.value.now old c.requires.limits within)
