use Rattle.std.proofs.Common.{[], ap, sym, ◌∙◌}
use Rattle.plx_base.specs.Blocks.{zeros}
use Rattle.plx_base.specs.Spelling.{block_of_fields}
use Rattle.plx_base.proofs.Spelling.{only-of}
use Rattle.plx_gate.specs.Descriptors.{descriptor_bytes, descriptor_magic}
use Rattle.plx_gate.proofs.Descriptors.{descriptor-eq, descriptor-sector, empty-sector}
use Rattle.plx_gate.proofs.descriptor.write_descriptor.Goals as goal

pub returns-clause-spelled : goal.returns-clause-spelled
returns-clause-spelled c = c.put_record.ensures ∙ (ap (λ f. block_of_fields descriptor_magic f []) c.fields.ensures ∙ sym (descriptor-eq c.args.value.now))

pub returns-clause-sector : goal.returns-clause-sector
returns-clause-sector c =
    λ old is. only-of 0 c.put_record.new.bytes c.args.bytes.now (descriptor_bytes c.args.value.now) (descriptor_bytes old) (returns-clause-spelled c) is (descriptor-sector c.args.value.now old)

pub returns-clause-empty : goal.returns-clause-empty
returns-clause-empty c =
    λ is. only-of 0 c.put_record.new.bytes c.args.bytes.now (descriptor_bytes c.args.value.now) zeros (returns-clause-spelled c) is (empty-sector c.args.value.now)
