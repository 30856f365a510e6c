use Rattle.std.proofs.Common.{[], ap, sym, ◌∙◌}
use Rattle.plx_base.specs.Spelling.{block_of_fields}
use Rattle.plx_base.proofs.Spelling.{only-of}
use Rattle.plx_gate.specs.Leases.{lease_bytes, lease_magic}
use Rattle.plx_gate.proofs.Leases.{lease-eq, lease-sector}
use Rattle.plx_gate.proofs.lease.write_lease.Goals as goal

pub returns-clause-spelled : goal.returns-clause-spelled
returns-clause-spelled c = c.put_record.ensures ∙ (ap (λ f. block_of_fields lease_magic f []) c.fields.ensures ∙ sym (lease-eq c.args.value.now))

pub returns-clause-sector : goal.returns-clause-sector
returns-clause-sector c =
    λ old is. only-of 0 c.put_record.new.bytes c.args.bytes.now (lease_bytes c.args.value.now) (lease_bytes old) (returns-clause-spelled c) is (lease-sector c.args.value.now old)
