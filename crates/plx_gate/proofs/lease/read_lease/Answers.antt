use Rattle.std.proofs.Common.{◌≡◌, [], ap, sym, subst, ◌∙◌, refl, true, false}
use Rattle.plx_base.specs.Spelling.{IsReading, block_of_fields}
use Rattle.plx_gate.specs.Leases.{IsLease, lease_bytes, lease_magic}
use Rattle.plx_gate.proofs.Leases.{lease-eq, lease-other, lease-past, lease-reading, lease-some}
use Rattle.plx_gate.proofs.lease.read_lease.Goals as goal

pub returns-then-not-is_within-clause-same : goal.returns-then-not-is_within-clause-same
returns-then-not-is_within-clause-same c = lease-past c.args.bytes.now c.found-lease.result c.found-lease.ensures (sym c.if-not-is_within.ensures)

pub returns-then-not-is_within-clause-grammar : goal.returns-then-not-is_within-clause-grammar
returns-then-not-is_within-clause-grammar c =
    subst (IsReading IsLease lease_bytes c.args.bytes.now) (sym (returns-then-not-is_within-clause-same c)) (lease-reading c.args.bytes.now)

pub returns-then-not-is_record-clause-same : goal.returns-then-not-is_record-clause-same
returns-then-not-is_record-clause-same c =
    lease-other c.args.bytes.now c.found-lease.result c.found-lease.ensures
    (λ same. let bad : false ≡ true = c.if-not-is_record.ensures.1 (same ∙ (lease-eq c.found-lease.result ∙ ap (λ f. block_of_fields lease_magic f []) (sym c.fields.ensures))) in cc)

pub returns-then-not-is_record-clause-grammar : goal.returns-then-not-is_record-clause-grammar
returns-then-not-is_record-clause-grammar c =
    subst (IsReading IsLease lease_bytes c.args.bytes.now) (sym (returns-then-not-is_record-clause-same c)) (lease-reading c.args.bytes.now)

pub returns-clause-same : goal.returns-clause-same
returns-clause-same c =
    lease-some c.args.bytes.now c.found-lease.result c.found-lease.ensures (sym c.if-not-is_within.ensures)
    (c.if-not-is_record.ensures.0 refl ∙ (ap (λ f. block_of_fields lease_magic f []) c.fields.ensures ∙ sym (lease-eq c.found-lease.result)))

pub returns-clause-grammar : goal.returns-clause-grammar
returns-clause-grammar c = subst (IsReading IsLease lease_bytes c.args.bytes.now) (sym (returns-clause-same c)) (lease-reading c.args.bytes.now)
