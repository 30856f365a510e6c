use Rattle.std.proofs.Common.{◌≡◌, [], ap, sym, subst, ◌∙◌, refl, true, false}
use Rattle.plx_base.specs.Spelling.{block_of_fields}
use Rattle.plx_gate.specs.Descriptors.{IsDescriptorReading, descriptor_magic, read_descriptor}
use Rattle.plx_gate.proofs.Descriptors.{All-zeros, descriptor-eq, descriptor-other, descriptor-past, descriptor-reading, descriptor-some, read-zeros, zeros-All}
use Rattle.plx_gate.proofs.descriptor.read_descriptor.Goals as goal

pub returns-then-are_zeros-clause-same : goal.returns-then-are_zeros-clause-same
returns-then-are_zeros-clause-same c = sym (ap read_descriptor (zeros-All c.args.bytes.now c.requires (c.if-are_zeros.ensures.0 refl)) ∙ read-zeros)

pub returns-then-are_zeros-clause-grammar : goal.returns-then-are_zeros-clause-grammar
returns-then-are_zeros-clause-grammar c = subst (IsDescriptorReading c.args.bytes.now) (sym (returns-then-are_zeros-clause-same c)) (descriptor-reading c.args.bytes.now)

pub returns-then-not-is_within-clause-same : goal.returns-then-not-is_within-clause-same
returns-then-not-is_within-clause-same c =
    descriptor-past c.args.bytes.now c.found-descriptor.result
    (λ e. let told : false ≡ true = c.if-are_zeros.ensures.1 (All-zeros c.args.bytes.now e) in cc)
    c.found-descriptor.ensures (sym c.if-not-is_within.ensures)

pub returns-then-not-is_within-clause-grammar : goal.returns-then-not-is_within-clause-grammar
returns-then-not-is_within-clause-grammar c = subst (IsDescriptorReading c.args.bytes.now) (sym (returns-then-not-is_within-clause-same c)) (descriptor-reading c.args.bytes.now)

pub returns-then-not-is_record-clause-same : goal.returns-then-not-is_record-clause-same
returns-then-not-is_record-clause-same c =
    descriptor-other c.args.bytes.now c.found-descriptor.result
    (λ e. let told : false ≡ true = c.if-are_zeros.ensures.1 (All-zeros c.args.bytes.now e) in cc)
    c.found-descriptor.ensures
    (λ same. let bad : false ≡ true = c.if-not-is_record.ensures.1 (same ∙ (descriptor-eq c.found-descriptor.result ∙ ap (λ f. block_of_fields descriptor_magic f []) (sym c.fields.ensures))) in cc)

pub returns-then-not-is_record-clause-grammar : goal.returns-then-not-is_record-clause-grammar
returns-then-not-is_record-clause-grammar c = subst (IsDescriptorReading c.args.bytes.now) (sym (returns-then-not-is_record-clause-same c)) (descriptor-reading c.args.bytes.now)

pub returns-clause-same : goal.returns-clause-same
returns-clause-same c =
    descriptor-some c.args.bytes.now c.found-descriptor.result
    (λ e. let told : false ≡ true = c.if-are_zeros.ensures.1 (All-zeros c.args.bytes.now e) in cc)
    c.found-descriptor.ensures (sym c.if-not-is_within.ensures)
    (c.if-not-is_record.ensures.0 refl ∙ (ap (λ f. block_of_fields descriptor_magic f []) c.fields.ensures ∙ sym (descriptor-eq c.found-descriptor.result)))

pub returns-clause-grammar : goal.returns-clause-grammar
returns-clause-grammar c = subst (IsDescriptorReading c.args.bytes.now) (sym (returns-clause-same c)) (descriptor-reading c.args.bytes.now)
