use Rattle.std.proofs.Common.{◌≡◌, ap, sym, subst, ◌∙◌, refl, true, false}
use Rattle.plx_base.specs.Spelling.{IsReading, block_of_fields}
use Rattle.plx_gate.specs.Images.{IsImage, image_bytes, image_fields, image_magic, label_of}
use Rattle.plx_gate.proofs.Images.{image-eq, image-other, image-past, image-reading, image-some}
use Rattle.plx_gate.proofs.image.read_image.Goals as goal

pub returns-in_err-image-clause-same : goal.returns-in_err-image-clause-same
returns-in_err-image-clause-same c = c.from_residual.ensures ∙ image-past c.args.bytes.now c.in_err-image.ensures.past

pub returns-in_err-image-clause-grammar : goal.returns-in_err-image-clause-grammar
returns-in_err-image-clause-grammar c = subst (IsReading IsImage image_bytes c.args.bytes.now) (sym (returns-in_err-image-clause-same c)) (image-reading c.args.bytes.now)

pub returns-then-not-is_record-clause-same : goal.returns-then-not-is_record-clause-same
returns-then-not-is_record-clause-same c =
    let r = c.in_ok-image.image in
    image-other c.args.bytes.now r c.in_ok-image.ensures.same
    (λ same. let bad : false ≡ true =
    c.if-not-is_record.ensures.1
    (same
    ∙ (image-eq r ∙ (ap (λ f. block_of_fields image_magic f (label_of r)) (sym c.fields.ensures) ∙ ap (block_of_fields image_magic c.fields.result) (sym c.label.ensures.same)))) in cc)

pub returns-then-not-is_record-clause-grammar : goal.returns-then-not-is_record-clause-grammar
returns-then-not-is_record-clause-grammar c = subst (IsReading IsImage image_bytes c.args.bytes.now) (sym (returns-then-not-is_record-clause-same c)) (image-reading c.args.bytes.now)

pub returns-clause-same : goal.returns-clause-same
returns-clause-same c =
    let r = c.in_ok-image.image in
    image-some c.args.bytes.now r c.in_ok-image.ensures.same c.in_ok-image.ensures.limits
    (c.if-not-is_record.ensures.0 refl
    ∙ (ap (λ f. block_of_fields image_magic f c.label.result.now) c.fields.ensures ∙ (ap (block_of_fields image_magic (image_fields r)) c.label.ensures.same ∙ sym (image-eq r))))

pub returns-clause-grammar : goal.returns-clause-grammar
returns-clause-grammar c = subst (IsReading IsImage image_bytes c.args.bytes.now) (sym (returns-clause-same c)) (image-reading c.args.bytes.now)
