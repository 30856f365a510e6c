use Rattle.std.proofs.Common.{◌+◌, drop, ◌∙◌, ap, arith}
use Rattle.plx_base.specs.Blocks.{with_bytes_at}
use Rattle.plx_base.specs.Spelling.{fields_bytes, fields_width}
use Rattle.plx_base.proofs.Spelling.{put-next, put-end}
use Rattle.plx_base.proofs.stored.put_fields.Goals as goal

pub loop-field-preserved : goal.loop-field-preserved
loop-field-preserved c =
    let fields = c.args.fields.now in
    let rest = drop (c.loop-field.field-index + 1) fields in
    let long = c.loop-field.invariant.0 in
    let within = c.requires in
    let step =
    put-next fields c.loop-field.field-index c.loop-field.place (c.args.at + fields_width fields) _ c.loop-field.bytes c.put_field-place.new.bytes
    (with_bytes_at c.args.at (fields_bytes fields) c.args.bytes.now) c.loop-field-test.true (omega (arith, long, within)) c.loop-field.invariant.1 c.loop-field.invariant.2
    c.put_field-place.ensures.same in
    let next = c.put_field-place.ensures.next in (
      step.0 ∙ long,
      ap (λ n. n + fields_width rest) next ∙ step.1,
      ap (λ n. with_bytes_at n (fields_bytes rest) c.put_field-place.new.bytes) next ∙ step.2,
    )

pub returns-clause-same : goal.returns-clause-same
returns-clause-same c =
    put-end c.args.fields.now c.loop-field.field-index c.loop-field.place c.loop-field.bytes (with_bytes_at c.args.at (fields_bytes c.args.fields.now) c.args.bytes.now) c.loop-field-test.false c.loop-field.invariant.2
