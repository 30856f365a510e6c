use Rattle.std.proofs.Common.{◌∙◌, ap, sym, length}
use Rattle.plx_base.specs.Blocks.{with_bytes_at}
use Rattle.plx_base.specs.Spelling.{fields_bytes}
use Rattle.plx_base.proofs.Spelling.{head-written}
use Rattle.plx_base.proofs.stored.put_head.Goals as goal

pub returns : goal.returns
returns c =
    let magic = c.args.magic.now in
    let fields = c.args.fields.now in
    let last = c.args.last.now in
    let end = c.put_fields-end.result in
    c.copy_at-2.ensures
    ∙ (ap (with_bytes_at end last) (c.put_fields-end.ensures.same ∙ ap (with_bytes_at (length magic) (fields_bytes fields)) c.copy_at.ensures)
    ∙ head-written magic fields last c.args.bytes.now end c.requires (sym c.put_fields-end.ensures.next))
