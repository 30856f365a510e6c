use Rattle.std.proofs.Common.{◌≡◌, ◌∙◌, ap, length}
use Rattle.plx_base.specs.Blocks.{with_bytes_at, zeros}
use Rattle.plx_base.specs.Spelling.{head_of}
use Rattle.plx_base.proofs.Spelling.{record-written, zeros-is}
use Rattle.plx_base.proofs.stored.put_record.Goals as goal

pub returns : goal.returns
returns c =
    let magic = c.args.magic.now in
    let fields = c.args.fields.now in
    let last = c.args.last.now in
    let cleared : c.fill.new.self ≡ zeros = zeros-is c.fill.new.self (length c.args.bytes.now) c.requires.block (c.fill.ensures.after (λ y e. e)) in
    c.put_head.ensures ∙ (ap (with_bytes_at 0 (head_of magic fields last)) cleared ∙ record-written magic fields last)
