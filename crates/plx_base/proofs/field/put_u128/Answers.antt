use Rattle.std.proofs.Common.{ap, ◌∙◌, ◌-◌, length}
use borrow.Rule.Slice.PartMut.{put_mid}
use Rattle.plx_base.proofs.Fields.{written-little}
use Rattle.plx_base.proofs.field.put_u128.Goals as goal

pub returns : goal.returns
returns c =
    ap (put_mid c.args.at (length c.args.bytes.now - c.args.at) c.args.bytes.now) c.write_u128.ensures
    ∙ written-little 16 c.args.at c.args.value c.args.bytes.now c.requires
