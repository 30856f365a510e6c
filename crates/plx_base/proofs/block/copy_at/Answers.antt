use Rattle.std.proofs.Common.{◌≡◌, ◌+◌, ◌-◌, length, arith}
use Rattle.plx_base.proofs.Landed.{written-eq}
use Rattle.plx_base.proofs.block.copy_at.Goals as goal

pub returns : goal.returns
returns c =
    let e : c.args.at + length c.args.new.now - c.args.at ≡ length c.args.new.now = omega arith in
    rw (c.copy_from_slice.ensures.after, e) (written-eq c.args.at c.args.new.now c.args.bytes.now)
