use Rattle.std.proofs.Common.{◌≡◌, ◌+◌, ◌*◌, ◌-◌, arith}
use Rattle.plx_base.proofs.Landed.{landed-eq}
use Rattle.plx_base.proofs.block.land_sector.Goals as goal

pub returns : goal.returns
returns c =
    let e : 512 * c.args.sector + 512 - 512 * c.args.sector ≡ 512 = omega arith in
    rw (c.copy_from_slice.ensures.after, e) (landed-eq c.args.sector c.args.new.now c.args.old.now)
