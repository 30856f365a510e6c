use Rattle.std.proofs.Common.{◌≡◌, ◌+◌, ◌-◌, ◌*◌, refl, arith}
use Rattle.plx_session.specs.PlacedWrites.{block_in}
use Rattle.plx_session.proofs.journal.Journal.block.Goals as goal

pub returns-clause-same : goal.returns-clause-same
unfolding block_in
returns-clause-same c =
    let whole : 4096 * c.args.place + 4096 - 4096 * c.args.place ≡ 4096 = omega arith in
    rw (whole, c.deref.ensures.value) refl
