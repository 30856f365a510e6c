use Rattle.std.proofs.Common.{arith}
use Rattle.plx_disk.proofs.Kept as kept
use Rattle.plx_disk.proofs.disk.Disk.tick.Goals as goal

pub returns-clause-passed : goal.returns-clause-passed
returns-clause-passed c = λ t s stands. record {
  blocks = stands.blocks;
  device = stands.device;
  writes = kept.kept-later (omega arith) c.args.self.now.writes.items s.writes stands.writes;
  time = let now = stands.time in omega (arith, now, c.from.ensures);
}
