use Rattle.std.proofs.Common.{arith}
use Rattle.plx_disk.proofs.Flags.{all-eight}
use Rattle.plx_disk.proofs.write.least_missing.Goals as goal

pub returns-clause-least : goal.returns-clause-least
returns-clause-least c = all-eight c.args.landed.now c.told-landed (λ k below. c.loop-sector.invariant k (omega arith))
