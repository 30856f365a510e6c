use Rattle.std.proofs.Common.{arith}
use Rattle.plx_disk.proofs.Kept as kept
use Rattle.plx_disk.proofs.disk.Disk.issued.Goals as goal

pub returns-clause-issued : goal.returns-clause-issued
returns-clause-issued c =
    let v = c.args.self.now.writes in
    λ s stands. omega (arith, v.ok.0, kept.kept-length _ v.items s.writes stands.writes)
