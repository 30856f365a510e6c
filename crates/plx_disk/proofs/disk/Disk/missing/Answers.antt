use Rattle.std.proofs.Common.{◌≡◌, ◌≤◌, Some, length, arith}
use Rattle.std.specs.Prelude.{slice_get}
use Rattle.std.proofs.lemmas.Option.{slice_get_read}
use Rattle.plx_disk.proofs.Kept as kept
use Rattle.plx_disk.proofs.Asked.{missing-says}
use Rattle.plx_disk.proofs.disk.Disk.missing.Goals as goal

pub returns-then-index-len-clause-missing : goal.returns-then-index-len-clause-missing
returns-then-index-len-clause-missing c =
    let v = c.args.self.now.writes in
    let past : length v.items ≤ c.args.write = omega (arith, v.ok.0) in
    λ s stands write found not_cancelled. absurd (kept.kept-past _ v.items s.writes c.args.write write stands.writes past found)

pub returns-clause-missing : goal.returns-clause-missing
returns-clause-missing c =
    let v = c.args.self.now.writes in
    let at : slice_get v.items c.args.write ≡ Some c.index.result.now = slice_get_read v.items c.len.result c.args.write c.index.result.now (omega (arith, v.ok.0)) (omega arith) c.index.ensures in
    λ s stands. missing-says s v.items c.args.write c.index.result.now c.missing.result stands.writes at (c.missing.ensures.none _) (c.missing.ensures.least _)
