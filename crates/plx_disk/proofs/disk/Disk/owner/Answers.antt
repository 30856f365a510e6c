use Rattle.std.proofs.Common.{◌≡◌, ◌≤◌, Some, length, sym, arith}
use Rattle.std.specs.Prelude.{slice_get}
use Rattle.std.proofs.lemmas.Option.{slice_get_read, slice_get_past}
use Rattle.plx_disk.proofs.Kept as kept
use Rattle.plx_disk.proofs.disk.Disk.owner.Goals as goal

pub returns-then-index-len : goal.returns-then-index-len
returns-then-index-len c =
    let v = c.args.self.now.writes in
    let past : length v.items ≤ c.args.write = omega (arith, v.ok.0) in
    λ s stands. slice_get_past s.writes c.args.write (omega (arith, kept.kept-length _ v.items s.writes stands.writes))

pub returns : goal.returns
returns c =
    let v = c.args.self.now.writes in
    let at : slice_get v.items c.args.write ≡ Some c.index.result.now = slice_get_read v.items c.len.result c.args.write c.index.result.now (omega (arith, v.ok.0)) (omega arith) c.index.ensures in
    λ s stands. let i = kept.kept-issued v.items s.writes c.args.write c.index.result.now stands.writes at in (i.0, i.1, sym i.2.owner)
