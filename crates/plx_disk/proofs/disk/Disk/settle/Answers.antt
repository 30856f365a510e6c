use Rattle.std.proofs.Common.{◌≡◌, ◌≤◌, Some, length, arith}
use Rattle.std.specs.Prelude.{slice_get}
use Rattle.std.proofs.lemmas.Option.{slice_get_read}
use Rattle.plx_disk.proofs.Kept as kept
use Rattle.plx_disk.proofs.disk.Disk.settle.Goals as goal

pub returns-then-index-len-clause-whole : goal.returns-then-index-len-clause-whole
returns-then-index-len-clause-whole c =
    let v = c.args.self.now.writes in
    let past : length v.items ≤ c.args.write = omega (arith, v.ok.0) in
    λ s stands. (λ t. cc, λ l. absurd (kept.kept-past _ v.items s.writes c.args.write l.0 stands.writes past l.1))

pub returns-clause-whole : goal.returns-clause-whole
returns-clause-whole c =
    let v = c.args.self.now.writes in
    let at : slice_get v.items c.args.write ≡ Some c.index.result.now = slice_get_read v.items c.len.result c.args.write c.index.result.now (omega (arith, v.ok.0)) (omega arith) c.index.ensures in
    λ s stands. (
      λ t. let i = kept.kept-issued v.items s.writes c.args.write c.index.result.now stands.writes at in (i.0, i.1, (c.has_landed.ensures _ i.0 i.2).0 t),
      λ l. (c.has_landed.ensures _ l.0 (kept.kept-at v.items s.writes c.args.write c.index.result.now l.0 stands.writes at l.1)).1 l.2,
    )
