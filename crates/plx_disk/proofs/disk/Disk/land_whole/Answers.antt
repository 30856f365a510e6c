use Rattle.std.proofs.Common.{◌≡◌, Some, arith}
use Rattle.std.specs.Prelude.{slice_get}
use Rattle.std.proofs.lemmas.Option.{slice_get_read}
use Rattle.plx_disk.proofs.Landings.{lands-whole}
use Rattle.plx_disk.proofs.disk.Disk.land_whole.Goals as goal

pub returns-clause-landed : goal.returns-clause-landed
returns-clause-landed c =
    let v = c.args.self.now.writes in
    let at : slice_get v.items c.args.write ≡ Some c.index_mut.result.now = slice_get_read v.items c.len.result c.args.write c.index_mut.result.now (omega (arith, v.ok.0)) (omega arith) c.index_mut.ensures.value in
    λ t s stands.
    let l = lands-whole s _ _ v.items c.args.write c.args.self.now.time c.index_mut.result.now c.land_whole.new.self stands.writes at stands.time stands.device
    (λ w e. c.land_whole.ensures.allowed w e t) (λ w e. c.land_whole.ensures.long w e t) (λ w e. c.land_whole.ensures.bytes w e t) (c.land_whole.ensures.whole t) in
    (l.write, l.found, l.may, record { blocks = stands.blocks; device = l.device; writes = l.writes; time = stands.time })
