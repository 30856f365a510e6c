use Rattle.std.proofs.Common.{◌≡◌, ◌≤◌, Some, length, arith}
use Rattle.std.specs.Prelude.{slice_get}
use Rattle.std.proofs.lemmas.Option.{slice_get_read}
use Rattle.plx_disk.proofs.Kept as kept
use Rattle.plx_disk.proofs.Landings.{lands, stays}
use Rattle.plx_disk.proofs.disk.Disk.land.Goals as goal

pub returns-then-index-len-clause-refused : goal.returns-then-index-len-clause-refused
returns-then-index-len-clause-refused c =
    let v = c.args.self.now.writes in
    let past : length v.items ≤ c.args.write = omega (arith, v.ok.0) in
    λ e s stands w may. kept.kept-past _ v.items s.writes c.args.write w stands.writes past may.found

pub land-requires : goal.land-requires
land-requires c =
    let v = c.args.self.now.writes in
    let at : slice_get v.items c.args.write ≡ Some c.index_mut.result.now = slice_get_read v.items c.len.result c.args.write c.index_mut.result.now (omega (arith, v.ok.0)) (omega arith) c.index_mut.ensures.value in
    let disk = c.args.self.now in
    record { placed = kept.placed-at disk.stored v.items c.args.write c.index_mut.result.now disk.placed at }

pub invariant_of-self : goal.invariant_of-self
invariant_of-self c =
    let disk = c.args.self.now in
    record {
      placed = kept.placed-set c.land.new.stored disk.writes.items c.args.write c.land.new.self (kept.all-placed-more disk.stored c.land.new.stored disk.writes.items c.land.ensures.others disk.placed) c.land.ensures.place;
      in_time = disk.in_time;
    }

pub returns-clause-landed : goal.returns-clause-landed
returns-clause-landed c =
    let v = c.args.self.now.writes in
    let at : slice_get v.items c.args.write ≡ Some c.index_mut.result.now = slice_get_read v.items c.len.result c.args.write c.index_mut.result.now (omega (arith, v.ok.0)) (omega arith) c.index_mut.ensures.value in
    λ t s stands.
    let l = lands s _ _ v.items c.args.write c.args.sector c.args.self.now.time c.index_mut.result.now c.land.new.self stands.writes at stands.time stands.device
    (λ w e. c.land.ensures.allowed w e t) (λ w e. c.land.ensures.landed w e t) (λ w e. c.land.ensures.bytes w e t) in
    (l.write, l.may, record { blocks = stands.blocks; device = l.device; writes = l.writes; time = stands.time })

pub returns-clause-refused : goal.returns-clause-refused
returns-clause-refused c =
    let v = c.args.self.now.writes in
    let at : slice_get v.items c.args.write ≡ Some c.index_mut.result.now = slice_get_read v.items c.len.result c.args.write c.index_mut.result.now (omega (arith, v.ok.0)) (omega arith) c.index_mut.ensures.value in
    λ e s stands.
    stays s v.items c.args.write c.args.sector c.args.self.now.time c.index_mut.result.now stands.writes at stands.time
    (λ w f may. c.land.ensures.refused w f e may)
