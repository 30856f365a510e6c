use Rattle.std.proofs.Common.{◌≡◌, Some, arith}
use Rattle.std.specs.Prelude.{slice_get}
use Rattle.std.proofs.lemmas.Option.{slice_get_read}
use Rattle.plx_disk.proofs.Kept as kept
use Rattle.plx_disk.proofs.disk.Disk.look_back.Goals as goal

pub returns-then-stays_open-clause-same : goal.returns-then-stays_open-clause-same
returns-then-stays_open-clause-same c =
    let v = c.args.self.now.writes in
    let at : slice_get v.items c.in-Some.number ≡ Some c.index_mut.result.now = slice_get_read v.items c.len.result c.in-Some.number c.index_mut.result.now (omega (arith, v.ok.0)) (omega arith) c.index_mut.ensures.value in
    λ s stands. record {
      blocks = stands.blocks;
      device = stands.device;
      writes = kept.kept-set_same v.items s.writes c.in-Some.number c.stays_open.new.self stands.writes (λ w found. c.stays_open.ensures.same w (kept.kept-at v.items s.writes c.in-Some.number c.index_mut.result.now w stands.writes at found));
      time = stands.time;
    }

pub returns-else-stays_open-clause-same : goal.returns-else-stays_open-clause-same
returns-else-stays_open-clause-same c =
    let v = c.args.self.now.writes in
    let at : slice_get v.items c.in-Some.number ≡ Some c.index_mut.result.now = slice_get_read v.items c.len.result c.in-Some.number c.index_mut.result.now (omega (arith, v.ok.0)) (omega arith) c.index_mut.ensures.value in
    λ s stands. record {
      blocks = stands.blocks;
      device = stands.device;
      writes = kept.kept-set_same v.items s.writes c.in-Some.number c.stays_open.new.self stands.writes (λ w found. c.stays_open.ensures.same w (kept.kept-at v.items s.writes c.in-Some.number c.index_mut.result.now w stands.writes at found));
      time = stands.time;
    }
