use Rattle.std.proofs.Common.{◌≡◌, ◌≤◌, List, Some, length, sym, subst, arith}
use Rattle.std.specs.Prelude.{slice_get}
use Rattle.std.proofs.lemmas.Option.{slice_get_read}
use Rattle.plx_disk.proofs.Kept as kept
use Rattle.plx_disk.proofs.Lists.{cancelled-past}
use Rattle.plx_disk.specs.Standing.{StandForAll}
use Rattle.plx_disk.specs.Writes.{Issued}
use Rattle.plx_disk.proofs.disk.Disk.cancel.Goals as goal

pub returns-then-index-len-clause-cancelled : goal.returns-then-index-len-clause-cancelled
returns-then-index-len-clause-cancelled c =
    let v = c.args.self.now.writes in
    let past : length v.items ≤ c.args.write = omega (arith, v.ok.0) in
    λ s stands. record {
      blocks = stands.blocks;
      device = stands.device;
      writes =
          let P : List Issued → Type 0 = λ xs. StandForAll c.args.self.now.time v.items xs in
          subst P (sym (cancelled-past s.writes c.args.write (omega (arith, kept.kept-length _ v.items s.writes stands.writes)))) stands.writes;
      time = stands.time;
    }

pub invariant_of-self : goal.invariant_of-self
invariant_of-self c =
    let v = c.args.self.now.writes in
    let at : slice_get v.items c.args.write ≡ Some c.index_mut.result.now = slice_get_read v.items c.len.result c.args.write c.index_mut.result.now (omega (arith, v.ok.0)) (omega arith) c.index_mut.ensures.value in
    let disk = c.args.self.now in
    record {
      placed = kept.placed-set disk.stored v.items c.args.write c.cancel.new.self disk.placed (c.cancel.ensures.place disk.stored (kept.placed-at disk.stored v.items c.args.write c.index_mut.result.now disk.placed at));
      in_time = disk.in_time;
    }

pub returns-clause-cancelled : goal.returns-clause-cancelled
returns-clause-cancelled c =
    let v = c.args.self.now.writes in
    let at : slice_get v.items c.args.write ≡ Some c.index_mut.result.now = slice_get_read v.items c.len.result c.args.write c.index_mut.result.now (omega (arith, v.ok.0)) (omega arith) c.index_mut.ensures.value in
    λ s stands. record {
      blocks = stands.blocks;
      device = stands.device;
      writes = kept.kept-cancelled v.items s.writes c.args.write c.cancel.new.self stands.writes (λ w found. c.cancel.ensures.cancelled _ w (kept.kept-at v.items s.writes c.args.write c.index_mut.result.now w stands.writes at found));
      time = stands.time;
    }
