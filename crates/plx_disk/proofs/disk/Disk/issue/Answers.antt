use Rattle.std.proofs.Common.{◌++◌, ◌∷◌, [], List, sym, subst, ◌∙◌, arith}
use Rattle.plx_disk.proofs.Kept as kept
use Rattle.plx_disk.specs.Standing.{StandForAll}
use Rattle.plx_disk.specs.Writes.{fresh_write}
use Rattle.plx_disk.specs.declared.write.Write.{Write}
use Rattle.plx_disk.proofs.disk.Disk.issue.Goals as goal

pub returns-clause-number : goal.returns-clause-number
returns-clause-number c =
    let v = c.look_back-2.new.self.writes in
    λ s stands.
    let seen = c.look_back-2.ensures.same s (c.look_back.ensures.same s stands) in
    omega (arith, v.ok.0, kept.kept-length _ v.items s.writes seen.writes)

pub returns-clause-ok : goal.returns-clause-ok
returns-clause-ok c = λ s stands.
    let seen = c.look_back-2.ensures.same s (c.look_back.ensures.same s stands) in
    record {
      blocks = seen.blocks;
      device = λ b. c.in_ok-make_place.ensures.same b ∙ seen.device b;
      writes =
          let v = c.look_back-2.new.self.writes in
          let fresh = fresh_write c.args.owner.0 c.args.kind c.args.block.0 c.args.bytes.now c.args.guard in
          let P : List Write → Type 0 = λ xs. StandForAll c.look_back-2.new.self.time xs (s.writes ++ fresh ∷ []) in
          subst P (sym c.in_ok-push.ensures.items) (kept.kept-push v.items s.writes _ fresh seen.writes
          (kept.kept-fresh c.args.owner c.args.kind c.args.block.0 c.in_ok-bytes.bytes c.args.bytes.now c.args.guard c.in_ok-bytes.ensures));
      time = seen.time;
    }
