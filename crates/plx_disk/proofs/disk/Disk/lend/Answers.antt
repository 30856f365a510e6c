use Rattle.std.proofs.Common.{◌∙◌, sym}
use Rattle.plx_disk.specs.Stored.{device_of}
use Rattle.plx_disk.proofs.Devices.{put-along}
use Rattle.plx_base.proofs.Devices.{put-again}
use Rattle.plx_disk.proofs.Lending.{zeros-unstored}
use Rattle.plx_disk.proofs.disk.Disk.lend.Goals as goal
use Rattle.plx_disk.proofs.disk.Disk.lend.Goals.{then-not-trade, else-not-trade}

pub returns-clause-lent : goal.returns-clause-lent
returns-clause-lent c =
    let old = c.args.self.now.stored in
    let block = c.args.block.0 in
    let t = c.trade.ensures in
    elim c.if-not-trade.branch [
      | then-not-trade w ↦
          let absent = zeros-unstored old block (sym t.found ∙ w.if-not-trade.true) in
          let zero = w.buffer-is ∙ w.clear.ensures in
          record {
            given = λ s stands. zero ∙ (sym absent ∙ stands.device block);
            instead = device_of old block;
            stands = λ s stands. record {
              blocks = stands.blocks;
              device = λ b. t.none w.if-not-trade.true b ∙ (sym (put-again (device_of old) block b) ∙ put-along (device_of old) s.device stands.device block (λ bytes. device_of old block) b);
              writes = stands.writes;
              time = stands.time;
            };
            none = λ out. zero;
          }
      | else-not-trade w ↦
          record {
            given = λ s stands. w.buffer-is ∙ (t.given w.if-not-trade.false ∙ stands.device block);
            instead = c.args.buffer.now;
            stands = λ s stands. record {
              blocks = stands.blocks;
              device = λ b. t.instead w.if-not-trade.false b ∙ put-along (device_of old) s.device stands.device block (λ bytes. c.args.buffer.now) b;
              writes = stands.writes;
              time = stands.time;
            };
            none = λ out. absurd (let here = sym out ∙ (t.stored block ∙ (sym t.found ∙ w.if-not-trade.false)) in let P : ⊥ = cc in P);
          }
    ]
