use Rattle.std.proofs.Common.{◌≡◌, ◌*◌, ◌++◌, length, ap, ◌∙◌, arith}
use Rattle.std.proofs.lemmas.Grind.{common_steps}
use Rattle.std.specs.List.{insert}
use Rattle.plx_session.specs.PlacedWrites.{AreWithinBlocks, writes_in}
use Rattle.plx_session.proofs.PlacedBlocks.{writes-inserted}
use Rattle.plx_session.proofs.journal.Journal.put.Goals as goal

pub returns-clause-writes : goal.returns-clause-writes
returns-clause-writes c =
    let j = c.args.self.now in
    let count = c.len-place.result in
    let block = c.args.block.now in
    let more : c.extend_from_slice.new.self.items ≡ j.bytes.items ++ block = grind (arith, common_steps) in
    let placed : c.insert.new.self.items ≡ insert j.writes.items c.args.index (record { number = c.args.number; vblock = c.args.vblock; place = count }) = grind (arith, common_steps) in
    let long : length j.bytes.items ≡ 4096 * count = omega (arith, j.long, c.len-place.ensures, j.bytes.ok.0) in
    let places : AreWithinBlocks count j.writes.items = rw c.len-place.ensures j.places in
    ap (λ bytes. writes_in bytes c.insert.new.self.items) more
    ∙ ap (writes_in (j.bytes.items ++ block)) placed
    ∙ writes-inserted j.bytes.items block count c.args.index c.args.number c.args.vblock j.writes.items long c.as_slice.ensures.len places
