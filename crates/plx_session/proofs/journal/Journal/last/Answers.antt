use Rattle.std.proofs.Common.{◌≡◌, ◌<◌, ◌≤◌, ℕ, length, get_or, sym, ap, ◌∙◌, arith, Some}
use Rattle.std.proofs.lemmas.Grind.{common_steps}
use Rattle.std.proofs.lemmas.List.{take_all}
use Rattle.std.proofs.lemmas.List.Elements.{All-get_or}
use Rattle.std.specs.Vec.{vec_len}
use Rattle.plx_base.specs.Blocks.{zeros}
use Rattle.plx_rules.specs.Session.{latest}
use Rattle.plx_session.specs.Shown.{writes_of}
use Rattle.plx_session.specs.PlacedWrites.{write_in}
use Rattle.plx_session.specs.declared.journal.PlacedWrite.{PlacedWrite}
use Rattle.plx_session.proofs.Contents.{latest-more}
use Rattle.plx_session.proofs.PlacedBlocks.{write-at, writes-past}
use Rattle.plx_session.proofs.journal.Journal.last.Goals as goal
use Rattle.plx_session.proofs.journal.Journal.last.Goals.{then-vblock-write, else-vblock-write}

same-place : (place x : ℕ) → Some place ≡ Some x → place ≡ x
same-place place x e = cc

pub loop-write-preserved : goal.loop-write-preserved
loop-write-preserved c =
    let j = c.args.self.now in
    let i = c.loop-write.write-index in
    let e = c.deref-write-items.ensures.value in
    let within : i < length j.writes.items = rw e at c.loop-write-test.true in
    let none : PlacedWrite = record { number = 0; vblock = 0; place = 0 } in
    let write = get_or j.writes.items i none in
    let read = write-at j.bytes.items j.writes.items i none within in
    let more = latest-more (writes_of j) i c.args.vblock (write_in j.bytes.items write) read.0 read.1 in
    let below : write.place < vec_len j.writes = All-get_or (λ (w : PlacedWrite). w.place < vec_len j.writes) j.writes.items i none within j.places in
    elim c.if-vblock-write.branch [
      | then-vblock-write w ↦
          let last = rw e at w.last-is in
          let named = rw e at w.if-vblock-write.true in
          (λ x is. rw (← same-place write.place x (sym last ∙ is)) below, rw (last, more) (grind (arith, common_steps)))
      | else-vblock-write w ↦
          let named = rw e at w.if-vblock-write.false in
          (λ x is. c.loop-write.invariant.0 x (sym w.last-is ∙ is), rw (w.last-is, more) (grind (arith, common_steps)))
    ]

pub returns-clause-latest : goal.returns-clause-latest
returns-clause-latest c =
    let j = c.args.self.now in
    let e = c.deref-write-items.ensures.value in
    let past : length j.writes.items ≤ c.loop-write.write-index = rw e at c.loop-write-test.false in
    ap (latest zeros c.args.vblock) (sym (take_all c.loop-write.write-index (writes_of j) (writes-past j.bytes.items j.writes.items c.loop-write.write-index past)))
    ∙ c.loop-write.invariant.1
