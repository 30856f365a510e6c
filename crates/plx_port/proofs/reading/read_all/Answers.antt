use Rattle.std.proofs.Common.{take, ap, refl, subst, ◌∙◌, arith, rules}
use Rattle.std.proofs.KnownBytes.{Consumes-kept}
use Rattle.std.proofs.lemmas.List.{with_items_is, places}
use Rattle.plx_port.proofs.Taken.{Consumes-more, ReadsToEnd-front, Rose-before, TakesCount-front, stopped-at}
use Rattle.plx_port.specs.Streams.{TakesCount}
use Rattle.plx_port.proofs.reading.read_all.Goals as goal

pub returns-in_err-make_room-clause-stopped : goal.returns-in_err-make_room-clause-stopped
returns-in_err-make_room-clause-stopped g c =
    let before = c.loop-filled.invariant in
    stopped-at c.from_residual.result _ _ c.args.limit c.loop-filled.filled c.loop-filled-test.true
    (TakesCount-front _ _ c.loop-filled.bytes.items _ (omega (arith, before.within, c.loop-filled.bytes.ok)) before.taken)

pub returns-in_err-count-clause-stopped : goal.returns-in_err-count-clause-stopped
returns-in_err-count-clause-stopped g c =
    let before = c.loop-filled.invariant in
    stopped-at c.from_residual-in_err-count.result _ _ c.args.limit c.loop-filled.filled c.loop-filled-test.true
    (TakesCount-front _ _ c.loop-filled.bytes.items _ (omega (arith, before.within, c.loop-filled.bytes.ok))
    (Consumes-kept _ _ _ _ before.taken c.in_err-count.ensures.kept))

pub returns-in_err-count-clause-failed : goal.returns-in_err-count-clause-failed
returns-in_err-count-clause-failed g c = λ is. Rose-before _ _ _ c.loop-filled.invariant.faults c.in_err-count.ensures.faults c.in_err-count.ensures.failed

pub returns-then-count-eq0-clause-ok : goal.returns-then-count-eq0-clause-ok
returns-then-count-eq0-clause-ok g c =
    let read = c.in_ok-count.ensures in
    let items = with_items_is c.make_room.new.bytes c.read_at.new.buffer (search (rules, places)) in
    let same = read.front ∙ ap (take c.loop-filled.filled) c.deref_mut.ensures.value ∙ c.in_ok-make_room.ensures.front in
    ReadsToEnd-front _ _ _ _ _ c.loop-filled.invariant.taken (read.end c.if-count-eq0.true) (rw c.if-count-eq0.true at read.given)
    (c.truncate.ensures.items ∙ ap (take c.loop-filled.filled) items ∙ same)

pub returns-clause-long : goal.returns-clause-long
returns-clause-long g c =
    let before = c.loop-filled.invariant in λ is.
    subst (TakesCount _ _) (omega (arith, before.within, before.short, c.loop-filled-test.false))
    (TakesCount-front _ _ c.loop-filled.bytes.items c.loop-filled.filled (omega (arith, before.within, c.loop-filled.bytes.ok)) before.taken)

pub returns-clause-stopped : goal.returns-clause-stopped
returns-clause-stopped g c = λ other. absurd (other refl)

pub loop-filled-preserved : goal.loop-filled-preserved
loop-filled-preserved g c =
    let read = c.in_ok-count.ensures in
    let before = c.loop-filled.invariant in
    let items = with_items_is c.make_room.new.bytes c.read_at.new.buffer (search (rules, places)) in
    let same = read.front ∙ ap (take c.loop-filled.filled) c.deref_mut.ensures.value ∙ c.in_ok-make_room.ensures.front in
    record {
      within = search (rules, places);
      short = c.in_ok-make_room.ensures.within;
      taken = rw items (Consumes-more _ _ _ c.loop-filled.bytes.items c.read_at.new.buffer _ _ same before.taken read.given);
      faults = omega (arith, read.faults, before.faults);
    }
