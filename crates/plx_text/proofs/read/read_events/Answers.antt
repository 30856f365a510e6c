use Rattle.std.proofs.Common.{◌∙◌, ℕ, List, ◌++◌, length, nat_eq, inl, ap, sym, subst, arith}
use Rattle.std.proofs.lemmas.Bool.{false≢true}
use Rattle.plx_words.specs.Files.{Begins, Numbered}
use Rattle.plx_text.specs.Schedules.{schedule_grammar}
use Rattle.plx_text.proofs.Readings.{empty-tested, read-more, read-whole, taken-read}
use Rattle.plx_text.proofs.ScheduleFiles.{schedule-begins, goes-event, no-event, no-schedule}
use Rattle.plx_words.proofs.Taken.{bad-end, bad-line, taken-all}
use Rattle.plx_text.proofs.read.read_events.Goals as goal

-- a line that isn't an event
pub returns-in_default-found-clause-bad : goal.returns-in_default-found-clause-bad
returns-in_default-found-clause-bad c = λ bytes world before is.
    let so_far = c.loop-alloc.invariant.read bytes world before is in
    let none = rw c.in_default-found.is at c.in-Ok.ensures in
    bad-line schedule_grammar bytes so_far.lines c.in-Some.line.number c.in-Some.line.text.now _ (schedule-begins world _ so_far.lines so_far.spell)
    (so_far.all ∙ ap (λ (lines : List Numbered). so_far.lines ++ lines) c.in-Some.ensures.line)
    (λ goes. no-event _ none (goes-event world _ so_far.lines _ so_far.spell goes))

pub returns-in_default-found-clause-none : goal.returns-in_default-found-clause-none
returns-in_default-found-clause-none c = λ bytes world before is other events.
    no-schedule bytes _ other events (returns-in_default-found-clause-bad c bytes world before is)

pub loop-alloc-preserved : goal.loop-alloc-preserved
loop-alloc-preserved c =
    let spells = rw c.in-Some-found.is at c.in-Ok.ensures in
    let line = c.in-Some.ensures in
    record {
      read = rw c.in-Ok-push.ensures.items
          (read-more c.args.lines.now.number c.args.lines.now.rest.now c.loop-alloc.events.items c.loop-alloc.lines.number c.next.new.self.number c.loop-alloc.lines.rest.now
          c.next.new.self.rest.now (c.in-Some.line.number, c.in-Some.line.text.now) _ c.loop-alloc.invariant.read line.line line.count line.left spells);
      room = omega (arith, line.room, c.loop-alloc.invariant.room);
      shorter = omega (arith, line.shorter, c.loop-alloc.invariant.shorter, c.in-Ok-push.ensures.len, c.push.new.self.ok.0, c.loop-alloc.events.ok.0);
    }

-- a last line without its end
pub returns-then-not-is_empty-clause-bad : goal.returns-then-not-is_empty-clause-bad
returns-then-not-is_empty-clause-bad c = λ bytes world before is.
    let so_far = c.loop-alloc.invariant.read bytes world before is in
    let all = taken-all bytes _ _ _ (taken-read bytes world _ _ _ so_far) c.in_default.ensures.line in
    let ended = so_far.ended ∙ (sym c.in_default.ensures.left ∙ c.in_default.ensures.end.0) in
    let counted = so_far.counted ∙ (sym c.in_default.ensures.count ∙ c.in_default.ensures.end.1) in
    bad-end schedule_grammar bytes _ (subst (λ (lines : List Numbered). Begins schedule_grammar lines) (sym all) (schedule-begins world _ so_far.lines so_far.spell))
    (omega arith)
    (inl (λ none. false≢true (sym c.if-not-is_empty.true ∙ (c.is_empty.ensures ∙ ap (λ (rest : List ℕ). nat_eq (length rest) 0) (sym ended ∙ none)))))

pub returns-then-not-is_empty-clause-none : goal.returns-then-not-is_empty-clause-none
returns-then-not-is_empty-clause-none c = λ bytes world before is other events.
    no-schedule bytes _ other events (returns-then-not-is_empty-clause-bad c bytes world before is)

-- the end
pub returns-in_default-clause-end : goal.returns-in_default-clause-end
returns-in_default-clause-end c = λ few bytes world before is.
    read-whole bytes world _ _ _ (c.loop-alloc.invariant.read bytes world before is) c.in_default.ensures.line
    (sym c.in_default.ensures.left ∙ (c.in_default.ensures.end.0 ∙ empty-tested _ (sym c.is_empty.ensures ∙ c.if-not-is_empty.false)))
