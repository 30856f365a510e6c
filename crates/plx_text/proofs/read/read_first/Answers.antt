use Rattle.std.proofs.Common.{[], ◌∷◌, sym}
use Rattle.plx_text.specs.Schedules.{schedule_grammar}
use Rattle.plx_text.proofs.ScheduleFiles.{no-schedule, no-world}
use Rattle.plx_words.proofs.Taken.{bad-line, begins-none}
use Rattle.plx_text.proofs.read.read_first.Goals as goal

-- the first line isn't a world
pub returns-in_default-read_world-clause-bad : goal.returns-in_default-read_world-clause-bad
returns-in_default-read_world-clause-bad c =
    bad-line schedule_grammar c.args.lines.now.rest.now [] c.in-Some.first.number c.in-Some.first.text.now _ (begins-none schedule_grammar)
    (rw c.requires.first at c.in-Some.ensures.line) (no-world _ c.in_default-read_world.ensures)

pub returns-in_default-read_world-clause-none : goal.returns-in_default-read_world-clause-none
returns-in_default-read_world-clause-none c = λ world events. no-schedule c.args.lines.now.rest.now _ world events (returns-in_default-read_world-clause-bad c)

pub returns-clause-ok : goal.returns-clause-ok
returns-clause-ok c = record {
  lines = (c.in-Some.first.number, c.in-Some.first.text.now) ∷ [];
  spell = (c.in-Some-read_world.ensures, tt);
  all = rw c.requires.first at c.in-Some.ensures.line;
  counted = sym (rw c.requires.first at c.in-Some.ensures.count);
  ended = sym c.in-Some.ensures.left;
}
