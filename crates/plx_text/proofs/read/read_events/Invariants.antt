use Rattle.std.proofs.Common.{◌+◌, ◌≤◌, length}
use Rattle.plx_text.specs.Readings.{ReadsOn}
use Rattle.plx_text.proofs.read.read_events.Given as goal

-- the lines that were taken spell the events so far
abbrev pub invariant-loop-alloc : goal.invariant-loop-alloc
invariant-loop-alloc l = record {
  read : ReadsOn l.fn.lines.number l.fn.lines.rest.now l.events.items l.lines.number l.lines.rest.now;
  room : l.lines.number + length l.lines.rest.now ≤ l.fn.lines.number + length l.fn.lines.rest.now;
  shorter : length l.events.items + length l.lines.rest.now ≤ length l.fn.lines.rest.now;
}

-- each line that is taken shortens the text
abbrev pub decreases-loop-alloc : goal.decreases-loop-alloc
decreases-loop-alloc l = length l.lines.rest.now
