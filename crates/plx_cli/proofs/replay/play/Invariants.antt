use Rattle.std.proofs.Common.{◌+◌, ◌≤◌, List, length}
use Rattle.plx_cli.specs.Batches.{HasPlayed}
use Rattle.plx_commands.specs.declared.event.Event.{Event}
use Rattle.plx_text.specs.Readings.{IsRead}
use Rattle.plx_cli.proofs.replay.play.Given as goal

-- the events that were read were played
abbrev pub invariant-loop-world : goal.invariant-loop-world
invariant-loop-world l = record {
  events : List Event;
  played : HasPlayed (l.geometry, l.appliances) events l.world;
  read : IsRead l.bytes (l.geometry, l.appliances) events l.lines.number l.lines.rest.now;
  room : l.lines.number + length l.lines.rest.now ≤ length l.bytes;
}

-- while more is to be read, the text gets shorter
abbrev pub decreases-loop-world : goal.decreases-loop-world
decreases-loop-world l = length l.lines.rest.now
