use Rattle.plx_words.proofs.Spaced.{lines-tell-append, text-parts}
use Rattle.plx_text.specs.Schedules.{world_line}
use Rattle.plx_text.specs.Traces.{end_line, entry_lines}
use Rattle.plx_text.proofs.print.print_trace.Goals as goal

pub returns-clause-text : goal.returns-clause-text
returns-clause-text c = rw (c.in_ok-push_end.ensures.text, c.in_ok-push_entries.ensures.text, c.in_ok-push_world.ensures.text, c.new-text.ensures)
    (text-parts (world_line c.args.geometry.now c.args.appliances) (entry_lines c.args.entries.now) (end_line c.args.reachable c.args.allocated))

pub returns-clause-tells : goal.returns-clause-tells
returns-clause-tells c = (
  c.in_ok-push_world.ensures.tells,
  lines-tell-append _ _ c.in_ok-push_entries.ensures.tells (c.in_ok-push_end.ensures.tells, tt),
)
