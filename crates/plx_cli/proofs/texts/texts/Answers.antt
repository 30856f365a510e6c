use Rattle.plx_cli.proofs.Told.{told-once}
use Rattle.plx_cli.proofs.texts.texts.Goals as goal

pub returns : goal.returns
returns c = record { once = c.trace_once.ensures; told = told-once c.trace_once.ensures; schedule = c.schedule_once.ensures }
