use Rattle.plx_text.proofs.OnceSchedule.{once}
use Rattle.plx_text.proofs.once.schedule_once.Goals as goal

pub returns : goal.returns
returns c = once
