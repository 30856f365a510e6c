use Rattle.plx_text.proofs.OnceTrace.{once}
use Rattle.plx_text.proofs.once.trace_once.Goals as goal

pub returns : goal.returns
returns c = once
