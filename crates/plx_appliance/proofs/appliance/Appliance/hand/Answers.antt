use Rattle.std.proofs.Common.{sym, ◌∙◌}
use Rattle.plx_appliance.proofs.appliance.Appliance.hand.Goals as goal

pub returns : goal.returns
returns c = λ log stands. c.hand.ensures.blocks ∙ sym stands.hand
