use Rattle.std.proofs.Common.{◌∙◌}
use Rattle.plx_base.proofs.Fields.{number_at-is}
use Rattle.plx_base.proofs.field.get_u128.Goals as goal

pub returns : goal.returns
returns c = c.read_u128.ensures ∙ number_at-is 16 c.args.at c.args.bytes.now
