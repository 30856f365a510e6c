use Rattle.std.proofs.Common.{◌∙◌}
use Rattle.plx_base.proofs.Fields.{number_at-is}
use Rattle.plx_base.proofs.field.get_u64.Goals as goal

pub returns : goal.returns
returns c = c.read_u64.ensures ∙ number_at-is 8 c.args.at c.args.bytes.now
