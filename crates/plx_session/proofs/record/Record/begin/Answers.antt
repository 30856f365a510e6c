use Rattle.plx_gate.proofs.Images.{is_image-true}
use Rattle.plx_session.proofs.record.Record.begin.Goals as goal

pub invariant_of-result : goal.invariant_of-result
invariant_of-result c = record { limits = is_image-true c.args.made c.requires }
