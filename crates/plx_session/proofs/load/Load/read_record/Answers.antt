use Rattle.plx_gate.proofs.Images.{is_image-true}
use Rattle.plx_session.proofs.load.Load.read_record.Goals as goal

pub start-requires-clause-limits : goal.start-requires-clause-limits
start-requires-clause-limits c = is_image-true c.in-Some.found c.in-Some.ensures.grammar.0
