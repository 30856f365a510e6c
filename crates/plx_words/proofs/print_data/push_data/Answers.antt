use Rattle.std.proofs.Common.{arith}
use Rattle.plx_base.proofs.Canonical.{payload_of-byte}
use Rattle.plx_words.proofs.Pushes.{OnOk-map}
use Rattle.plx_words.proofs.print_data.push_data.Goals as goal

pub returns-in-All-clause-text : goal.returns-in-All-clause-text
returns-in-All-clause-text c = rw (c.in-All.is, payload_of-byte c.in-All.byte) c.push_all.ensures

pub returns-in-All-clause-fits : goal.returns-in-All-clause-fits
returns-in-All-clause-fits c = rw (c.in-All.is, payload_of-byte c.in-All.byte) (OnOk-map c.push_all.result c.push_all.ensures (λ told. omega arith))
