use Rattle.std.proofs.Common.{◌≡◌, false, true, arith}
use Rattle.plx_gate.proofs.Images.{long-label}
use Rattle.plx_gate.proofs.image.label_in.Goals as goal

pub returns-then-len-gt-LABEL_LEN-clause-label : goal.returns-then-len-gt-LABEL_LEN-clause-label
returns-then-len-gt-LABEL_LEN-clause-label c =
    let long = c.if-len-gt-LABEL_LEN.true in
    ((λ told. let bad : false ≡ true = told in absurd (cc)), λ label. absurd (long-label c.args.bytes.now c.get_u32-len.result c.requires c.get_u32-len.ensures (omega (arith, long)) label))
