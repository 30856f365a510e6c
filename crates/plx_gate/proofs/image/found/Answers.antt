use Rattle.std.proofs.Common.{◌≡◌, ◌∙◌, IfNone, false, true, subst, sym}
use Rattle.plx_gate.specs.Images.{found_image, is_image}
use Rattle.plx_gate.proofs.Images.{past-label}
use Rattle.plx_gate.proofs.image.found.Goals as goal

pub returns-in_err-label-clause-past : goal.returns-in_err-label-clause-past
returns-in_err-label-clause-past c =
    subst (λ o. IfNone o (is_image (found_image c.args.bytes.now) ≡ false)) (sym c.from_residual-in_err-label.ensures)
    (past-label c.args.bytes.now (λ e. c.if-get_u32-eq0.false (c.get_u32.ensures ∙ e)) (λ label. let bad : false ≡ true = c.in_err-label.ensures.label.1 label in cc))
