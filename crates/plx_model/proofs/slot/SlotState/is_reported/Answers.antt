use Rattle.std.proofs.Common.{◌∙◌, sym}
use Rattle.plx_model.specs.Shown.{shown_image, slot_of}
use Rattle.plx_model.proofs.Reports.{reported_by_own, reported_by_change, reported_either}
use Rattle.plx_model.proofs.slot.SlotState.is_reported.Goals as goal

pub returns-then-is_own : goal.returns-then-is_own
returns-then-is_own c = (
  λ h. reported_by_own (shown_image c.args.self.now) (slot_of c.args.self.now).change c.args.report.now (sym c.is_own.ensures ∙ c.if-is_own.true),
  λ h. c.if-is_own.true,
)

pub returns-else-is_own : goal.returns-else-is_own
returns-else-is_own c = (
  λ h. reported_by_change (shown_image c.args.self.now) (slot_of c.args.self.now).change c.args.report.now (sym c.is_of_change.ensures ∙ h),
  λ h. (c.is_of_change.ensures ∙ reported_either (shown_image c.args.self.now) (slot_of c.args.self.now).change c.args.report.now (sym c.is_own.ensures ∙ c.if-is_own.false) h),
)
