use Rattle.std.proofs.Common.{◌∙◌, ◌+◌, subst, sym, inl, inr}
use Rattle.plx_extent.proofs.KeptWords.{KeptBelow, next-cleared, next-left, test-clear}
use Rattle.plx_extent.proofs.words.kept_word.Goals.{then-word-bit-ne0+then-not-stays_set, else-word-bit-ne0, else-word-bit-ne0-via-then-word-bit-ne0+else-not-stays_set, else-word-bit-ne0-via-else-word-bit-ne0}
use Rattle.plx_extent.proofs.words.kept_word.Goals as goal

pub loop-at-preserved : goal.loop-at-preserved
loop-at-preserved g c =
    let marked = g.M.MarkSet.is_marked c.args.marks.now in
    let at = c.loop-at.at in
    let first = c.args.first in
    let word = c.args.word in
    let now = c.loop-at.kept in
    let within = c.loop-at-test.true in
    let h = c.loop-at.invariant in
    elim c.if-word-bit-ne0.branch [
      | then-word-bit-ne0+then-not-stays_set w ↦
          subst (KeptBelow marked first word (at + 1)) (sym w.kept-is) (next-cleared marked first word at now within (sym w.stays_set.ensures ∙ w.if-not-stays_set.true) h)
      | else-word-bit-ne0 w ↦
          subst (KeptBelow marked first word (at + 1)) (sym w.kept-is)
          (elim w.else-word-bit-ne0.branch [
            | else-word-bit-ne0-via-then-word-bit-ne0+else-not-stays_set v ↦ next-left marked first word at now within (inr (sym v.stays_set.ensures ∙ v.if-not-stays_set.false)) h
            | else-word-bit-ne0-via-else-word-bit-ne0 v ↦ next-left marked first word at now within (inl (test-clear word at within v.if-word-bit-ne0.false)) h
          ])
    ]
