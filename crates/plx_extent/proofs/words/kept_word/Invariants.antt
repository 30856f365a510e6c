use Rattle.plx_extent.proofs.KeptWords.{KeptBelow}
use Rattle.plx_extent.proofs.words.kept_word.Given as goal

abbrev pub invariant-loop-at : goal.invariant-loop-at
invariant-loop-at g l = KeptBelow (g.M.MarkSet.is_marked l.marks) l.first l.word l.at l.kept
