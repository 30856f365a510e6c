use Rattle.plx_extent.proofs.KeptWords.{WordsKept}
use Rattle.plx_extent.proofs.words.keep_marked.Given as goal

abbrev pub invariant-loop-index : goal.invariant-loop-index
invariant-loop-index g l = WordsKept (g.M.MarkSet.is_marked l.marks) l.fn.bytes l.index l.bytes
