use Rattle.std.proofs.Common.{◌+◌, ◌*◌, ◌∙◌, sym, subst, arith}
use Rattle.plx_extent.proofs.Bits.{bytes-lt}
use Rattle.plx_extent.proofs.WordBits.{IsFirstClear, first-clear, full-word}
use Rattle.plx_extent.proofs.words.first_clear.Goals as goal

clear-in-word : (c : goal.After-trailing_ones) → IsFirstClear c.args.bytes.now (64 * c.loop-index.index + c.trailing_ones.result)
clear-in-word c =
    let bytes = c.args.bytes.now in
    let index = c.loop-index.index in
    subst (λ t. IsFirstClear bytes (64 * index + t)) (sym c.trailing_ones.ensures)
    (first-clear bytes index c.get_u64-word.result (bytes-lt bytes c.type_inv.bytes) (omega arith) c.get_u64-word.ensures c.if-word.true c.loop-index.invariant)

pub returns-then-word-clause-set : goal.returns-then-word-clause-set
returns-then-word-clause-set c = (clear-in-word c).set

pub returns-then-word-clause-clear : goal.returns-then-word-clause-clear
returns-then-word-clause-clear c = λ _. (clear-in-word c).clear

pub loop-index-preserved : goal.loop-index-preserved
loop-index-preserved c =
    full-word c.args.bytes.now c.loop-index.index (bytes-lt c.args.bytes.now c.type_inv.bytes) (sym c.get_u64-word.ensures ∙ c.if-word.false) c.loop-index.invariant
