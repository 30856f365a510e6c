use Rattle.std.proofs.Common.{List, ℕ, Result, Ok, Err, IfOk}
use Rattle.plx_cli.proofs.Told.{text-told}
use Rattle.plx_cli.proofs.replay.tell.Goals as goal

-- what holds of the value of an answer
text-if-ok : {E : Type 0} (P Q R : List ℕ → Type 0) (result : Result (List ℕ) E) → ((text : List ℕ) → P text → Q text → R text) → IfOk result P → IfOk result Q → IfOk result R
text-if-ok P Q R (Ok text) step h k = step text h k
text-if-ok P Q R (Err e) step h k = tt

pub returns : goal.returns
returns c =
    text-if-ok _ _ _ c.print_trace.result
    (λ text is tells. text-told _ _ text _ _ _ c.args.world.now c.trace.ensures c.in_ok-reachable.ensures c.allocated-allocated.ensures is tells)
    c.print_trace.ensures.text c.print_trace.ensures.tells
