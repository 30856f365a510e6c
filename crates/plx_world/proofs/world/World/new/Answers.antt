use Rattle.std.proofs.Common.{Result, Ok, Err, IfOk, refl}
use Rattle.plx_world.proofs.Cancels.{cancels-new}
use Rattle.plx_world.proofs.world.World.new.Goals as goal

-- what holds of the value of an answer
at-ok : {A E : Type 0} (P Q : A → Type 0) (result : Result A E) → ((a : A) → P a → Q a) → IfOk result P → IfOk result Q
at-ok P Q (Ok a) step h = step a h
at-ok P Q (Err e) step h = tt

pub returns : goal.returns
returns c =
    let formatted = c.in_ok-disk.ensures.formatted in
    at-ok _ _ c.over.result (λ world stands. (formatted.0, formatted.1, stands formatted.0 formatted.2)) c.over.ensures

pub over-requires-clause-uncancelled : goal.over-requires-clause-uncancelled
over-requires-clause-uncancelled c = let formatted = c.in_ok-disk.ensures.formatted in cancels-new c.in_ok-disk.disk _ refl formatted.2
