-- Machines that keep their end: what the one inside asks, and where it moves on to.
use Rattle.std.proofs.Common.{◌≡◌, Option, Some, None, refl, ap, sym, ◌∙◌}
use Rattle.plx_disk.specs.declared.ask.Ask.{Ask}
use Rattle.plx_disk.specs.declared.ask.Answer.{Answer}
use Rattle.plx_disk.specs.declared.turn.Turn.TheVariants.{Again}
use Rattle.plx_rules.specs.Process.{Process, answered, standing}
use Rattle.plx_rules.specs.Machines.{rest_after, turn_of}
use Rattle.law_run.specs.Machines.{MovesOn}
use Rattle.law_run.proofs.Machines.{moves-on}

module _ {E F : Type 0} (view : E → F) (process : Process F) where
  -- one that asks again has no end yet
  again-is : (end : Option E) → turn_of (rest_after view process end) ≡ Again → rest_after view process end ≡ process
  again-is None again = refl
  again-is (Some end) again = absurd (let P : ⊥ = cc in P)

  -- its ask is the one inside's
  pub asks-still : (end : Option E) (a : Ask) → turn_of (rest_after view process end) ≡ Again → Some a ≡ standing process → Some a ≡ standing (rest_after view process end)
  asks-still end a again stands = stands ∙ ap standing (sym (again-is end again))

  -- and it moves on as the one inside does
  pub moves-still : (end : Option E) (x : Answer) (new : Process F) → turn_of (rest_after view process end) ≡ Again → new ≡ answered process x → MovesOn (rest_after view process end) x new
  moves-still end x new again is = moves-on (rest_after view process end) x new (is ∙ ap (λ (p : Process F). answered p x) (sym (again-is end again)))
