use Rattle.std.proofs.Common.{◌≡◌, ◌++◌, map, take, drop}
use Rattle.plx_commands.specs.Moves.{slot_without_owner}
use Rattle.plx_model.specs.Shown.{slot_of}
use Rattle.plx_model.proofs.disown.disown_all.Given as goal

abbrev pub invariant-loop-slot : goal.invariant-loop-slot
invariant-loop-slot l =
    map slot_of l.slots ≡ map (λ slot. slot_without_owner slot l.appliance) (take l.slot-index (map slot_of l.initial.slots)) ++ drop l.slot-index (map slot_of l.initial.slots)
