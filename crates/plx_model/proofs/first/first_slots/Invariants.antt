use Rattle.std.proofs.Common.{◌≡◌, map, replicate}
use Rattle.plx_commands.specs.Model.{first_slot}
use Rattle.plx_model.specs.Shown.{slot_of}
use Rattle.plx_model.proofs.first.first_slots.Given as goal

abbrev pub invariant-loop : goal.invariant-loop
invariant-loop l = map slot_of l.slots.items ≡ replicate l.counter first_slot
