use Rattle.std.proofs.Common.{◌<◌, ◌∙◌, length, map, get_or, sym, ap, arith}
use Rattle.std.proofs.lemmas.List.{map-set, length-map, get_or-map}
use Rattle.std.proofs.lemmas.List.Edits.{map_over_more}
use Rattle.std.specs.Prelude.{slice_set}
use Rattle.plx_commands.specs.Model.{Slot}
use Rattle.plx_commands.specs.Moves.{slot_without_owner}
use Rattle.plx_model.specs.Shown.{slot_of}
use Rattle.plx_model.proofs.disown.disown_all.Goals as goal

pub loop-slot-preserved : goal.loop-slot-preserved
loop-slot-preserved c =
    let f : Slot → Slot = λ slot. slot_without_owner slot c.args.appliance in
    let below : c.loop-slot.slot-index < length c.loop-slot.slots = omega arith in
    let inside : c.loop-slot.slot-index < length (map slot_of c.args.slots.now) = rw (length-map c.args.slots.now slot_of) (omega arith) in
    let here : Slot = slot_of (get_or c.loop-slot.slots c.loop-slot.slot-index c.slot-item.result) in
    map-set slot_of c.loop-slot.slots c.loop-slot.slot-index c.disown.new.self
    ∙ (ap (λ (x : Slot). slice_set (map slot_of c.loop-slot.slots) c.loop-slot.slot-index x) c.disown.ensures
    ∙ map_over_more f (map slot_of c.args.slots.now) (map slot_of c.loop-slot.slots) c.loop-slot.slot-index here inside c.loop-slot.invariant
    (sym (get_or-map slot_of c.loop-slot.slots c.loop-slot.slot-index c.slot-item.result here below)))
