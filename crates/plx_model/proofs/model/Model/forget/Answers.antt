use Rattle.std.proofs.Common.{◌≡◌, ◌∙◌, List, length, sym, ap, map}
use Rattle.std.proofs.lemmas.List.{with_items_is}
use Rattle.plx_commands.specs.Model.{Slot}
use Rattle.plx_commands.specs.Moves.{slot_without_owner}
use Rattle.plx_model.specs.Shown.{slot_of}
use Rattle.plx_model.specs.declared.slot.SlotState.{SlotState}
use Rattle.plx_model.proofs.Pictures.{picture-forgotten}
use Rattle.plx_model.proofs.model.Model.forget.Goals as goal

pub returns : goal.returns
returns c =
    let f : Slot → Slot = λ slot. slot_without_owner slot c.args.appliance.0 in
    let kept : length c.disown_all.new.slots ≡ length c.args.self.now.slots.items = c.disown_all.auto.slots ∙ ap length c.deref_mut.ensures.value in
    let long : c.args.self.now.slots.len ≡ length c.args.self.now.slots.items = c.args.self.now.slots.ok.0 in
    picture-forgotten c.args.self.now.slots.items _ c.args.self.now.seats.items c.args.appliance.0 c.forget.new.self
    (ap (λ (xs : List SlotState). map slot_of xs) (with_items_is c.args.self.now.slots c.disown_all.new.slots (kept ∙ sym long)) ∙ (c.disown_all.ensures ∙ ap (λ (xs : List SlotState). map f (map slot_of xs)) c.deref_mut.ensures.value))
    c.requires c.forget.ensures.sessions c.forget.ensures.running
