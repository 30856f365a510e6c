use Rattle.std.proofs.Common.{◌≡◌, ◌<◌, ◌∙◌, ap, sym, subst, true, Some, length}
use Rattle.std.proofs.lemmas.Result.{on_ok_weaker, on_err_weaker}
use Rattle.plx_commands.specs.Model.{Model, Slot, first_slot}
use Rattle.plx_commands.specs.Moves.{begins_change}
use Rattle.plx_commands.specs.Slots.{changed_slot}
use Rattle.plx_model.specs.Effects.{changed_by}
use Rattle.plx_model.specs.Shown.{CanChange, shown_image, model_of_tables, slot_of}
use Rattle.plx_model.proofs.Effects.{can_change, changed_of, none_changed, owned_changed}
use Rattle.plx_model.proofs.Pictures.{owner_within, picture-started, picture-same}
use Rattle.plx_model.proofs.Tables.{table-at}
use Rattle.plx_model.proofs.model.Model.begin_change.Goals as goal

pub returns-clause-ok : goal.returns-clause-ok
returns-clause-ok c =
    let m : Model = model_of_tables c.args.self.now in
    let changes : changed_slot c.args.command.now ≡ Some c.in-Some.slot =
    changed_of c.args.command.now ∙ (ap changed_by (sym c.of.ensures) ∙ (sym c.changed.ensures ∙ c.in-Some.is)) in
    let begins : begins_change m c.args.appliance.0 c.args.command.now ≡ true = sym c.begins_change.ensures ∙ c.if-not-begins_change.false in
    let within : c.in-Some.slot < length c.args.self.now.slots.items =
    owner_within c.args.self.now.slots.items c.args.self.now.seats.items c.in-Some.slot c.args.appliance.0 (owned_changed m c.args.appliance.0 c.in-Some.slot c.args.command.now changes begins) in
    let here : m.slots c.in-Some.slot ≡ slot_of c.index_mut-state.result.now =
    table-at slot_of c.args.self.now.slots.items c.in-Some.slot c.index_mut-state.result.now first_slot within c.index_mut-state.ensures.value in
    let can : CanChange (shown_image c.index_mut-state.result.now) c.args.command.now =
    subst (λ (z : Slot). CanChange z.image c.args.command.now) here (can_change m c.args.appliance.0 c.in-Some.slot c.args.command.now changes within (none_changed m c.args.appliance.0 c.args.command.now begins)) in
    on_ok_weaker c.begin.result
    (λ e. picture-started c.args.self.now.slots.items c.args.self.now.seats.items c.in-Some.slot c.args.appliance.0 c.index_mut-state.result.now c.begin.new.self c.args.command.now within c.index_mut-state.ensures.value changes begins (e can))
    c.begin.ensures.ok

pub returns-clause-err : goal.returns-clause-err
returns-clause-err c =
    let m : Model = model_of_tables c.args.self.now in
    let changes : changed_slot c.args.command.now ≡ Some c.in-Some.slot =
    changed_of c.args.command.now ∙ (ap changed_by (sym c.of.ensures) ∙ (sym c.changed.ensures ∙ c.in-Some.is)) in
    let begins : begins_change m c.args.appliance.0 c.args.command.now ≡ true = sym c.begins_change.ensures ∙ c.if-not-begins_change.false in
    let within : c.in-Some.slot < length c.args.self.now.slots.items =
    owner_within c.args.self.now.slots.items c.args.self.now.seats.items c.in-Some.slot c.args.appliance.0 (owned_changed m c.args.appliance.0 c.in-Some.slot c.args.command.now changes begins) in
    on_err_weaker c.begin.result
    (λ e. picture-same c.args.self.now.slots.items c.args.self.now.seats.items c.in-Some.slot c.index_mut-state.result.now c.begin.new.self within c.index_mut-state.ensures.value e)
    c.begin.ensures.err
