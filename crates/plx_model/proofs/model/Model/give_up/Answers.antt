use Rattle.std.proofs.Common.{◌∙◌, ℕ, Option, sym, ap}
use Rattle.plx_commands.specs.Model.{Model}
use Rattle.plx_commands.specs.Moves.{refused_at}
use Rattle.plx_model.specs.Shown.{model_of_tables}
use Rattle.plx_model.proofs.Pictures.{picture-refused}
use Rattle.plx_model.proofs.model.Model.give_up.Goals as goal

pub returns-clause-moved : goal.returns-clause-moved
returns-clause-moved c =
    let m : Model = model_of_tables c.args.self.now in
    picture-refused c.args.self.now.slots.items c.args.self.now.seats.items c.in-Some.slot c.args.appliance.0 c.index_mut-state.result.now c.give_up.new.self
    (c.is_owner.ensures.within c.if-not-is_owner.false) c.index_mut-state.ensures.value (sym c.is_owner.ensures.owner ∙ c.if-not-is_owner.false) c.give_up.ensures
    ∙ ap (λ (o : Option ℕ). record m { slots = refused_at m c.args.appliance.0 o }) (sym c.in-Some.is)
