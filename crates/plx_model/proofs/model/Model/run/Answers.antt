use Rattle.std.proofs.Common.{◌∙◌, Option, ap}
use Rattle.plx_commands.specs.Model.{Model}
use Rattle.plx_commands.specs.Places.{at}
use Rattle.plx_commands.specs.declared.command.Command.{Command}
use Rattle.plx_model.specs.Shown.{model_of_tables}
use Rattle.plx_model.proofs.Pictures.{picture-run}
use Rattle.plx_model.proofs.model.Model.run.Goals as goal

pub returns : goal.returns
returns c =
    let m : Model = model_of_tables c.args.self.now in
    picture-run c.args.self.now.slots.items c.args.self.now.seats.items c.args.appliance.0 c.index_mut-seat.result.now c.run.new.self c.requires c.index_mut-seat.ensures.value c.run.ensures.sessions
    ∙ ap (λ (command : Option Command). record m { running = at m.running c.args.appliance.0 command }) c.run.ensures.running
