use Rattle.std.proofs.Common.{◌∙◌}
use Rattle.plx_model.specs.Shown.{model_of_tables}
use Rattle.plx_model.proofs.Pictures.{kept-rested}
use Rattle.plx_model.proofs.model.Model.refuse.Goals as goal

pub returns : goal.returns
returns c = c.run.ensures ∙ kept-rested (model_of_tables c.args.self.now) (model_of_tables c.give_up.new.self) c.args.appliance.0 _ c.give_up.ensures.moved
