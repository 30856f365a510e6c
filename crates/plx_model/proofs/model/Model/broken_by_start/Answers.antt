use Rattle.std.proofs.Common.{◌≡◌, ◌<◌, ◌∙◌, length, Some, None}
use Rattle.plx_commands.specs.Judge.{known, idle}
use Rattle.plx_model.specs.Shown.{model_of_tables, running_of}
use Rattle.plx_commands.specs.declared.entry.Entry.{Entry}
use Rattle.plx_commands.specs.declared.entry.Entry.TheVariants.{Start}
use Rattle.plx_model.proofs.Numbered.{below_one, below_next, not-so, least-broken}
use Rattle.plx_model.proofs.Tables.{table-at}
use Rattle.plx_model.proofs.model.Model.broken_by_start.Goals as goal

pub returns-then-not-is_known-clause-least : goal.returns-then-not-is_known-clause-least
returns-then-not-is_known-clause-least c =
    let entry : Entry = Start c.args.appliance c.args.command.now in
    least-broken (model_of_tables c.args.self.now) entry 1 (below_one (model_of_tables c.args.self.now) entry) (known (not-so c.is_known.result c.is_known.ensures c.if-not-is_known.true))

pub returns-in-Some-clause-least : goal.returns-in-Some-clause-least
returns-in-Some-clause-least c =
    let entry : Entry = Start c.args.appliance c.args.command.now in
    let at_hand : c.args.appliance.0 < length c.args.self.now.seats.items = c.is_known.ensures.0 c.if-not-is_known.false in
    let runs : (model_of_tables c.args.self.now).running c.args.appliance.0 ≡ Some c.in-Some.field-0 =
    table-at running_of c.args.self.now.seats.items c.args.appliance.0 c.index-seat.result.now None at_hand c.index-seat.ensures ∙ c.in-Some.is in
    least-broken (model_of_tables c.args.self.now) entry 2 (below_next (model_of_tables c.args.self.now) entry 1 (below_one (model_of_tables c.args.self.now) entry) at_hand) (idle (λ none. cc))
