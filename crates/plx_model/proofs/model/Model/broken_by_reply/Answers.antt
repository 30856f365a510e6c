use Rattle.std.proofs.Common.{◌≡◌, ◌<◌, ◌∙◌, length, Option, None, IsSome, subst}
use Rattle.plx_commands.specs.Judge.{known, running}
use Rattle.plx_model.specs.Shown.{model_of_tables, running_of}
use Rattle.plx_commands.specs.declared.command.Command.{Command}
use Rattle.plx_commands.specs.declared.entry.Entry.{Entry}
use Rattle.plx_commands.specs.declared.entry.Entry.TheVariants.{Reply}
use Rattle.plx_model.proofs.Numbered.{below_one, below_three, not-so, least-broken}
use Rattle.plx_model.proofs.Tables.{table-at}
use Rattle.plx_model.proofs.model.Model.broken_by_reply.Goals as goal

pub returns-then-not-is_known-clause-least : goal.returns-then-not-is_known-clause-least
returns-then-not-is_known-clause-least c =
    let entry : Entry = Reply c.args.appliance c.args.reply.now in
    least-broken (model_of_tables c.args.self.now) entry 1 (below_one (model_of_tables c.args.self.now) entry) (known (not-so c.is_known.result c.is_known.ensures c.if-not-is_known.true))

pub returns-in-None-clause-least : goal.returns-in-None-clause-least
returns-in-None-clause-least c =
    let entry : Entry = Reply c.args.appliance c.args.reply.now in
    let at_hand : c.args.appliance.0 < length c.args.self.now.seats.items = c.is_known.ensures.0 c.if-not-is_known.false in
    let rests : (model_of_tables c.args.self.now).running c.args.appliance.0 ≡ None =
    table-at running_of c.args.self.now.seats.items c.args.appliance.0 c.index-seat.result.now None at_hand c.index-seat.ensures ∙ c.in-None.is in
    let P : Option Command → Type 0 = λ o. IsSome o in
    least-broken (model_of_tables c.args.self.now) entry 3 (below_three (model_of_tables c.args.self.now) c.args.appliance c.args.reply.now at_hand) (running (λ some. let impossible : IsSome {T = Command} None = subst P rests some in cc))
