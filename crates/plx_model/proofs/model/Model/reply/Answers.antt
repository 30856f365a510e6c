use Rattle.std.proofs.Common.{◌≡◌, ◌∙◌, sym, ap, subst, Bool, Option, Some, None}
use Rattle.std.proofs.lemmas.Result.{on_ok_weaker}
use Rattle.plx_commands.specs.Model.{Model}
use Rattle.plx_commands.specs.Moves.{replied_in}
use Rattle.plx_commands.specs.Replies.{ends_sessions, number_of}
use Rattle.plx_commands.specs.declared.command.Command.{Command}
use Rattle.plx_model.specs.Effects.{IsAtHand, effect_of, model_after_end}
use Rattle.plx_model.specs.Shown.{model_of_tables, running_of}
use Rattle.plx_model.specs.declared.effect.Effect.{Effect}
use Rattle.plx_commands.proofs.OwnReplies.{own-zero}
use Rattle.plx_model.proofs.Effects.{at_hand, replied_by}
use Rattle.plx_model.proofs.Tables.{table-at}
use Rattle.plx_model.proofs.model.Model.reply.Goals as goal

pub end-requires-clause-at_hand : goal.end-requires-clause-at_hand
end-requires-clause-at_hand c =
    let m : Model = model_of_tables c.args.self.now in
    let command : Command = c.in-Some.command in
    let runs : m.running c.args.appliance.0 ≡ Some command =
    table-at running_of c.args.self.now.seats.items c.args.appliance.0 c.index-seat.result.now None c.requires.known c.index-seat.ensures ∙ c.in-Some.is in
    λ own. subst (λ (effect : Effect). IsAtHand m effect) (sym c.of-effect.ensures)
    (at_hand m command c.args.reply.now (c.requires.value command runs (own-zero command c.args.reply.now (sym c.is_own-own.ensures ∙ own))))

pub returns-clause-ok : goal.returns-clause-ok
returns-clause-ok c =
    let m : Model = model_of_tables c.args.self.now in
    let command : Command = c.in-Some.command in
    let ends : Bool = ends_sessions (number_of c.args.reply.now) in
    let runs : m.running c.args.appliance.0 ≡ Some command =
    table-at running_of c.args.self.now.seats.items c.args.appliance.0 c.index-seat.result.now None c.requires.known c.index-seat.ensures ∙ c.in-Some.is in
    on_ok_weaker c.end.result
    (λ e. e
    ∙ (ap (λ (effect : Effect). model_after_end m c.args.appliance.0 effect c.is_own-own.result ends c.args.reply.now) c.of-effect.ensures
    ∙ (ap (λ (own : Bool). model_after_end m c.args.appliance.0 (effect_of command) own ends c.args.reply.now) c.is_own-own.ensures
    ∙ (sym (replied_by m c.args.appliance.0 command c.args.reply.now) ∙ sym (ap (λ (o : Option Command). replied_in m c.args.appliance.0 o c.args.reply.now) runs)))))
    c.end.ensures.ok
