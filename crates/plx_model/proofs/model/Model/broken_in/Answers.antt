use Rattle.std.proofs.Common.{◌≡◌, ◌↔◌, ◌++◌, List, [], Bool, true, false, IsTrue, ap, subst, sym, ◌∙◌}
use Rattle.plx_commands.specs.Facts.{refusals, where_holds}
use Rattle.plx_commands.specs.Judge.{IsByOwner, IsFounded, IsListed, IsUnrefused, IsValue, listed, owner, value, refusal, unrefused}
use Rattle.plx_commands.specs.Limits.{last_claim}
use Rattle.plx_commands.specs.Model.{Model}
use Rattle.plx_commands.specs.Replies.{number_of}
use Rattle.plx_commands.specs.declared.reply.Reply as reply
use Rattle.plx_commands.specs.declared.reply.Reply.TheVariants.{WornOut}
use Rattle.plx_commands.specs.declared.entry.Entry.{Entry}
use Rattle.plx_commands.specs.declared.entry.Entry.TheVariants.{Reply}
use Rattle.plx_model.specs.Shown.{IsFoundedIn, model_of_tables}
use Rattle.plx_model.proofs.Numbered.{IsInCommand, below_eight, below_five, below_four, below_seven, below_six, not-so, least-broken, not_in_command}
use Rattle.plx_model.proofs.model.Model.broken_in.Goals as goal

pub returns-then-not-is_listed-clause-least : goal.returns-then-not-is_listed-clause-least
returns-then-not-is_listed-clause-least c =
    let m : Model = model_of_tables c.args.self.now in
    let entry : Entry = Reply c.args.appliance c.args.reply.now in
    let is : IsInCommand m c.args.appliance c.args.command.now = record { known = c.requires.known; runs = c.requires.running } in
    least-broken m entry 4 (below_four m c.args.appliance c.args.command.now c.args.reply.now is)
    (listed (not_in_command IsListed m c.args.appliance c.args.command.now c.args.reply.now c.requires.running (λ e. let no : false ≡ true = sym c.if-not-is_listed.true ∙ (c.is_listed.ensures ∙ e) in let P : ⊥ = cc in P)))

pub returns-then-not-is_by_owner-clause-least : goal.returns-then-not-is_by_owner-clause-least
returns-then-not-is_by_owner-clause-least c =
    let m : Model = model_of_tables c.args.self.now in
    let entry : Entry = Reply c.args.appliance c.args.reply.now in
    let is : IsInCommand m c.args.appliance c.args.command.now = record { known = c.requires.known; runs = c.requires.running } in
    least-broken m entry 5 (below_five m c.args.appliance c.args.command.now c.args.reply.now is (sym c.is_listed.ensures ∙ c.if-not-is_listed.false))
    (owner (not_in_command IsByOwner m c.args.appliance c.args.command.now c.args.reply.now c.requires.running (not-so c.is_by_owner.result c.is_by_owner.ensures c.if-not-is_by_owner.true)))

pub returns-then-not-is_value-clause-least : goal.returns-then-not-is_value-clause-least
returns-then-not-is_value-clause-least c =
    let m : Model = model_of_tables c.args.self.now in
    let entry : Entry = Reply c.args.appliance c.args.reply.now in
    let is : IsInCommand m c.args.appliance c.args.command.now = record { known = c.requires.known; runs = c.requires.running } in
    least-broken m entry 6 (below_six m c.args.appliance c.args.command.now c.args.reply.now is (sym c.is_listed.ensures ∙ c.if-not-is_listed.false) (c.is_by_owner.ensures.0 c.if-not-is_by_owner.false))
    (value (not_in_command IsValue m c.args.appliance c.args.command.now c.args.reply.now c.requires.running (not-so c.is_value.result c.is_value.ensures c.if-not-is_value.true)))

pub returns-then-not-found-clause-least : goal.returns-then-not-found-clause-least
returns-then-not-found-clause-least c =
    let m : Model = model_of_tables c.args.self.now in
    let entry : Entry = Reply c.args.appliance c.args.reply.now in
    let is : IsInCommand m c.args.appliance c.args.command.now = record { known = c.requires.known; runs = c.requires.running } in
    let all : List reply.Reply = refusals m c.args.appliance.0 c.args.command.now in
    let P : List reply.Reply → Type 0 = λ facts. IsTrue c.found.result ↔ IsFoundedIn facts c.args.reply.now in
    let tells : IsTrue c.found.result ↔ IsFounded m c.args.appliance.0 c.args.command.now c.args.reply.now =
    subst P (ap (λ (facts : List reply.Reply). facts ++ where_holds c.refusals-refusals.result.claims (WornOut last_claim)) c.refusals-refusals.ensures.listed ∙ ap (λ (claims : Bool). all ++ where_holds claims (WornOut last_claim)) c.refusals-refusals.ensures.claims) c.found.ensures in
    least-broken m entry 7 (below_seven m c.args.appliance c.args.command.now c.args.reply.now is (sym c.is_listed.ensures ∙ c.if-not-is_listed.false) (c.is_by_owner.ensures.0 c.if-not-is_by_owner.false) (c.is_value.ensures.0 c.if-not-is_value.false))
    (refusal (not_in_command IsFounded m c.args.appliance c.args.command.now c.args.reply.now c.requires.running (not-so c.found.result tells c.if-not-found.true)))

pub returns-then-not-allow-clause-least : goal.returns-then-not-allow-clause-least
returns-then-not-allow-clause-least c =
    let m : Model = model_of_tables c.args.self.now in
    let entry : Entry = Reply c.args.appliance c.args.reply.now in
    let is : IsInCommand m c.args.appliance c.args.command.now = record { known = c.requires.known; runs = c.requires.running } in
    let all : List reply.Reply = refusals m c.args.appliance.0 c.args.command.now in
    let P : List reply.Reply → Type 0 = λ facts. IsTrue c.found.result ↔ IsFoundedIn facts c.args.reply.now in
    let tells : IsTrue c.found.result ↔ IsFounded m c.args.appliance.0 c.args.command.now c.args.reply.now =
    subst P (ap (λ (facts : List reply.Reply). facts ++ where_holds c.refusals-refusals.result.claims (WornOut last_claim)) c.refusals-refusals.ensures.listed ∙ ap (λ (claims : Bool). all ++ where_holds claims (WornOut last_claim)) c.refusals-refusals.ensures.claims) c.found.ensures in
    let Q : List reply.Reply → Type 0 = λ facts. IsTrue c.allow.result ↔ (number_of c.args.reply.now ≡ 0 → facts ≡ []) in
    let allows : IsTrue c.allow.result ↔ IsUnrefused m c.args.appliance.0 c.args.command.now c.args.reply.now = subst Q c.refusals-refusals.ensures.listed c.allow.ensures in
    least-broken m entry 8 (below_eight m c.args.appliance c.args.command.now c.args.reply.now is (sym c.is_listed.ensures ∙ c.if-not-is_listed.false) (c.is_by_owner.ensures.0 c.if-not-is_by_owner.false) (c.is_value.ensures.0 c.if-not-is_value.false) (tells.0 c.if-not-found.false))
    (unrefused (not_in_command IsUnrefused m c.args.appliance c.args.command.now c.args.reply.now c.requires.running (not-so c.allow.result allows c.if-not-allow.true)))
