use Rattle.plx_commands.specs.Judge.{known}
use Rattle.plx_model.specs.Shown.{model_of_tables}
use Rattle.plx_commands.specs.declared.entry.Entry.{Entry}
use Rattle.plx_commands.specs.declared.entry.Entry.TheVariants.{Crash}
use Rattle.plx_model.proofs.Numbered.{below_one, not-so, least-broken}
use Rattle.plx_model.proofs.model.Model.broken_by_crash.Goals as goal

pub returns-then-not-is_known-clause-least : goal.returns-then-not-is_known-clause-least
returns-then-not-is_known-clause-least c =
    let entry : Entry = Crash c.args.appliance in
    least-broken (model_of_tables c.args.self.now) entry 1 (below_one (model_of_tables c.args.self.now) entry) (known (not-so c.is_known.result c.is_known.ensures c.if-not-is_known.true))
