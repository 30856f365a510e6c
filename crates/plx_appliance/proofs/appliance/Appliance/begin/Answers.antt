use Rattle.std.proofs.Common.{◌∷◌, subst, sym}
use Rattle.plx_rules.specs.Boot.{Began, configuration}
use Rattle.plx_appliance.specs.Appliance.{StandsAt, appliance_setting}
use Rattle.plx_appliance.specs.Lent.{lent_of}
use Rattle.plx_appliance.specs.declared.appliance.Stage.{Stage}
use Rattle.plx_appliance.proofs.RunLogs.{has-begun, run-begins}
use Rattle.plx_appliance.proofs.appliance.Appliance.begin.Goals as goal

pub returns-clause-ok : goal.returns-clause-ok
returns-clause-ok c = λ log stands.
    let a = c.args.self.now in
    let command = c.args.command in
    record {
      run = run-begins a log command c.requires.idle stands c.requires.limits c.requires.built;
      at = subst (λ (st : Stage). StandsAt (appliance_setting a) (lent_of a.holdings) st (configuration (appliance_setting a) (Began command ∷ log))) (sym c.set.ensures)
          (has-begun a log command c.in_ok-begun.begun c.requires.idle stands c.in_ok-begun.ensures.process);
      held = stands.held;
      hand = stands.hand;
      unfilled = stands.unfilled;
    }
