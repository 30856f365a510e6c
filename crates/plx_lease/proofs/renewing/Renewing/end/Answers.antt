use Rattle.std.proofs.Common.{◌≡◌, rules}
use Rattle.plx_rules.specs.Process.{Ends}
use Rattle.law_run.specs.Renewals.{Renewed, RenewalLost, RenewalWriteFault}
use Rattle.law_run.proofs.RenewalRules.{renewal-end}
use Rattle.plx_lease.specs.Shells.{renewing_rest}
use Rattle.plx_lease.specs.Uses.{use_of}
use Rattle.plx_lease.proofs.renewing.Renewing.end.Goals as goal

pub returns-in-Some-Renewed-clause-rules : goal.returns-in-Some-Renewed-clause-rules
returns-in-Some-Renewed-clause-rules g c = let e : renewing_rest c.args.self ≡ Ends Renewed = search rules in renewal-end _ _ e

pub returns-in-Some-Lost-clause-rules : goal.returns-in-Some-Lost-clause-rules
returns-in-Some-Lost-clause-rules g c = let e : renewing_rest c.args.self ≡ Ends (RenewalLost (use_of c.in-Some-Lost.due) c.in-Some-Lost.reading) = search rules in renewal-end _ _ e

pub returns-in-Some-WriteFault-clause-rules : goal.returns-in-Some-WriteFault-clause-rules
returns-in-Some-WriteFault-clause-rules g c = let e : renewing_rest c.args.self ≡ Ends RenewalWriteFault = search rules in renewal-end _ _ e
