use Rattle.std.proofs.Common.{ℕ, List, [], ◌∷◌, sym, ap, ◌∙◌, subst}
use Rattle.plx_disk.specs.declared.ask.Ask.{Ask}
use Rattle.plx_disk.specs.declared.ask.Answer.{Answer}
use Rattle.plx_disk.specs.declared.ask.Answer.TheVariants as answer
use Rattle.plx_rules.specs.Boot.{Asked, configuration, replies}
use Rattle.plx_appliance.specs.Appliance.{StandsFor, appliance_setting}
use Rattle.plx_appliance.proofs.Went.{begun-stands, by-begun, by-running}
use Rattle.plx_appliance.proofs.appliance.Appliance.answer.Goals as goal

pub returns-in-true-Reading-clause-log : goal.returns-in-true-Reading-clause-log
returns-in-true-Reading-clause-log c = λ log ask bytes stands standing fits. by-begun c.args.self.now.stage c.in-true-Reading.ensures (λ b is.
    let new = c.first.new.self in
    let same = begun-stands c.args.self.now b log ask bytes is stands standing in
    subst (λ (found : Answer). StandsFor new (Asked ask bytes found ∷ log)) (sym c.in-true-Reading.is-1)
    (subst (λ (bs : List ℕ). StandsFor new (Asked ask bs (answer.Reading c.in-true-Reading.reading) ∷ log)) same.1
    (subst (λ (q : Ask). StandsFor new (Asked q [] (answer.Reading c.in-true-Reading.reading) ∷ log)) same.0 (c.first.ensures.log log b is stands))))

pub returns-in-true-Reading-clause-reply : goal.returns-in-true-Reading-clause-reply
returns-in-true-Reading-clause-reply c = λ log ask bytes stands standing fits. by-begun c.args.self.now.stage c.in-true-Reading.ensures (λ b is.
    c.first.ensures.reply log b is stands
    ∙ ap (λ (found : Answer). replies (appliance_setting c.args.self.now) found (configuration (appliance_setting c.args.self.now) log)) (sym c.in-true-Reading.is-1))

pub returns-in-false-default-clause-log : goal.returns-in-false-default-clause-log
returns-in-false-default-clause-log c = λ log ask bytes stands standing fits.
    by-running c.args.self.now.stage c.in-false-default.ensures c.requires (λ w is. c.next.ensures.log log ask bytes w is stands standing fits)

pub returns-in-false-default-clause-reply : goal.returns-in-false-default-clause-reply
returns-in-false-default-clause-reply c = λ log ask bytes stands standing fits.
    by-running c.args.self.now.stage c.in-false-default.ensures c.requires (λ w is. c.next.ensures.reply log ask bytes w is stands standing fits)
