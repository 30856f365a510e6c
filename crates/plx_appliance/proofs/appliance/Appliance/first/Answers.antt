use Rattle.std.proofs.Common.{[], ◌∷◌, sym, ap, ◌∙◌, subst}
use Rattle.plx_disk.specs.declared.ask.Ask.TheVariants as ask
use Rattle.plx_disk.specs.declared.ask.Answer.TheVariants as answer
use Rattle.plx_rules.specs.Boot.{Asked, configuration}
use Rattle.plx_appliance.specs.Appliance.{StandsAt}
use Rattle.plx_appliance.specs.AfterReply.{hand_after_reply, leases_after}
use Rattle.plx_session.specs.Giving.{rules_setting}
use Rattle.plx_appliance.specs.Lent.{lent_of}
use Rattle.plx_appliance.specs.declared.appliance.Stage.{Stage}
use Rattle.plx_appliance.proofs.RunLogs.{run-first}
use Rattle.plx_appliance.proofs.Stood.{first-stands, last-stands, stood-in, stood-ends}
use Rattle.plx_appliance.proofs.Went.{hand-of}
use Rattle.plx_appliance.proofs.appliance.Appliance.first.Goals as goal

pub returns-in-Ok-clause-log : goal.returns-in-Ok-clause-log
returns-in-Ok-clause-log c = λ log begun is stands.
    let e = c.enter.new.holdings in
    let d = c.drop_expired.ensures in
    let x = c.in-Ok.ensures in
    let a = c.args.self.now in
    let h = c.drop_expired.new.self in
    let first = stood-in a c.in-Begun.begun log c.args.reading h e c.in-Ok.work (sym c.in-Begun.ensures.value) stands (hand-of a.holdings).within
    (record { setting = d.setting; known = d.known; leases = d.leases; extents = d.extents; hand = d.hand }) x.process x.leases x.tied x.inside x.sessions in
    let stood = first-stands a h e c.in-Ok.work log c.args.reading (x.setting ∙ d.setting) x.extents x.hand first in
    let asked = Asked ask.Clock [] (answer.Reading c.args.reading) in
    let p = configuration (rules_setting e.setting) (asked ∷ log) in
    record {
      run = run-first a c.in-Begun.begun e.setting log c.args.reading (x.setting ∙ d.setting) (sym c.in-Begun.ensures.value) stands c.requires;
      at = subst (λ (st : Stage). StandsAt (rules_setting e.setting) (lent_of e) st p)
          (sym c.set.ensures) stood.at;
      held = stood.held;
      hand = stood.hand;
      unfilled = stood.unfilled;
    }

pub returns-in-Ok-clause-reply : goal.returns-in-Ok-clause-reply
returns-in-Ok-clause-reply c = λ log begun is stands.
    let d = c.drop_expired.ensures in
    let x = c.in-Ok.ensures in
    let a = c.args.self.now in
    (stood-in a c.in-Begun.begun log c.args.reading c.drop_expired.new.self c.enter.new.holdings c.in-Ok.work (sym c.in-Begun.ensures.value) stands (hand-of a.holdings).within
    (record { setting = d.setting; known = d.known; leases = d.leases; extents = d.extents; hand = d.hand }) x.process x.leases x.tied x.inside x.sessions).no_reply

pub returns-in-Err-clause-log : goal.returns-in-Err-clause-log
returns-in-Err-clause-log c = λ log begun is stands.
    let d = c.drop_expired.ensures in
    let x = c.in-Err.ensures in
    let k = c.settle.new.self in
    let y = c.settle.ensures in
    let a = c.args.self.now in
    let h = c.drop_expired.new.self in
    let e = c.enter.new.holdings in
    let r = c.in-Err.reply in
    let first = stood-ends a c.in-Begun.begun log c.args.reading h e r (sym c.in-Begun.ensures.value) stands (hand-of a.holdings).within
    (record { setting = d.setting; known = d.known; leases = d.leases; extents = d.extents; hand = d.hand }) x.process x.leases in
    let stood = last-stands a h e k r log c.args.reading (y.setting ∙ x.setting ∙ d.setting) y.known y.leases (y.extents ∙ ap (leases_after r) x.extents) (y.hand ∙ ap (hand_after_reply r) x.hand) first in
    record {
      run = run-first a c.in-Begun.begun k.setting log c.args.reading (y.setting ∙ x.setting ∙ d.setting) (sym c.in-Begun.ensures.value) stands c.requires;
      at = subst (λ (st : Stage). StandsAt (rules_setting k.setting) (lent_of k) st (configuration (rules_setting k.setting) (Asked ask.Clock [] (answer.Reading c.args.reading) ∷ log))) (sym c.replace.ensures.after) stood.at;
      held = stood.held;
      hand = stood.hand;
      unfilled = stood.unfilled;
    }

pub returns-in-Err-clause-reply : goal.returns-in-Err-clause-reply
returns-in-Err-clause-reply c = λ log begun is stands.
    let d = c.drop_expired.ensures in
    let x = c.in-Err.ensures in
    let a = c.args.self.now in
    (stood-ends a c.in-Begun.begun log c.args.reading c.drop_expired.new.self c.enter.new.holdings c.in-Err.reply (sym c.in-Begun.ensures.value) stands (hand-of a.holdings).within
    (record { setting = d.setting; known = d.known; leases = d.leases; extents = d.extents; hand = d.hand }) x.process x.leases).replied
