use Rattle.std.proofs.Common.{◌≡◌, ◌∷◌, Some, None, refl, sym, ap, ◌∙◌, subst}
use Rattle.plx_disk.specs.declared.ask.Ask.{Ask}
use Rattle.plx_rules.specs.Boot.{Asked, configuration}
use Rattle.plx_appliance.specs.Appliance.{IsInWork, StandsAt, appliance_setting}
use Rattle.plx_appliance.specs.AfterReply.{hand_after_reply, leases_after}
use Rattle.plx_session.specs.Ending.{known_after}
use Rattle.plx_session.specs.Giving.{rules_setting}
use Rattle.plx_appliance.specs.Holding.{DropsNothing, image_leases_after_write, dropped_hand}
use Rattle.plx_appliance.specs.Lent.{lent_of}
use Rattle.plx_appliance.specs.Space.{extents_in, hand_in}
use Rattle.plx_appliance.specs.Ties.{stage_setting, stage_slots}
use Rattle.plx_appliance.specs.Tokens.{image_leases}
use Rattle.plx_appliance.specs.Works.{work_suits}
use Rattle.plx_appliance.specs.declared.appliance.Stage.{Stage}
use Rattle.plx_appliance.specs.declared.holdings.Holdings.{Holdings}
use Rattle.plx_session.specs.declared.setting.Setting.{Setting}
use Rattle.plx_appliance.proofs.Answered.{work-kept}
use Rattle.plx_appliance.proofs.RunLogs.{run-goes-on}
use Rattle.plx_appliance.proofs.Went.{Stood, answered-by, keeps_of, stands-in, stands-out, went-in, went-out}
use Rattle.plx_appliance.proofs.appliance.Appliance.next.Goals as goal

pub returns-in-None-clause-log : goal.returns-in-None-clause-log
returns-in-None-clause-log c = λ log ask bytes work is stands standing fits.
    let a = c.args.self.now in
    let h = c.answer-reply.new.holdings in
    let w = c.in-In.work in
    let new = c.answer-reply.new.self in
    let found = c.args.answer.now in
    let x = c.in-None.ensures in
    let by = answered-by a w new log c.ask-ask.result ask bytes found h None c.in-In.is stands standing fits c.ask-ask.ensures.ask c.ask-ask.ensures.spare
    x.moves x.setting x.kept x.suits x.sessions in
    let went = went-in (appliance_setting a) (lent_of a.holdings) (lent_of h) w new log ask bytes found (keeps_of a.holdings) (keeps_of h) by.1 x.rest in
    let kept = work-kept (lent_of a.holdings) (lent_of h) w new c.ask-ask.result found (c.ask-ask.ensures.ask (lent_of a.holdings)) x.rest in
    let same = c.drop_failed.ensures.kept kept in
    let stood = subst (λ (k : Holdings). Stood k (configuration (rules_setting k.setting) (Asked ask bytes found ∷ log)) (λ lent. IsInWork lent new (configuration (rules_setting k.setting) (Asked ask bytes found ∷ log)))) (sym same)
    (stands-in a h new log ask bytes found x.setting (subst (λ (q : Ask). DropsNothing q found) by.0 kept) went) in
    record { run = run-goes-on a.holdings.setting c.drop_failed.new.self.setting log ask bytes found (c.drop_failed.ensures.setting ∙ x.setting) stands.run standing.ask_is standing.bytes_are fits; at = stood.at; held = stood.held; hand = stood.hand; unfilled = stood.unfilled }

pub returns-in-None-clause-reply : goal.returns-in-None-clause-reply
returns-in-None-clause-reply c = λ log ask bytes work is stands standing fits.
    let a = c.args.self.now in
    let h = c.answer-reply.new.holdings in
    let found = c.args.answer.now in
    let x = c.in-None.ensures in
    let by = answered-by a c.in-In.work c.answer-reply.new.self log c.ask-ask.result ask bytes found h None c.in-In.is stands standing fits c.ask-ask.ensures.ask c.ask-ask.ensures.spare
    x.moves x.setting x.kept x.suits x.sessions in
    (went-in (appliance_setting a) (lent_of a.holdings) (lent_of h) c.in-In.work c.answer-reply.new.self log ask bytes found (keeps_of a.holdings) (keeps_of h) by.1 x.rest).no_reply

pub returns-in-Some-clause-log : goal.returns-in-Some-clause-log
returns-in-Some-clause-log c = λ log ask bytes work is stands standing fits.
    let a = c.args.self.now in
    let h = c.answer-reply.new.holdings in
    let k = c.settle.new.self in
    let found = c.args.answer.now in
    let r = c.in-Some.reply in
    let d = c.drop_failed.ensures in
    let e = c.settle.ensures in
    let x = c.in-Some.ensures in
    let by = answered-by a c.in-In.work c.answer-reply.new.self log c.ask-ask.result ask bytes found h (Some r) c.in-In.is stands standing fits c.ask-ask.ensures.ask c.ask-ask.ensures.spare
    x.moves x.setting x.kept x.suits x.sessions in
    let went = went-out (appliance_setting a) (lent_of a.holdings) (lent_of h) c.in-In.work c.answer-reply.new.self r log ask bytes found (keeps_of a.holdings) (keeps_of h) by.1 x.rest in
    let stood = stands-out a h k r log ask bytes found (record {
      setting = e.setting ∙ d.setting ∙ x.setting;
      known = e.known ∙ ap (known_after r) d.known;
      leases = e.leases ∙ ap (leases_after r) (d.leases ∙ ap (λ (q : Ask). image_leases_after_write q found (image_leases h.leases.leases.items)) by.0);
      extents = e.extents ∙ ap (leases_after r) (d.extents ∙ ap (λ (q : Ask). image_leases_after_write q found (extents_in h)) by.0);
      hand = e.hand ∙ ap (hand_after_reply r) (d.hand ∙ ap (λ (q : Ask). dropped_hand q found (hand_in h)) by.0);
    }) went in
    let p = configuration (rules_setting k.setting) (Asked ask bytes found ∷ log) in
    record {
      run = run-goes-on a.holdings.setting k.setting log ask bytes found (e.setting ∙ d.setting ∙ x.setting) stands.run standing.ask_is standing.bytes_are fits;
      at = subst (λ (st : Stage). StandsAt (rules_setting k.setting) (lent_of k) st p)
          (sym c.set.ensures) stood.at;
      held = stood.held;
      hand = stood.hand;
      unfilled = stood.unfilled;
    }

pub returns-in-Some-clause-reply : goal.returns-in-Some-clause-reply
returns-in-Some-clause-reply c = λ log ask bytes work is stands standing fits.
    let a = c.args.self.now in
    let h = c.answer-reply.new.holdings in
    let found = c.args.answer.now in
    let r = c.in-Some.reply in
    let x = c.in-Some.ensures in
    let by = answered-by a c.in-In.work c.answer-reply.new.self log c.ask-ask.result ask bytes found h (Some r) c.in-In.is stands standing fits c.ask-ask.ensures.ask c.ask-ask.ensures.spare
    x.moves x.setting x.kept x.suits x.sessions in
    (went-out (appliance_setting a) (lent_of a.holdings) (lent_of h) c.in-In.work c.answer-reply.new.self r log ask bytes found (keeps_of a.holdings) (keeps_of h) by.1 x.rest).replied

pub invariant_of-self-in-None : goal.invariant_of-self-in-None
invariant_of-self-in-None c =
    let a = c.args.self.now in
    let w = c.in-In.work in
    let new = c.answer-reply.new.self in
    let x = c.in-None.ensures in
    let kept = work-kept (lent_of a.holdings) (lent_of c.answer-reply.new.holdings) w new c.ask-ask.result c.args.answer.now (c.ask-ask.ensures.ask (lent_of a.holdings)) x.rest in
    let same = c.drop_failed.ensures.kept kept in
    let tied = subst (λ (st : Stage). stage_setting a.holdings.setting st ≡ a.holdings.setting) c.in-In.is a.same in
    let room = subst (λ (st : Stage). stage_slots a.holdings.setting.geometry.slots st ≡ a.holdings.setting.geometry.slots) c.in-In.is a.room in
    let set = c.drop_failed.ensures.setting ∙ x.setting in
    record {
      same = x.kept refl ∙ tied ∙ sym set;
      room = x.own refl ∙ room ∙ sym (ap (λ (st : Setting). st.geometry.slots) set);
      suits = subst (λ (k : Holdings). work_suits k.space new) (sym same) (x.suits refl);
      renewals = refl;
    }
