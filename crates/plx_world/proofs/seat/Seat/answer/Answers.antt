use Rattle.plx_world.proofs.Asking.{answered-logged}
use Rattle.plx_world.proofs.seat.Seat.answer.Goals as goal

pub invariant_of-self : goal.invariant_of-self
invariant_of-self c = record {
  logged = answered-logged c.args.self.now.appliance c.answer.new.self c.ask-ask.result c.args.answer.now c.args.self.now.logged c.ask-ask.ensures.ask c.answer.ensures.log
      (λ log ask bytes stands standing no. (c.answer.ensures.unfit log ask bytes stands standing no).0);
  newest = λ number e. cc;
}

pub returns-clause-taken : goal.returns-clause-taken
returns-clause-taken c = record { log = c.answer.ensures.log; reply = c.answer.ensures.reply }
