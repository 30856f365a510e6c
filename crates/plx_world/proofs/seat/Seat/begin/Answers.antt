use Rattle.plx_world.proofs.Asking.{begun-logged, same-logged}
use Rattle.plx_world.proofs.seat.Seat.begin.Goals as goal

pub invariant_of-self : goal.invariant_of-self
invariant_of-self c = record { logged = same-logged c.args.self.now.appliance c.begin.new.self c.args.self.now.logged c.in_err-begin.ensures.err; newest = c.args.self.now.newest }

pub invariant_of-self-2 : goal.invariant_of-self-2
invariant_of-self-2 c = record { logged = begun-logged c.args.self.now.appliance c.begin.new.self c.in_ok-given.given c.args.self.now.logged c.in_ok-begin.ensures.ok; newest = λ number e. cc }
