use Rattle.plx_world.proofs.Asking.{within-logged}
use Rattle.plx_world.proofs.seat.Seat.asked.Goals as goal

pub returns-clause-within : goal.returns-clause-within
returns-clause-within c = within-logged c.args.self.now.appliance _ c.ask.result c.args.self.now.logged c.ask.ensures.within
