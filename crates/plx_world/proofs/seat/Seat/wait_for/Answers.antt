use Rattle.plx_world.proofs.Numbered.{newest-push}
use Rattle.plx_world.proofs.seat.Seat.wait_for.Goals as goal

pub invariant_of-self : goal.invariant_of-self
invariant_of-self c = record {
  logged = c.args.self.now.logged;
  newest = newest-push c.args.self.now.issued.items c.push.new.self.items c.args.number c.in-Ok.ensures.items;
}
