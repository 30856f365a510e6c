use Rattle.std.proofs.Common.{[]}
use Rattle.plx_world.proofs.seat.Seat.restart.Goals as goal

pub invariant_of-self : goal.invariant_of-self
invariant_of-self c = let first = c.in_ok-fresh.ensures in record { logged = rw c.replace.ensures.after (∣ ([], first.log) ∣₁); newest = λ number e. cc }
