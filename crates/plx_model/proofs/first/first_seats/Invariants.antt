use Rattle.std.proofs.Common.{◌≡◌, map, replicate, None, false}
use Rattle.plx_model.specs.Shown.{seat_sessions, running_of}
use Rattle.plx_model.proofs.first.first_seats.Given as goal

abbrev pub invariant-loop : goal.invariant-loop
invariant-loop l = record {
  sessions : map seat_sessions l.seats.items ≡ replicate l.counter (λ slot. false);
  running : map running_of l.seats.items ≡ replicate l.counter None;
}
