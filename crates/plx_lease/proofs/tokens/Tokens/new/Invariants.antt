use Rattle.std.proofs.Common.{◌≡◌, None, replicate}
use Rattle.plx_lease.proofs.tokens.Tokens.new.Given as goal

abbrev pub invariant-loop : goal.invariant-loop
invariant-loop l = record { free : l.slots.items ≡ replicate l.counter None }
