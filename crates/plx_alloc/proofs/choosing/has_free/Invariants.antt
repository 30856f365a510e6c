use Rattle.std.proofs.Common.{◌≡◌, ◌+◌, drop}
use Rattle.plx_rules.specs.Space.{free_from}
use Rattle.plx_alloc.specs.Tables.{has_any, numbers}
use Rattle.plx_alloc.proofs.choosing.has_free.Given as goal

abbrev pub invariant-loop-bit : goal.invariant-loop-bit
invariant-loop-bit l =
    has_any (free_from (numbers l.hand) l.map.0 l.bits) ≡ has_any (free_from (numbers l.hand) (l.map.0 + l.bit) (drop l.bit l.bits))
