-- An interrupted read takes nothing.
use Rattle.std.proofs.Common.{◌≡◌}
use Rattle.std.specs.Io.KnownBytes.{Keeps}
use Rattle.plx_port.proofs.input.read_once.Given as goal

-- what was tried so far took nothing
abbrev pub invariant-loop : goal.invariant-loop
invariant-loop g l = record {
  kept : Keeps (g.B.Read.remaining l.initial.reader) (g.B.Read.remaining l.reader);
  same : l.into ≡ l.initial.into;
}
