use Rattle.std.proofs.Common.{◌≡◌, ◌+◌, drop}
use Rattle.plx_rules.specs.Session.{first_gap}
use Rattle.plx_session.specs.Shown.{writes_of}
use Rattle.plx_session.proofs.journal.Journal.gap.Given as goal

abbrev pub invariant-loop-write : goal.invariant-loop-write
invariant-loop-write l =
    (l.before ≡ l.applied + l.write-index)
    × (first_gap l.applied (writes_of l.self) ≡ first_gap l.before (drop l.write-index (writes_of l.self)))
