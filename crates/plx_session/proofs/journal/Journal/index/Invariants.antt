use Rattle.std.proofs.Common.{◌≡◌}
use Rattle.plx_rules.specs.Journaled.{Journaled}
use Rattle.plx_rules.specs.Session.{with_write_by_number}
use Rattle.plx_session.specs.Shown.{writes_of}
use Rattle.plx_session.proofs.Numbers.{from}
use Rattle.plx_session.proofs.journal.Journal.index.Given as goal

abbrev pub invariant-loop-index : goal.invariant-loop-index
invariant-loop-index l = (w : Journaled) → w.number ≡ l.number → with_write_by_number w (writes_of l.self) ≡ from w (writes_of l.self) l.index
