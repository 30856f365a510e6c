use Rattle.std.proofs.Common.{◌≡◌, ◌<◌, take}
use Rattle.std.specs.Option.{ForSome}
use Rattle.std.specs.Vec.{vec_len}
use Rattle.plx_base.specs.Blocks.{zeros}
use Rattle.plx_rules.specs.Session.{latest}
use Rattle.plx_session.specs.Shown.{writes_of}
use Rattle.plx_session.specs.PlacedWrites.{block_or_zeros}
use Rattle.plx_session.proofs.journal.Journal.last.Given as goal

abbrev pub invariant-loop-write : goal.invariant-loop-write
invariant-loop-write l =
    ForSome l.last (λ place. place < vec_len l.self.writes)
    × (latest zeros l.vblock (take l.write-index (writes_of l.self)) ≡ block_or_zeros l.self.bytes.items l.last)
