use Rattle.std.proofs.Common.{◌≡◌, drop}
use Rattle.plx_commands.specs.Replies.{is_in}
use Rattle.plx_alloc.specs.Tables.{numbers}
use Rattle.plx_alloc.proofs.choosing.is_among.Given as goal

abbrev pub invariant-loop-other : goal.invariant-loop-other
invariant-loop-other l = is_in l.block.0 (numbers l.blocks) ≡ is_in l.block.0 (numbers (drop l.other-index l.blocks))
