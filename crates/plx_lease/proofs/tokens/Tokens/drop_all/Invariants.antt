use Rattle.std.proofs.Common.{◌≡◌, None, take, replicate}
use Rattle.plx_lease.proofs.tokens.Tokens.drop_all.Given as goal

abbrev pub invariant-loop-image : goal.invariant-loop-image
invariant-loop-image l = record { dropped : take l.image-index l.image-items ≡ replicate l.image-index None }
