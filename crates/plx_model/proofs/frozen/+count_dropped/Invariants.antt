use Rattle.std.proofs.Common.{length}
use Rattle.plx_model.proofs.frozen.+count_dropped.Given as goal

abbrev pub decreases-count_dropped : goal.decreases-count_dropped
decreases-count_dropped l = length l.frozen.now
