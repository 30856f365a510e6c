use Rattle.std.proofs.Common.{◌≡◌, ◌<◌, ℕ, true, Some}
use Rattle.std.specs.Prelude.{slice_get}
use Rattle.plx_disk.proofs.write.least_missing.Given as goal

-- all sectors before this one have landed
abbrev pub invariant-loop-sector : goal.invariant-loop-sector
invariant-loop-sector l = (k : ℕ) → k < l.sector → slice_get l.landed k ≡ Some true
