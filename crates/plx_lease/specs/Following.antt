-- How a command goes on after a renewal or a release of a lease.
use Rattle.std.specs.Prelude.{ℕ}
use Rattle.plx_geom.specs.Geometry.{lease_at}
use Rattle.plx_rules.specs.Process.{Process}
use Rattle.plx_rules.specs.Ends.{End, lost_process, write_failed}
use Rattle.plx_rules.specs.Session.{Known}
use Rattle.plx_rules.specs.Settings.{Setting}
use Rattle.law_run.specs.Releases.{ReleaseEnd, Released, ReleaseLost, ReleaseWriteFault}
use Rattle.law_run.specs.Renewals.{RenewalEnd, Renewed, RenewalLost, RenewalWriteFault}

-- after a renewal
abbrev pub after_renewal : Setting → Known → (lease : ℕ) → (rest : Process End) → RenewalEnd → Process End
after_renewal s known lease rest Renewed = rest
after_renewal s known lease rest (RenewalLost due reading) = lost_process s known due reading
after_renewal s known lease rest RenewalWriteFault = write_failed (lease_at lease) known

-- after a release
abbrev pub after_release : Setting → Known → (lease : ℕ) → (rest : Process End) → ReleaseEnd → Process End
after_release s known lease rest Released = rest
after_release s known lease rest (ReleaseLost due reading) = lost_process s known due reading
after_release s known lease rest ReleaseWriteFault = write_failed (lease_at lease) known
