-- The log of each boot keeps the rules.
use Rattle.std.proofs.Common.{ℕ, ◌<◌, arith}
use Rattle.plx_rules.specs.World.{World, Reached, setting_of}
use Rattle.law_lease.proofs.LeaseSteps.{reached-leased}
use Rattle.law_lease.proofs.Runs.{boots-run}
use Rattle.law_run.specs.Rules.{IsSetting}
use Rattle.law_run.specs.Worlds.{BootsKeepRules}
use Rattle.law_run.proofs.Begun.{runs-keep-both}

-- what each boot is given is within the limits
pub given-within : (w : World) → Reached w → (appliance : ℕ) → appliance < w.appliances → IsSetting (setting_of w appliance)
given-within w reached appliance below =
    let leased = reached-leased reached in
    let few = leased.few in
    let boots = (leased.seated appliance below).boots in
    record { geometry = leased.geometry; boot = omega (arith, below, few, boots) }

pub boots-keep-rules : BootsKeepRules
boots-keep-rules w reached appliance below =
    runs-keep-both (setting_of w appliance) (w.seats appliance).log (given-within w reached appliance below) (boots-run w reached appliance below)
