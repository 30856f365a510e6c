-- The rules in each world that events lead to.
use Rattle.std.specs.Prelude.{◌<◌, ℕ}
use Rattle.plx_rules.specs.Boot.{asks, writes_out}
use Rattle.plx_rules.specs.World.{World, Reached, setting_of, stands}
use Rattle.law_run.specs.CommandLogs.{commands}
use Rattle.law_run.specs.Rules.{KeepsFullRules}

-- the log of an appliance's boot keeps the rules, in both senses
abbrev pub BootKeepsRules : World → (appliance : ℕ) → Type 0
BootKeepsRules w appliance =
    KeepsFullRules (setting_of w appliance)
    (commands (setting_of w appliance) (w.seats appliance).log)
    (asks (stands w appliance).place) (writes_out (stands w appliance).place)

-- the log of each appliance's boot does
abbrev pub AllKeepRules : World → Type 0
AllKeepRules w = (appliance : ℕ) → appliance < w.appliances → BootKeepsRules w appliance

-- they do in every world that events lead to
abbrev pub BootsKeepRules : Type 0
BootsKeepRules = (w : World) → Reached w → AllKeepRules w
