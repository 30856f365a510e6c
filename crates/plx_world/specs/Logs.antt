-- An appliance has come to where it stands by some log.
use Rattle.std.specs.Prelude.{List}
use Rattle.plx_appliance.specs.Appliance.{StandsFor}
use Rattle.plx_appliance.specs.declared.appliance.Appliance.{Appliance}
use Rattle.plx_rules.specs.Boot.{BootEntry}

-- some log leads to where the appliance stands
abbrev pub HasLog : Appliance → Type 0
HasLog appliance = ∥ ((log : List BootEntry) × StandsFor appliance log) ∥₁
