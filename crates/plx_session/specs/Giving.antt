-- What a boot is given.
use Rattle.plx_rules.specs.Settings.{Setting as Given}
use Rattle.plx_session.specs.declared.setting.Setting.{Setting}

-- what a boot is given
abbrev pub rules_setting : Setting → Given
rules_setting setting = record { geometry = setting.geometry; appliance = setting.appliance.0; boot = setting.boot.0 }
