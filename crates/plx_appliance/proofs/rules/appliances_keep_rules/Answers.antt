use Rattle.plx_appliance.proofs.RunLogs.{appliances-keep-rules}
use Rattle.plx_appliance.proofs.rules.appliances_keep_rules.Goals as goal

pub returns : goal.returns
returns c = appliances-keep-rules
