use Rattle.law_lease.proofs.FirstDevice.{has-formatted}
use Rattle.law_lease.proofs.formatted_devices_exist.Goals as goal

pub returns : goal.returns
returns c = has-formatted
