use Rattle.std.proofs.Common.{ap}
use Rattle.std.proofs.Math.Path.{fun_ext}
use Rattle.plx_appliance.specs.Tokens.{image_hold}
use Rattle.plx_appliance.proofs.lease.Leases.forget.Goals as goal

pub returns-clause-none : goal.returns-clause-none
returns-clause-none c = fun_ext (λ k. ap image_hold (c.clear_places.ensures.none k))
