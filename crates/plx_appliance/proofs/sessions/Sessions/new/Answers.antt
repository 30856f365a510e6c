use Rattle.std.proofs.Common.{ap}
use Rattle.std.proofs.Math.Path.{fun_ext}
use Rattle.plx_session.specs.Shown.{known_session}
use Rattle.plx_appliance.proofs.sessions.Sessions.new.Goals as goal

pub returns-clause-known : goal.returns-clause-known
returns-clause-known c = fun_ext (λ k. ap known_session (c.in_ok-images.ensures.none k))
