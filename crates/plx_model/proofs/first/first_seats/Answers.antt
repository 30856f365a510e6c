use Rattle.std.proofs.Common.{◌≡◌, ◌∙◌, None, false, ap, arith, replicate}
use Rattle.plx_model.specs.Shown.{running_of, seat_sessions}
use Rattle.plx_model.proofs.Tables.{same-more}
use Rattle.plx_model.proofs.first.first_seats.Goals as goal

pub loop-preserved : goal.loop-preserved
loop-preserved c = record {
  sessions = same-more seat_sessions c.loop.seats.items c.new.result c.loop.counter (λ slot. false)
      c.push.new.self.items c.in_ok-push.ensures.items c.loop.invariant.sessions c.new.ensures.sessions;
  running = same-more running_of c.loop.seats.items c.new.result c.loop.counter None
      c.push.new.self.items c.in_ok-push.ensures.items c.loop.invariant.running c.new.ensures.running;
}

pub returns-clause-sessions : goal.returns-clause-sessions
returns-clause-sessions c =
    let all : c.loop.counter ≡ c.args.appliances = omega arith in
    c.loop.invariant.sessions ∙ ap (λ n. replicate n (λ slot. false)) all

pub returns-clause-running : goal.returns-clause-running
returns-clause-running c =
    let all : c.loop.counter ≡ c.args.appliances = omega arith in
    c.loop.invariant.running ∙ ap (λ n. replicate n None) all
