use Rattle.std.proofs.Common.{None}
use Rattle.plx_commands.specs.declared.event.Event.TheVariants as event
use Rattle.plx_world.specs.Running.{RunGoesOn}
use Rattle.plx_world.specs.Standing.{Steps}
use Rattle.plx_world.proofs.Going.{goes-issue, goes-miss, if-ok}
use Rattle.plx_world.proofs.world.World.issue_or_miss.Goals as goal

pub returns-then-time-guard-clause-ok : goal.returns-then-time-guard-clause-ok
returns-then-time-guard-clause-ok c =
    let old = c.args.self.now in
    let new = c.issue.new.self in
    let a = c.args.appliance in
    if-ok c.issue.result (Steps old new (event.Issue a)) (RunGoesOn a None old new) c.issue.ensures.ok
    (λ made steps.
    goes-issue old new a c.args.guard c.time-time.result made c.requires.writing c.requires.unissued c.time-time.ensures.time c.if-time-guard.true steps)

pub returns-clause-ok : goal.returns-clause-ok
returns-clause-ok c =
    let old = c.args.self.now in
    let new = c.miss.new.self in
    let a = c.args.appliance in
    let time = c.time-time.result in
    if-ok c.miss.result (Steps old new (event.Miss a time)) (RunGoesOn a None old new) c.miss.ensures.ok
    (λ made steps. goes-miss old new a c.args.guard time made c.requires.writing c.requires.unissued c.time-time.ensures.time c.if-time-guard.false steps)
