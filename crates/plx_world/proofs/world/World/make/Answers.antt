use Rattle.std.proofs.Common.{refl}
use Rattle.plx_commands.specs.declared.event.Event.TheVariants as event
use Rattle.plx_world.proofs.Made.{err-plain, err-run, err-upto, leads-as, ok-plain, ok-run, ok-upto}
use Rattle.plx_world.proofs.world.World.make.Goals as goal

pub returns-in-Tick-clause-ok : goal.returns-in-Tick-clause-ok
returns-in-Tick-clause-ok c = leads-as c.requires c.args.self.now c.tick.new.self c.args.event.now (event.Tick c.in-Tick.by) c.tick.result c.in-Tick.is refl c.tick.ensures

pub returns-in-Land-clause-ok : goal.returns-in-Land-clause-ok
returns-in-Land-clause-ok c =
    leads-as c.requires c.args.self.now c.land.new.self c.args.event.now (event.Land c.in-Land.appliance c.in-Land.back c.in-Land.sector) c.land.result c.in-Land.is refl c.land.ensures

pub returns-in-Start-clause-ok : goal.returns-in-Start-clause-ok
returns-in-Start-clause-ok c = ok-plain c.requires c.args.self.now c.start.new.self c.args.event.now (event.Start c.in-Start.appliance c.in-Start.command) c.start.result c.in-Start.is refl c.start.ensures.ok

pub returns-in-Start-clause-err : goal.returns-in-Start-clause-err
returns-in-Start-clause-err c = err-plain c.requires c.args.self.now c.start.new.self c.args.event.now c.start.result c.start.ensures.err

pub returns-in-Read-clause-ok : goal.returns-in-Read-clause-ok
returns-in-Read-clause-ok c = ok-plain c.requires c.args.self.now c.read.new.self c.args.event.now (event.Read c.in-Read.appliance) c.read.result c.in-Read.is refl c.read.ensures.ok

pub returns-in-Read-clause-err : goal.returns-in-Read-clause-err
returns-in-Read-clause-err c = err-plain c.requires c.args.self.now c.read.new.self c.args.event.now c.read.result c.read.ensures.err

pub returns-in-Issue-clause-ok : goal.returns-in-Issue-clause-ok
returns-in-Issue-clause-ok c = ok-plain c.requires c.args.self.now c.issue.new.self c.args.event.now (event.Issue c.in-Issue.appliance) c.issue.result c.in-Issue.is refl c.issue.ensures.ok

pub returns-in-Issue-clause-err : goal.returns-in-Issue-clause-err
returns-in-Issue-clause-err c = err-plain c.requires c.args.self.now c.issue.new.self c.args.event.now c.issue.result c.issue.ensures.err

pub returns-in-Done-clause-ok : goal.returns-in-Done-clause-ok
returns-in-Done-clause-ok c = ok-plain c.requires c.args.self.now c.done.new.self c.args.event.now (event.Done c.in-Done.appliance) c.done.result c.in-Done.is refl c.done.ensures.ok

pub returns-in-Done-clause-err : goal.returns-in-Done-clause-err
returns-in-Done-clause-err c = err-plain c.requires c.args.self.now c.done.new.self c.args.event.now c.done.result c.done.ensures.err

pub returns-in-Fault-clause-ok : goal.returns-in-Fault-clause-ok
returns-in-Fault-clause-ok c = ok-plain c.requires c.args.self.now c.fault.new.self c.args.event.now (event.Fault c.in-Fault.appliance) c.fault.result c.in-Fault.is refl c.fault.ensures.ok

pub returns-in-Fault-clause-err : goal.returns-in-Fault-clause-err
returns-in-Fault-clause-err c = err-plain c.requires c.args.self.now c.fault.new.self c.args.event.now c.fault.result c.fault.ensures.err

pub returns-in-Miss-clause-ok : goal.returns-in-Miss-clause-ok
returns-in-Miss-clause-ok c = ok-plain c.requires c.args.self.now c.miss.new.self c.args.event.now (event.Miss c.in-Miss.appliance c.in-Miss.reading) c.miss.result c.in-Miss.is refl c.miss.ensures.ok

pub returns-in-Miss-clause-err : goal.returns-in-Miss-clause-err
returns-in-Miss-clause-err c = err-plain c.requires c.args.self.now c.miss.new.self c.args.event.now c.miss.result c.miss.ensures.err

pub returns-in-Reading-clause-ok : goal.returns-in-Reading-clause-ok
returns-in-Reading-clause-ok c = ok-plain c.requires c.args.self.now c.reading.new.self c.args.event.now (event.Reading c.in-Reading.appliance c.in-Reading.reading) c.reading.result c.in-Reading.is refl c.reading.ensures.ok

pub returns-in-Reading-clause-err : goal.returns-in-Reading-clause-err
returns-in-Reading-clause-err c = err-plain c.requires c.args.self.now c.reading.new.self c.args.event.now c.reading.result c.reading.ensures.err

pub returns-in-Crash-clause-ok : goal.returns-in-Crash-clause-ok
returns-in-Crash-clause-ok c = ok-plain c.requires c.args.self.now c.crash.new.self c.args.event.now (event.Crash c.in-Crash.appliance) c.crash.result c.in-Crash.is refl c.crash.ensures.ok

pub returns-in-Crash-clause-err : goal.returns-in-Crash-clause-err
returns-in-Crash-clause-err c = err-plain c.requires c.args.self.now c.crash.new.self c.args.event.now c.crash.result c.crash.ensures.err

pub returns-in-Run-clause-ok : goal.returns-in-Run-clause-ok
returns-in-Run-clause-ok c = ok-run c.requires c.args.self.now c.run.new.self c.args.event.now c.in-Run.appliance c.run.result c.in-Run.is c.run.ensures.ok

pub returns-in-Run-clause-err : goal.returns-in-Run-clause-err
returns-in-Run-clause-err c = err-run c.requires c.args.self.now c.run.new.self c.args.event.now c.in-Run.appliance c.run.result c.in-Run.is c.run.ensures.err

pub returns-in-Upto-clause-ok : goal.returns-in-Upto-clause-ok
returns-in-Upto-clause-ok c =
    ok-upto c.requires c.args.self.now c.run-in-Upto.new.self c.args.event.now c.in-Upto.appliance c.in-Upto.stop c.run-in-Upto.result c.in-Upto.is c.run-in-Upto.ensures.ok

pub returns-in-Upto-clause-err : goal.returns-in-Upto-clause-err
returns-in-Upto-clause-err c =
    err-upto c.requires c.args.self.now c.run-in-Upto.new.self c.args.event.now c.in-Upto.appliance c.in-Upto.stop c.run-in-Upto.result c.in-Upto.is c.run-in-Upto.ensures.err
