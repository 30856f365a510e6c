-- Each command that begins keeps the rules.
use Rattle.std.proofs.Common.{◌≤◌, List, arith}
use Rattle.plx_commands.specs.declared.command.Command.{Command}
use Rattle.plx_commands.specs.declared.command.Command.TheVariants.{Attach, Detach, Create, Delete, Read, Write, Flush, Reserve, Renew, Retire, Reclaim}
use Rattle.plx_rules.specs.Settings.{Setting}
use Rattle.plx_rules.specs.Boot.{asks, configuration, writes_out}
use Rattle.law_run.specs.Bounds.{bound, bound_of}
use Rattle.law_run.specs.CommandLogs.{Exchange, Finished, CommandLog, commands}
use Rattle.law_run.specs.Configurations.{ConfigurationsAgree}
use Rattle.law_run.specs.Rules.{IsSetting, RunsKeepRules}
use Rattle.law_run.proofs.Attaches.{attach-begins}
use Rattle.law_run.proofs.Detaching.{detach-begins}
use Rattle.law_run.proofs.Making.{create-begins, delete-begins}
use Rattle.law_run.proofs.Reading.{read-begins}
use Rattle.law_run.proofs.Renewing.{renew-begins}
use Rattle.law_run.proofs.Reserving.{reserve-begins}
use Rattle.law_run.proofs.Retiring.{retire-begins}
use Rattle.law_run.proofs.Runs as runs
use Rattle.law_run.proofs.Runs.{BeginsRight, RunsKeepBoth, runs-keep}
use Rattle.law_run.proofs.Writing.{write-begins}
use Rattle.law_run.specs.Senses.{IsLocal, IsAny}
use Rattle.law_run.proofs.Senses.{keeps-in}

pub begins-right : (s : Setting) → IsSetting s → BeginsRight s
begins-right s is before known (Attach slot) reading formed built older rests small =
    let r = attach-begins s is.boot before known slot reading rests in (r.0, (let b = r.1 in omega arith), r.2)
begins-right s is before known (Detach slot) reading formed built older rests small = (1, omega arith, detach-begins s before known slot reading rests)
begins-right s is before known (Create slot size label) reading formed built older rests small = (2, omega arith, create-begins s before known slot size label reading rests formed)
begins-right s is before known (Delete slot) reading formed built older rests small = (2, omega arith, delete-begins s before known slot reading rests)
begins-right s is before known (Read slot vblock) reading formed built older rests small = (1, omega arith, read-begins s before known slot vblock reading rests)
begins-right s is before known (Write slot vblock payload) reading formed built older rests small =
    (3, omega arith, write-begins s (let g = is.geometry in let low = g.slots_low in omega arith) before known slot vblock payload reading rests formed)
begins-right s is before known (Flush slot) reading formed built older rests small = absurd built
begins-right s is before known (Reserve count) reading formed built older rests small =
    let r = reserve-begins s is.geometry is.boot before known count reading older rests in (r.0, (let b = r.1 in omega arith), r.2)
begins-right s is before known Renew reading formed built older rests small =
    let r = renew-begins s before known reading rests small in (r.0, (let b = r.1 in omega arith), r.2)
begins-right s is before known Retire reading formed built older rests small =
    let r = retire-begins s is.geometry before known reading older rests in (r.0, (let b = r.1 in omega arith), r.2)
begins-right s is before known Reclaim reading formed built older rests small = absurd built

some-bound-of : (s : Setting) (before : List Finished) (command : Command) (exchanges : List Exchange) → 1 ≤ bound_of s before command exchanges
some-bound-of s before (Attach slot) exchanges = omega arith
some-bound-of s before (Detach slot) exchanges = omega arith
some-bound-of s before (Create slot size label) exchanges = omega arith
some-bound-of s before (Delete slot) exchanges = omega arith
some-bound-of s before (Read slot vblock) exchanges = omega arith
some-bound-of s before (Write slot vblock payload) exchanges = omega arith
some-bound-of s before (Flush slot) exchanges = omega arith
some-bound-of s before (Reserve count) exchanges = omega arith
some-bound-of s before Renew exchanges = omega arith
some-bound-of s before Retire exchanges = omega arith
some-bound-of s before Reclaim exchanges = omega arith

some-bound : (s : Setting) (log : CommandLog) → 1 ≤ bound s log
some-bound s log = some-bound-of s log.before log.command log.exchanges

-- in both senses
pub runs-keep-both : RunsKeepBoth
runs-keep-both = runs-keep begins-right some-bound

-- and so in the local one
pub runs-keep-rules : RunsKeepRules
runs-keep-rules s log setting run =
    keeps-in s IsAny IsLocal (λ sense is. tt) (commands s log) (asks (configuration s log).place) (writes_out (configuration s log).place) (runs-keep-both s log setting run)

pub configurations-agree : ConfigurationsAgree
configurations-agree = runs.configurations-agree begins-right
