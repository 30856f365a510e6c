-- What each run keeps, beside the order of its asks.
use Rattle.std.specs.Prelude.{◌≡◌, ◌^◌, ◌≤◌, ◌<◌, ℕ, List, [], ◌∷◌, length, Option, Some}
use Rattle.plx_commands.specs.declared.command.Command.{Command}
use Rattle.plx_disk.specs.declared.ask.Ask.{Ask}
use Rattle.plx_geom.specs.Geometry.{IsGeometry}
use Rattle.plx_rules.specs.Boot.{BootEntry, configuration, asks, writes_out, IsRun}
use Rattle.plx_rules.specs.Settings.{Setting}
use Rattle.law_run.specs.AllowedAsks.{MayAsk}
use Rattle.law_run.specs.Bounds.{bound}
use Rattle.law_run.specs.Causes.{MayFollow, AllFollow}
use Rattle.law_run.specs.CommandLogs.{Exchange, Finished, CommandLog, Commands, Between, Within}
use Rattle.law_run.specs.CommandLogs.{commands, log_of}
use Rattle.law_run.specs.Replies.{IsReplied}
use Rattle.law_run.specs.Senses.{Sense, IsLocal, IsAny}

-- each ask of a command was allowed when it was asked
abbrev pub AllAllowed : Setting → List Finished → Command → List Exchange → Type 0
AllAllowed s before command [] = Unit {0}
AllAllowed s before command (exchange ∷ older) =
    MayAsk s (record { before = before; command = command; exchanges = older })
    exchange.ask exchange.bytes
    × AllAllowed s before command older

-- a command that has its reply kept the rules, in these senses
pub record IsKept (s : Setting) (senses : Sense → Type 0) (finished : Finished)
    (before : List Finished) : Type 0 where
  pub allowed : AllAllowed s before finished.command finished.exchanges
  pub at_once : AllFollow s before finished.command finished.exchanges
  pub replied : IsReplied s senses (log_of finished before) finished.reply
  pub bounded : length finished.exchanges ≤ bound s (log_of finished before)

-- all commands that have their replies did
abbrev pub AllKept : Setting → (Sense → Type 0) → List Finished → Type 0
AllKept s senses [] = Unit {0}
AllKept s senses (finished ∷ before) = IsKept s senses finished before × AllKept s senses before

-- a command that runs keeps them: so do the commands before it; the ask that stands is allowed
-- and within the bound, and nothing that was met ends the command
pub record IsKeptSoFar (s : Setting) (senses : Sense → Type 0) (log : CommandLog)
    (standing : Option Ask) (bytes : List ℕ) : Type 0 where
  pub older : AllKept s senses log.before
  pub allowed : AllAllowed s log.before log.command log.exchanges
  pub at_once : AllFollow s log.before log.command log.exchanges
  pub stands : (ask : Ask) → standing ≡ Some ask → MayAsk s log ask bytes
  pub follows : (ask : Ask) → standing ≡ Some ask → MayFollow s log ask
  pub bounded : (ask : Ask) → standing ≡ Some ask → length log.exchanges < bound s log

-- a boot log keeps the rules, in these senses
abbrev pub KeepsRulesIn : Setting → (Sense → Type 0) → Commands → (standing : Option Ask) →
    (bytes : List ℕ) → Type 0
KeepsRulesIn s senses (Between finished) standing bytes = AllKept s senses finished
KeepsRulesIn s senses (Within log) standing bytes = IsKeptSoFar s senses log standing bytes

-- in the local sense, which speaks of no tree
abbrev pub KeepsRules : Setting → Commands → (standing : Option Ask) → (bytes : List ℕ) → Type 0
KeepsRules s commands standing bytes = KeepsRulesIn s IsLocal commands standing bytes

-- in both senses, through trees too
abbrev pub KeepsFullRules : Setting → Commands → (standing : Option Ask) → (bytes : List ℕ) → Type 0
KeepsFullRules s commands standing bytes = KeepsRulesIn s IsAny commands standing bytes

-- a boot is given a geometry within its limits, and a number of 128 bits
pub record IsSetting (s : Setting) : Type 0 where
  pub geometry : IsGeometry s.geometry
  pub boot : s.boot < 2 ^ 128

-- each log that is a run keeps the rules in the local sense, whatever its answers were
abbrev pub RunsKeepRules : Type 0
RunsKeepRules = (s : Setting) (log : List BootEntry) → IsSetting s → IsRun s log →
    KeepsRules s (commands s log) (asks (configuration s log).place)
    (writes_out (configuration s log).place)
