-- The log of a boot by its commands: what each of them was asked and answered, and its reply.
use Rattle.std.specs.Prelude.{◌≡◌, ◌⊎◌, ℕ, List, [], ◌∷◌, Option, Some, None}
use Rattle.plx_commands.specs.declared.command.Command.{Command}
use Rattle.plx_commands.specs.declared.reply.Reply.{Reply}
use Rattle.plx_disk.specs.declared.ask.Ask.{Ask}
use Rattle.plx_disk.specs.declared.ask.Answer.{Answer}
use Rattle.plx_rules.specs.Boot.{BootEntry, Began, Asked, configuration, replies}
use Rattle.plx_rules.specs.Holds.{sample_of}
use Rattle.plx_rules.specs.Settings.{Setting}

-- an answered ask, with the bytes that it was to write
pub record Exchange : Type 0 where
  pub ask : Ask
  pub bytes : List ℕ
  pub answer : Answer

-- a command that has its reply; of its exchanges the newest stands first
pub record Finished : Type 0 where
  pub command : Command
  pub exchanges : List Exchange
  pub reply : Reply

-- the log of one command: the commands of its boot before it,
-- the newest first, the command, and its exchanges so far
pub record CommandLog : Type 0 where
  pub before : List Finished
  pub command : Command
  pub exchanges : List Exchange

-- a boot log by its commands: all of them have their replies, or the last one runs
pub data Commands : Type 0 where
  Between : List Finished → Commands
  Within : CommandLog → Commands

-- a command begins where none runs
abbrev pub commands_after_start : Command → Commands → Commands
commands_after_start command (Between before) =
    Within (record { before = before; command = command; exchanges = [] })
commands_after_start command (Within log) = Within log

-- the log with one more exchange
abbrev pub with_exchange : Exchange → CommandLog → CommandLog
with_exchange exchange log = record log { exchanges = exchange ∷ log.exchanges }

-- one more exchange of the command that runs, and the reply to which it leads
abbrev pub commands_after_exchange : Exchange → Option Reply → Commands → Commands
commands_after_exchange exchange reply (Between before) = Between before
commands_after_exchange exchange None (Within log) = Within (with_exchange exchange log)
commands_after_exchange exchange (Some reply) (Within log) =
    Between
    ((record { command = log.command; exchanges = exchange ∷ log.exchanges; reply = reply })
    ∷ log.before)

-- the commands of a boot log, whose newest entry stands first
abbrev pub commands : Setting → List BootEntry → Commands
commands s [] = Between []
commands s (Began command ∷ older) = commands_after_start command (commands s older)
commands s (Asked ask bytes answer ∷ older) =
    commands_after_exchange (record { ask = ask; bytes = bytes; answer = answer })
    (replies s answer (configuration s older)) (commands s older)

-- the log of a command that has its reply
abbrev pub log_of : Finished → List Finished → CommandLog
log_of finished before = record {
  before = before;
  command = finished.command;
  exchanges = finished.exchanges;
}

-- the log with these exchanges
abbrev pub with_exchanges : CommandLog → List Exchange → CommandLog
with_exchanges log done = record log { exchanges = done }

-- this exchange is among those
abbrev pub IsIn : Exchange → List Exchange → Type 0
IsIn exchange [] = ⊥
IsIn exchange (other ∷ others) = (exchange ≡ other) ⊎ IsIn exchange others

-- an ask was answered so in these exchanges
abbrev pub WasAnsweredIn : List Exchange → Ask → List ℕ → Answer → Type 0
WasAnsweredIn exchanges ask bytes answer =
    IsIn (record { ask = ask; bytes = bytes; answer = answer }) exchanges

-- an ask of the command was answered so
abbrev pub WasAnswered : CommandLog → Ask → List ℕ → Answer → Type 0
WasAnswered log ask bytes answer = WasAnsweredIn log.exchanges ask bytes answer

-- the exchanges before the newest one
abbrev pub older_than : List Exchange → List Exchange
older_than [] = []
older_than (exchange ∷ older) = older

-- the log before its newest exchange
abbrev pub without_newest : CommandLog → CommandLog
without_newest log = with_exchanges log (older_than log.exchanges)

-- the newest exchange is this one, after those
abbrev pub NewestIs : List Exchange → Ask → List ℕ → Answer → (older : List Exchange) → Type 0
NewestIs exchanges ask bytes answer older =
    exchanges ≡ (record { ask = ask; bytes = bytes; answer = answer }) ∷ older

-- the last answer in these exchanges was this one
abbrev pub LastAnsweredIn : List Exchange → Ask → List ℕ → Answer → Type 0
LastAnsweredIn exchanges ask bytes answer =
    (older : List Exchange) × NewestIs exchanges ask bytes answer older

-- the last answer of the command was this one
abbrev pub LastAnswered : CommandLog → Ask → List ℕ → Answer → Type 0
LastAnswered log ask bytes answer = LastAnsweredIn log.exchanges ask bytes answer

-- the reading of an exchange that has none before it
abbrev pub earliest : (before newer : Option ℕ) → Option ℕ
earliest None newer = newer
earliest (Some reading) newer = Some reading

-- the first reading of the clock in a command
abbrev pub first_reading : List Exchange → Option ℕ
first_reading [] = None
first_reading (exchange ∷ older) = earliest (first_reading older) (sample_of exchange.answer)
