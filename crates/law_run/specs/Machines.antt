-- Work that is done within a command, such as a claim, and the rules that it keeps by itself.
use Rattle.std.specs.Prelude.{◌≡◌, ◌≤◌, ◌<◌, ℕ, List, [], ◌∷◌, ◌++◌, length, Some}
use Rattle.plx_disk.specs.declared.ask.Ask.{Ask}
use Rattle.plx_disk.specs.declared.ask.Ask.TheVariants as ask
use Rattle.plx_disk.specs.declared.ask.Answer.{Answer}
use Rattle.plx_rules.specs.Process.{Process, Ends, answered, standing, bytes_out}
use Rattle.plx_rules.specs.Boot.{Fits}
use Rattle.plx_rules.specs.Settings.{Setting}
use Rattle.law_run.specs.AllowedAsks.{MayAsk}
use Rattle.law_run.specs.CommandLogs.{Exchange, CommandLog, with_exchanges}
use Rattle.law_run.specs.Rules.{AllAllowed}

-- some work that began as `start` has come,
-- by exchanges of its own, the newest first, to this rest of it
pub data HasCome {E : Type 0} (start : Process E) : List Exchange → Process E → Type 0 where
  begins : HasCome start [] start
  goes_on : {own : List Exchange} {rest : Process E} (ask : Ask) (answer : Answer) →
      HasCome start own rest → standing rest ≡ Some ask → Fits ask answer →
      HasCome start ((record { ask = ask; bytes = bytes_out rest; answer = answer }) ∷ own)
      (answered rest answer)

-- an answer that fits moves on from one rest to another:
-- work that has come to the first has come, with this exchange, to the second
abbrev pub MovesOn : {E : Type 0} → (old : Process E) → Answer → (new : Process E) → Type 0
MovesOn old answer new =
    (start : Process _) (own : List Exchange) (ask : Ask) →
    HasCome start own old → standing old ≡ Some ask → Fits ask answer →
    HasCome start ((record { ask = ask; bytes = bytes_out old; answer = answer }) ∷ own) new

-- the log of a command with those of some work within it
abbrev pub with_work : CommandLog → (own : List Exchange) → CommandLog
with_work log own = with_exchanges log (own ++ log.exchanges)

-- an ask reads and writes this block alone
abbrev pub IsOfBlock : (block : ℕ) → Ask → Type 0
IsOfBlock block (ask.Read read) = read.0 ≡ block
IsOfBlock block (ask.Write kind written guard) = written.0 ≡ block
IsOfBlock block ask.Clock = Unit {0}
IsOfBlock block (ask.Until from) = Unit {0}

-- an ask of some work keeps the rules: it is allowed,
-- it is of the work's place, and it is one of so many at most
pub record IsRightAsk (s : Setting) (log : CommandLog) (Place : Ask → Type 0)
    (most : ℕ) (own : List Exchange) (ask : Ask) (bytes : List ℕ) : Type 0 where
  pub allowed : MayAsk s (with_work log own) ask bytes
  pub place : Place ask
  pub bounded : length own < most

-- some work kept the rules up to its end: all asks of the command were allowed,
-- if those before the work were; it had so many answers at most; and the end has its cause
pub record IsRightEnd {E : Type 0} (s : Setting) (log : CommandLog) (most : ℕ)
    (Shows : CommandLog → E → Type 0) (own : List Exchange) (end : E) : Type 0 where
  pub allowed : AllAllowed s log.before log.command log.exchanges →
      AllAllowed s log.before log.command (own ++ log.exchanges)
  pub bounded : length own ≤ most
  pub shown : Shows (with_work log own) end

-- some work on a place, begun after the exchanges of this log,
-- keeps the rules, however it is answered
pub record Keeps {E : Type 0} (s : Setting) (log : CommandLog) (Place : Ask → Type 0)
    (most : ℕ) (Shows : CommandLog → E → Type 0) (start : Process E) : Type 0 where
  pub asks : {own : List Exchange} {rest : Process E} → HasCome start own rest → (ask : Ask) →
      standing rest ≡ Some ask → IsRightAsk s log Place most own ask (bytes_out rest)
  pub ends : {own : List Exchange} {rest : Process E} → HasCome start own rest →
      (end : E) → rest ≡ Ends end → IsRightEnd s log most Shows own end
