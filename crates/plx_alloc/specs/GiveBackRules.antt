-- The giving back of all blocks in hand, as work within a command: the rules that it keeps.
use Rattle.std.specs.Prelude.{◌≡◌, ◌*◌, ◌<◌, ◌++◌, ℕ, List, true}
use Rattle.plx_commands.specs.Replies.{is_in}
use Rattle.plx_disk.specs.declared.ask.Ask.{Ask}
use Rattle.plx_geom.specs.Geometry.{Geometry, IsGeometry, lease_count}
use Rattle.plx_rules.specs.Ends.{End}
use Rattle.plx_rules.specs.Holds.{Hold}
use Rattle.plx_rules.specs.InUse.{InUse}
use Rattle.plx_rules.specs.Process.{Process, Ends, bytes_out}
use Rattle.plx_rules.specs.Session.{Known}
use Rattle.plx_rules.specs.Settings.{Setting}
use Rattle.law_run.specs.CommandLogs.{Exchange, CommandLog}
use Rattle.law_run.specs.Holdings.{hold_by_log, hand_by_log}
use Rattle.law_run.specs.Machines.{HasCome, IsRightAsk, IsRightEnd, Keeps}
use Rattle.law_run.specs.OnHand.{IsOfOneMap, MayBeginOnHand, ShowsOnHand, WasClear}
use Rattle.plx_alloc.specs.Gives.{give_extents}

-- what is asked until all blocks in hand are given back; then the command ends so
abbrev pub give_back_work : Setting → Known → (uses : List InUse) → (holds : ℕ → Hold) →
    (hand : List ℕ) → (follows : End) → Process End
give_back_work s known uses holds hand follows =
    give_extents s known uses holds hand s.geometry.extents 0 (Ends follows)

-- how many of its asks are answered at most
abbrev pub give_back_bound : Geometry → ℕ
give_back_bound g = 2 * g.extents

-- the blocks in hand are given back: of those that were in hand only such are left as the work itself has read with a clear bit, and all leases are held as before
pub record IsGivenBack (s : Setting) (start log : CommandLog) : Type 0 where
  pub own : List Exchange
  pub since : log.exchanges ≡ own ++ start.exchanges
  pub left : (block : ℕ) → is_in block (hand_by_log s log.before log.exchanges) ≡ true → WasClear s.geometry own block
  pub fewer : (block : ℕ) → is_in block (hand_by_log s log.before log.exchanges) ≡ true → is_in block (hand_by_log s start.before start.exchanges) ≡ true
  pub held : (lease : ℕ) → lease < lease_count s.geometry →
      hold_by_log s log.before log.exchanges lease ≡ hold_by_log s start.before start.exchanges lease

-- an ask of it that has come to this rest keeps the rules, by each log that leads there, within any command in which it may begin
abbrev pub IsGiveBackAsk : (rest : Process End) → Ask → Type 0
IsGiveBackAsk rest ask = (s : Setting) (log : CommandLog) (known : Known) (uses : List InUse)
    (holds : ℕ → Hold) (hand : List ℕ) (follows : End) (own : List Exchange) →
    IsGeometry s.geometry → MayBeginOnHand s log holds hand →
    HasCome (give_back_work s known uses holds hand follows) own rest →
    IsRightAsk s log (IsOfOneMap s.geometry) (give_back_bound s.geometry) own ask (bytes_out rest)

-- the same of its end
abbrev pub IsGiveBackEnd : (rest : Process End) → End → Type 0
IsGiveBackEnd rest end = (s : Setting) (log : CommandLog) (known : Known) (uses : List InUse)
    (holds : ℕ → Hold) (hand : List ℕ) (follows : End) (own : List Exchange) →
    IsGeometry s.geometry → MayBeginOnHand s log holds hand →
    HasCome (give_back_work s known uses holds hand follows) own rest →
    IsRightEnd s log (give_back_bound s.geometry)
    (ShowsOnHand s known uses follows (IsGivenBack s log)) own end

-- it keeps the rules, whatever its answers are: its asks are allowed and of one map each, at most two for each extent are answered, and its end has its cause
abbrev pub GiveBacksKeepRules : Type 0
GiveBacksKeepRules = (s : Setting) (log : CommandLog) (known : Known) (uses : List InUse)
    (holds : ℕ → Hold) (hand : List ℕ) (follows : End) →
    IsGeometry s.geometry → MayBeginOnHand s log holds hand →
    Keeps s log (IsOfOneMap s.geometry) (give_back_bound s.geometry)
    (ShowsOnHand s known uses follows (IsGivenBack s log))
    (give_back_work s known uses holds hand follows)
