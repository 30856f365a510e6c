-- The giving up of all extents, as work within a command:
-- their blocks in hand are given back, and their leases released.
use Rattle.std.specs.Prelude.{◌≡◌, ◌*◌, ◌<◌, ℕ, List, []}
use Rattle.plx_disk.specs.declared.ask.Ask.{Ask}
use Rattle.plx_geom.specs.Geometry.{Geometry, IsGeometry, extent_lease}
use Rattle.plx_rules.specs.Ends.{End}
use Rattle.plx_rules.specs.Holds.{Hold}
use Rattle.plx_rules.specs.InUse.{InUse}
use Rattle.plx_rules.specs.Process.{Process, Ends, bytes_out}
use Rattle.plx_rules.specs.Session.{Known}
use Rattle.plx_rules.specs.Settings.{Setting}
use Rattle.plx_rules.specs.Space.{retire_extents}
use Rattle.law_run.specs.CommandLogs.{Exchange, CommandLog}
use Rattle.law_run.specs.Holdings.{hold_by_log, hand_by_log, IsNotHeld}
use Rattle.law_run.specs.Machines.{HasCome, IsRightAsk, IsRightEnd, Keeps}
use Rattle.law_run.specs.OnHand.{IsOfOneExtent, MayBeginOnHand, ShowsOnHand}

-- what is asked until all extents are given up; then the command ends so
abbrev pub retire_work : Setting → Known → (uses : List InUse) → (holds : ℕ → Hold) →
    (hand : List ℕ) → (follows : End) → Process End
retire_work s known uses holds hand follows =
    retire_extents s known uses holds hand s.geometry.extents 0 (Ends follows)

-- how many of its asks are answered at most
abbrev pub retire_bound : Geometry → ℕ
retire_bound g = 3 * g.extents

-- all extents are given up: none of their leases is held,
-- no block is in hand, and the other leases are held as before the work
pub record AreGivenUp (s : Setting) (start log : CommandLog) : Type 0 where
  pub unheld : (extent : ℕ) → extent < s.geometry.extents →
      IsNotHeld (hold_by_log s log.before log.exchanges (extent_lease s.geometry extent))
  pub empty : hand_by_log s log.before log.exchanges ≡ []
  pub others : (lease : ℕ) → lease < extent_lease s.geometry 0 →
      hold_by_log s log.before log.exchanges lease
      ≡ hold_by_log s start.before start.exchanges lease

-- an ask of it that has come to this rest keeps the rules,
-- by each log that leads there, within any command in which it may begin
abbrev pub IsRetireAsk : (rest : Process End) → Ask → Type 0
IsRetireAsk rest ask = (s : Setting) (log : CommandLog) (known : Known) (uses : List InUse)
    (holds : ℕ → Hold) (hand : List ℕ) (follows : End) (own : List Exchange) →
    IsGeometry s.geometry → MayBeginOnHand s log holds hand →
    HasCome (retire_work s known uses holds hand follows) own rest →
    IsRightAsk s log (IsOfOneExtent s.geometry) (retire_bound s.geometry) own ask (bytes_out rest)

-- the same of its end
abbrev pub IsRetireEnd : (rest : Process End) → End → Type 0
IsRetireEnd rest end = (s : Setting) (log : CommandLog) (known : Known) (uses : List InUse)
    (holds : ℕ → Hold) (hand : List ℕ) (follows : End) (own : List Exchange) →
    IsGeometry s.geometry → MayBeginOnHand s log holds hand →
    HasCome (retire_work s known uses holds hand follows) own rest →
    IsRightEnd s log (retire_bound s.geometry)
    (ShowsOnHand s known uses follows (AreGivenUp s log)) own end

-- it keeps the rules, whatever its answers are: its asks are allowed and of one extent each,
-- at most three for each extent are answered, and its end has its cause
abbrev pub RetiresKeepRules : Type 0
RetiresKeepRules = (s : Setting) (log : CommandLog) (known : Known) (uses : List InUse)
    (holds : ℕ → Hold) (hand : List ℕ) (follows : End) →
    IsGeometry s.geometry → MayBeginOnHand s log holds hand →
    Keeps s log (IsOfOneExtent s.geometry) (retire_bound s.geometry)
    (ShowsOnHand s known uses follows (AreGivenUp s log))
    (retire_work s known uses holds hand follows)
