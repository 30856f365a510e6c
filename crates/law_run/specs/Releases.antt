-- The release of a lease, as work within a command: what it asks, and the rules that it keeps.
use Rattle.std.specs.Prelude.{◌≡◌, ◌<◌, ℕ, List, ◌∷◌}
use Rattle.plx_base.specs.declared.lease.Claim.{Claim}
use Rattle.plx_base.specs.declared.lease.LeaseRecord.TheVariants.{Free}
use Rattle.plx_base.specs.declared.write_kind.WriteKind.TheVariants as kind
use Rattle.plx_disk.specs.declared.ask.Ask.{Ask}
use Rattle.plx_disk.specs.declared.ask.Ask.TheVariants as ask
use Rattle.plx_disk.specs.declared.ask.Answer.{Answer}
use Rattle.plx_disk.specs.declared.ask.Answer.TheVariants as answer
use Rattle.plx_gate.specs.Leases.{lease_bytes}
use Rattle.plx_geom.specs.Geometry.{lease_count, lease_at}
use Rattle.plx_rules.specs.Holds.{Nothing}
use Rattle.plx_rules.specs.InUse.{InUse}
use Rattle.plx_rules.specs.Process.{Process, Ends, WriteThen, bytes_out}
use Rattle.plx_rules.specs.Settings.{Setting}
use Rattle.law_run.specs.AllowedAsks.{WentOn}
use Rattle.law_run.specs.CommandLogs.{Exchange, CommandLog, LastAnswered}
use Rattle.law_run.specs.Holdings.{Holds, hold_by_log}
use Rattle.law_run.specs.Machines.{HasCome, IsRightAsk, IsRightEnd, Keeps, IsOfBlock}

-- how a release ends: the lease is free; its write was missed; or its write failed
pub data ReleaseEnd : Type 0 where
  Released : ReleaseEnd
  ReleaseLost : InUse → (reading : ℕ) → ReleaseEnd
  ReleaseWriteFault : ReleaseEnd

-- the release of a lease that is held up to `until`
abbrev pub release_process : (lease until : ℕ) → Process ReleaseEnd
release_process lease until =
    WriteThen kind.Release (lease_at lease) (lease_bytes Free)
    until (Ends Released) (Ends ReleaseWriteFault)
    (λ reading. Ends (ReleaseLost (record { lease = lease; until = until }) reading))

-- a release may begin: the lease is held up to `until`,
-- and the command has had its first reading and goes on
pub record MayBeginRelease (s : Setting) (log : CommandLog) (lease until : ℕ) : Type 0 where
  pub within : lease < lease_count s.geometry
  pub claim : Claim
  pub held : Holds s log lease claim until
  pub first : Exchange
  pub others : List Exchange
  pub begun : log.exchanges ≡ first ∷ others
  pub went : WentOn log.exchanges

-- the release's write was answered so, and no other ask since
abbrev pub ReleaseAnswered : CommandLog → (lease until : ℕ) → Answer → Type 0
ReleaseAnswered log lease until answer =
    (bytes : List ℕ)
    × LastAnswered log (ask.Write kind.Release (record { 0 = lease_at lease }) until) bytes answer

-- why a release ends so: one line an end
abbrev pub ShowsRelease : Setting → (lease until : ℕ) → CommandLog → ReleaseEnd → Type 0
ShowsRelease s lease until log Released =
    ReleaseAnswered log lease until answer.Done
    × (hold_by_log s log.before log.exchanges lease ≡ Nothing)
ShowsRelease s lease until log (ReleaseLost due past) =
    ReleaseAnswered log lease until (answer.Missed past)
    × (due ≡ record { lease = lease; until = until })
ShowsRelease s lease until log ReleaseWriteFault = ReleaseAnswered log lease until answer.Fault

-- an ask of a release that has come to this rest keeps the rules,
-- by each log that leads there, within any command in which the release may begin
abbrev pub IsReleaseAsk : (rest : Process ReleaseEnd) → Ask → Type 0
IsReleaseAsk rest ask =
    (s : Setting) (log : CommandLog) (lease until : ℕ) (own : List Exchange) →
    MayBeginRelease s log lease until →
    HasCome (release_process lease until) own rest →
    IsRightAsk s log (IsOfBlock (lease_at lease)) 1 own ask (bytes_out rest)

-- the same of its end
abbrev pub IsReleaseEnd : (rest : Process ReleaseEnd) → ReleaseEnd → Type 0
IsReleaseEnd rest end =
    (s : Setting) (log : CommandLog) (lease until : ℕ) (own : List Exchange) →
    MayBeginRelease s log lease until →
    HasCome (release_process lease until) own rest →
    IsRightEnd s log 1 (ShowsRelease s lease until) own end

-- each release keeps the rules, whatever its answer is:
-- its write is allowed, it is the one ask, and its end has its cause
abbrev pub ReleasesKeepRules : Type 0
ReleasesKeepRules =
    (s : Setting) (log : CommandLog) (lease until : ℕ) → MayBeginRelease s log lease until →
    Keeps s log (IsOfBlock (lease_at lease)) 1
    (ShowsRelease s lease until) (release_process lease until)
