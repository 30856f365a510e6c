-- The renewal of a lease, as work within a command: what it asks, and the rules that it keeps.
use Rattle.std.specs.Prelude.{◌≡◌, ◌+◌, ◌^◌, ◌<◌, ℕ, List, Some}
use Rattle.plx_base.specs.declared.lease.Claim.{Claim}
use Rattle.plx_base.specs.declared.lease.LeaseRecord.TheVariants.{Claimed}
use Rattle.plx_base.specs.declared.write_kind.WriteKind.TheVariants as kind
use Rattle.plx_disk.specs.declared.ask.Ask.{Ask}
use Rattle.plx_disk.specs.declared.ask.Ask.TheVariants as ask
use Rattle.plx_disk.specs.declared.ask.Answer.{Answer}
use Rattle.plx_disk.specs.declared.ask.Answer.TheVariants as answer
use Rattle.plx_gate.specs.Leases.{lease_bytes}
use Rattle.plx_geom.specs.Geometry.{lease_count, lease_at}
use Rattle.plx_rules.specs.Commands.{later_of}
use Rattle.plx_rules.specs.InUse.{InUse}
use Rattle.plx_rules.specs.Process.{Process, Ends, WriteThen, bytes_out}
use Rattle.plx_rules.specs.Settings.{Setting}
use Rattle.plx_rules.specs.Times.{term}
use Rattle.law_run.specs.AllowedAsks.{WentOn}
use Rattle.law_run.specs.CommandLogs.{Exchange, CommandLog, LastAnswered, first_reading}
use Rattle.law_run.specs.Holdings.{Holds}
use Rattle.law_run.specs.Machines.{HasCome, IsRightAsk, IsRightEnd, Keeps, IsOfBlock}

-- how a renewal ends: the lease is held up to the later moment;
-- its write was missed; or its write failed
pub data RenewalEnd : Type 0 where
  Renewed : RenewalEnd
  RenewalLost : InUse → (reading : ℕ) → RenewalEnd
  RenewalWriteFault : RenewalEnd

-- the renewal of a lease that is held by this claim
-- up to `until`: from then on it is held up to `later`
abbrev pub renewal_process : (lease : ℕ) → Claim → (until later : ℕ) → Process RenewalEnd
renewal_process lease claim until later =
    WriteThen kind.Renew (lease_at lease) (lease_bytes (Claimed claim later))
    until (Ends Renewed) (Ends RenewalWriteFault)
    (λ reading. Ends (RenewalLost (record { lease = lease; until = until }) reading))

-- the moment up to which a lease is held once a command with this first reading has renewed it
abbrev pub renewal_until : (until reading : ℕ) → ℕ
renewal_until until reading = later_of until (reading + term)

-- a renewal may begin: the claim holds the lease up to `until`,
-- and the command has had its first reading and goes on
pub record MayBeginRenewal (s : Setting) (log : CommandLog)
    (lease : ℕ) (claim : Claim) (until reading : ℕ) : Type 0 where
  pub within : lease < lease_count s.geometry
  pub held : Holds s log lease claim until
  pub first : first_reading log.exchanges ≡ Some reading
  pub timely : reading < 2 ^ 48
  pub went : WentOn log.exchanges

-- the renewal's write was answered so, and no other ask since
abbrev pub RenewalAnswered : CommandLog → (lease until : ℕ) → Answer → Type 0
RenewalAnswered log lease until answer =
    (bytes : List ℕ)
    × LastAnswered log (ask.Write kind.Renew (record { 0 = lease_at lease }) until) bytes answer

-- why a renewal ends so: one line an end
abbrev pub ShowsRenewal : Setting → (lease : ℕ) → Claim →
    (until reading : ℕ) → CommandLog → RenewalEnd → Type 0
ShowsRenewal s lease claim until reading log Renewed =
    RenewalAnswered log lease until answer.Done
    × Holds s log lease claim (renewal_until until reading)
ShowsRenewal s lease claim until reading log (RenewalLost due past) =
    RenewalAnswered log lease until (answer.Missed past)
    × (due ≡ record { lease = lease; until = until })
ShowsRenewal s lease claim until reading log RenewalWriteFault =
    RenewalAnswered log lease until answer.Fault

-- an ask of a renewal that has come to this rest keeps the rules,
-- by each log that leads there, within any command in which the renewal may begin
abbrev pub IsRenewalAsk : (rest : Process RenewalEnd) → Ask → Type 0
IsRenewalAsk rest ask =
    (s : Setting) (log : CommandLog) (lease : ℕ)
    (claim : Claim) (until reading : ℕ) (own : List Exchange) →
    MayBeginRenewal s log lease claim until reading →
    HasCome (renewal_process lease claim until (renewal_until until reading)) own rest →
    IsRightAsk s log (IsOfBlock (lease_at lease)) 1 own ask (bytes_out rest)

-- the same of its end
abbrev pub IsRenewalEnd : (rest : Process RenewalEnd) → RenewalEnd → Type 0
IsRenewalEnd rest end =
    (s : Setting) (log : CommandLog) (lease : ℕ)
    (claim : Claim) (until reading : ℕ) (own : List Exchange) →
    MayBeginRenewal s log lease claim until reading →
    HasCome (renewal_process lease claim until (renewal_until until reading)) own rest →
    IsRightEnd s log 1 (ShowsRenewal s lease claim until reading) own end

-- each renewal keeps the rules, whatever its answer is:
-- its write is allowed, it is the one ask, and its end has its cause
abbrev pub RenewalsKeepRules : Type 0
RenewalsKeepRules =
    (s : Setting) (log : CommandLog) (lease : ℕ) (claim : Claim) (until reading : ℕ) →
    MayBeginRenewal s log lease claim until reading →
    Keeps s log (IsOfBlock (lease_at lease)) 1 (ShowsRenewal s lease claim until reading)
    (renewal_process lease claim until (renewal_until until reading))
