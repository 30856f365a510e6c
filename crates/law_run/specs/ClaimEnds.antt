-- Why a claim of a lease ends, as work within a command.
use Rattle.std.specs.Prelude.{◌≡◌, ◌+◌, ◌^◌, ◌<◌, ℕ, List, [], ◌∷◌, Some, None}
use Rattle.plx_base.specs.declared.lease.Claim.{Claim}
use Rattle.plx_base.specs.declared.lease.LeaseRecord.TheVariants as lease_is
use Rattle.plx_base.specs.declared.write_kind.WriteKind.TheVariants as kind
use Rattle.plx_disk.specs.declared.ask.Ask.{Ask}
use Rattle.plx_disk.specs.declared.ask.Ask.TheVariants as ask
use Rattle.plx_disk.specs.declared.ask.Answer.TheVariants as answer
use Rattle.plx_gate.specs.Leases.{lease_bytes, read_lease}
use Rattle.plx_geom.specs.Geometry.{lease_count, lease_at}
use Rattle.plx_rules.specs.Claims.{ClaimEnd, ClaimHeld, ClaimBusy, ClaimLost, ClaimReadFault}
use Rattle.plx_rules.specs.Claims.{ClaimWriteFault, ClaimDamaged, own_use, claim_process}
use Rattle.plx_rules.specs.Holds.{Nothing}
use Rattle.plx_rules.specs.InUse.{InUse, first_reached}
use Rattle.plx_rules.specs.Process.{Process, bytes_out}
use Rattle.plx_rules.specs.Settings.{Setting}
use Rattle.plx_rules.specs.Times.{window, term}
use Rattle.law_run.specs.AllowedAsks.{WentOn}
use Rattle.law_run.specs.Busy.{IsBusy}
use Rattle.law_run.specs.CommandLogs.{Exchange, CommandLog, WasAnswered, LastAnswered}
use Rattle.law_run.specs.Holdings.{hold_by_log, Holds, claims_in, claims_begun}
use Rattle.law_run.specs.Machines.{HasCome, IsRightAsk, IsRightEnd, Keeps, IsOfBlock}
use Rattle.law_run.specs.Replies.{IsLastReading}
use Rattle.law_run.specs.Rules.{IsSetting}

-- the leases in use along a claim: those beside it, and its own once it was written
pub data AreInUse (log : CommandLog) (others : List InUse) (lease : ℕ) : List InUse → Type 0 where
  beside : AreInUse log others lease others
  with_own : (claim : Claim) →
      WasAnswered log
      (ask.Write kind.Claim (record { 0 = lease_at lease }) (claim.sample + window))
      (lease_bytes (lease_is.Claimed claim (claim.sample + term))) answer.Done →
      AreInUse log others lease (own_use lease claim ∷ others)

-- a claim ends Lost: its write came too late for its guard,
-- or a reading has reached a lease in use, of several the one to be named
pub data IsClaimLost (log : CommandLog) (others : List InUse)
    (lease : ℕ) (due : InUse) (reading : ℕ) : Type 0 where
  missed : (bytes : List ℕ) →
      LastAnswered log (ask.Write kind.Claim (record { 0 = lease_at lease }) due.until)
      bytes (answer.Missed reading) →
      due.lease ≡ lease →
      IsClaimLost log others lease due reading
  reached : (uses : List InUse) → AreInUse log others lease uses →
      IsLastReading log.exchanges reading → first_reached uses reading ≡ Some due →
      IsClaimLost log others lease due reading

-- a claim ends Damaged: its lease was read as bytes that are no lease,
-- and the reading after that has reached no lease in use
pub record IsClaimDamaged (log : CommandLog) (others : List InUse) (lease : ℕ) : Type 0 where
  pub bytes : List ℕ
  pub read : WasAnswered log (ask.Read (record { 0 = lease_at lease })) [] (answer.Bytes bytes)
  pub outside : read_lease bytes ≡ None
  pub reading : ℕ
  pub last : LastAnswered log ask.Clock [] (answer.Reading reading)
  pub uses : List InUse
  pub used : AreInUse log others lease uses
  pub early : first_reached uses reading ≡ None

-- why a claim ends so: one line an end
abbrev pub ShowsClaim : Setting → (others : List InUse) →
    (lease : ℕ) → CommandLog → ClaimEnd → Type 0
ShowsClaim s others lease log (ClaimHeld claim until) = Holds s log lease claim until
ShowsClaim s others lease log (ClaimBusy seen) = IsBusy s log lease seen
ShowsClaim s others lease log (ClaimLost due reading) = IsClaimLost log others lease due reading
ShowsClaim s others lease log ClaimReadFault =
    LastAnswered log (ask.Read (record { 0 = lease_at lease })) [] answer.Fault
ShowsClaim s others lease log ClaimWriteFault =
    (guard : ℕ) × (bytes : List ℕ)
    × LastAnswered log (ask.Write kind.Claim (record { 0 = lease_at lease }) guard)
    bytes answer.Fault
ShowsClaim s others lease log ClaimDamaged = IsClaimDamaged log others lease

-- a claim may begin: nothing is held of its lease, the command has had its
-- first reading and goes on, and the number is that of claims begun before
pub record MayBeginClaim (s : Setting) (log : CommandLog) (lease number : ℕ) : Type 0 where
  pub within : lease < lease_count s.geometry
  pub nothing : hold_by_log s log.before log.exchanges lease ≡ Nothing
  pub first : Exchange
  pub others : List Exchange
  pub begun : log.exchanges ≡ first ∷ others
  pub went : WentOn log.exchanges
  pub counted : number ≡ claims_in s.geometry log.exchanges + claims_begun s.geometry log.before
  pub few : number < 2 ^ 40

-- how many asks of a claim are answered at most
abbrev pub claim_bound : ℕ
claim_bound = 6

-- an ask of a claim that has come to this rest keeps the rules,
-- by each log that leads there, within any command in which the claim may begin
abbrev pub IsClaimAsk : (rest : Process ClaimEnd) → Ask → Type 0
IsClaimAsk rest ask =
    (s : Setting) (log : CommandLog) (others : List InUse)
    (lease number : ℕ) (own : List Exchange) →
    IsSetting s → MayBeginClaim s log lease number →
    HasCome (claim_process s.boot others lease number) own rest →
    IsRightAsk s log (IsOfBlock (lease_at lease)) claim_bound own ask (bytes_out rest)

-- the same of its end
abbrev pub IsClaimEnd : (rest : Process ClaimEnd) → ClaimEnd → Type 0
IsClaimEnd rest end =
    (s : Setting) (log : CommandLog) (others : List InUse)
    (lease number : ℕ) (own : List Exchange) →
    IsSetting s → MayBeginClaim s log lease number →
    HasCome (claim_process s.boot others lease number) own rest →
    IsRightEnd s log claim_bound (ShowsClaim s others lease) own end

-- each claim keeps the rules, whatever its answers are:
-- its asks are allowed, at most six are answered, and its end has its cause
abbrev pub ClaimsKeepRules : Type 0
ClaimsKeepRules =
    (s : Setting) (log : CommandLog) (others : List InUse) (lease number : ℕ) →
    IsSetting s → MayBeginClaim s log lease number →
    Keeps s log (IsOfBlock (lease_at lease)) claim_bound
    (ShowsClaim s others lease) (claim_process s.boot others lease number)
