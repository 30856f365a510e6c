-- A reply is the Ok of its command where nothing in the command's log refuses it.
use Rattle.std.specs.Prelude.{◌≡◌, ◌≤◌, ◌⊎◌, ℕ, List, [], None, true}
use Rattle.plx_base.specs.declared.lease.LeaseName.{LeaseName}
use Rattle.plx_base.specs.declared.lease.LeaseRecord.{LeaseRecord}
use Rattle.plx_base.specs.declared.numbers.BlockNo.{BlockNo}
use Rattle.plx_commands.specs.Replies.{is_own}
use Rattle.plx_commands.specs.declared.reply.Reply.{Reply}
use Rattle.plx_disk.specs.declared.ask.Ask.{Ask}
use Rattle.plx_disk.specs.declared.ask.Ask.TheVariants as ask
use Rattle.plx_disk.specs.declared.ask.Answer.TheVariants as answer
use Rattle.plx_gate.specs.Leases.{read_lease}
use Rattle.plx_geom.specs.Geometry.{extent_lease, lease_at, map_at}
use Rattle.plx_rules.specs.InUse.{InUse}
use Rattle.plx_rules.specs.Settings.{Setting}
use Rattle.plx_rules.specs.Space.{read_map}
use Rattle.law_run.specs.CommandLogs.{CommandLog, WasAnswered, LastAnswered}
use Rattle.law_run.specs.KnownBytes.{known_in}
use Rattle.law_run.specs.Outside.{IsOutside}
use Rattle.law_run.specs.Refusals.{Refuses}
use Rattle.law_run.specs.Replies.{IsLastReading, WasBusy, IsReplied}
use Rattle.law_run.specs.Senses.{IsLocal}
use Rattle.law_run.specs.Sessions.{names}
use Rattle.law_run.specs.Space.{IsFull, IsWornOut, OfTake}
use Rattle.law_run.specs.Uses.{IsInUse}

-- something in the log refuses the command: a fact; a fault;
-- a write that was missed; a reading past the end of a lease in use;
-- a busy lease; no space; no claim left; or bytes outside the format
pub data HasCause (s : Setting) (log : CommandLog) : Type 0 where
  fact : (place : ℕ) (refusal : Reply) → Refuses s log place refusal → HasCause s log
  failed : (ask : Ask) (bytes : List ℕ) → LastAnswered log ask bytes answer.Fault → HasCause s log
  missed : (ask : Ask) (bytes : List ℕ) (reading : ℕ) →
      LastAnswered log ask bytes (answer.Missed reading) → HasCause s log
  reached : (one : InUse) (reading : ℕ) → IsLastReading log.exchanges reading → IsInUse s log one →
      one.until ≤ reading → HasCause s log
  busy : (lease : LeaseName) (seen : LeaseRecord) → WasBusy s log lease seen → HasCause s log
  full : OfTake log (IsFull s log) → HasCause s log
  worn : (last : ℕ) → OfTake log (λ own count. IsWornOut s log own count last) → HasCause s log
  outside : (image : ℕ) (block : BlockNo) (bytes : List ℕ) → names log.command image ≡ true →
      WasAnswered log (ask.Read block) [] (answer.Bytes bytes) →
      IsOutside s.geometry (known_in s.geometry log image) image block.0 bytes → HasCause s log
  outside_map : (extent : ℕ) (bytes : List ℕ) →
      WasAnswered log (ask.Read (record { 0 = map_at s.geometry extent })) [] (answer.Bytes bytes) →
      read_map s.geometry.extent_blocks bytes ≡ None → HasCause s log
  outside_lease : (extent : ℕ) (bytes : List ℕ) →
      WasAnswered log (ask.Read (record { 0 = lease_at (extent_lease s.geometry extent) }))
      [] (answer.Bytes bytes) →
      read_lease bytes ≡ None → HasCause s log

-- a command that has its reply has a cause in its log, or the reply is its own Ok
abbrev pub OkWithoutCause : Type 0
OkWithoutCause = (s : Setting) (log : CommandLog) (reply : Reply) →
    IsReplied s IsLocal log reply → HasCause s log ⊎ (is_own log.command reply ≡ true)
