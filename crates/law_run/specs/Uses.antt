-- The leases that a command uses, and those in use at a reading, by its log.
use Rattle.std.specs.Prelude.{◌≡◌, ◌<◌, ◌+◌, ℕ, List, [], ◌∷◌, None, true}
use Rattle.plx_base.specs.declared.lease.Claim.{Claim}
use Rattle.plx_base.specs.declared.lease.LeaseRecord.TheVariants as lease_is
use Rattle.plx_base.specs.declared.write_kind.WriteKind.TheVariants as kind
use Rattle.plx_disk.specs.declared.ask.Ask.TheVariants as ask
use Rattle.plx_disk.specs.declared.ask.Answer.TheVariants as answer
use Rattle.plx_gate.specs.Leases.{lease_bytes, read_lease}
use Rattle.plx_geom.specs.Geometry.{lease_count, image_lease, extent_lease, lease_at, map_at}
use Rattle.plx_rules.specs.Holds.{Nothing, Waited}
use Rattle.plx_rules.specs.InUse.{InUse, IsUse}
use Rattle.plx_rules.specs.Settings.{Setting}
use Rattle.plx_rules.specs.Space.{read_map}
use Rattle.plx_rules.specs.Times.{window, term}
use Rattle.law_run.specs.CommandLogs.{Exchange, CommandLog, WasAnswered}
use Rattle.law_run.specs.Holdings.{hold_by_log, Holds, IsUntil}
use Rattle.law_run.specs.Sessions.{names}

-- a lease is one of a command: that of an image which it names, or one whose claim it wrote
pub data IsOfCommand (s : Setting) (log : CommandLog) (lease : ℕ) : Type 0 where
  named : (image : ℕ) → image < s.geometry.images → names log.command image ≡ true →
      lease ≡ image_lease image → IsOfCommand s log lease
  claimed : (claim : Claim) → lease < lease_count s.geometry →
      WasAnswered log (ask.Write kind.Claim (record { 0 = lease_at lease }) (claim.sample + window))
      (lease_bytes (lease_is.Claimed claim (claim.sample + term))) answer.Done →
      IsOfCommand s log lease

-- a command uses a lease until that moment: it is one of the command, and its claim goes on, or it
-- is held
pub record IsUsed (s : Setting) (log : CommandLog) (one : InUse) : Type 0 where
  pub of : IsOfCommand s log one.lease
  pub until : IsUntil one.until (hold_by_log s log.before log.exchanges one.lease)

-- a list has exactly the leases that a command uses
pub record AreUsed (s : Setting) (log : CommandLog) (uses : List InUse) : Type 0 where
  pub sound : (one : InUse) → IsUse one uses → IsUsed s log one
  pub complete : (one : InUse) → IsUsed s log one → IsUse one uses

-- a lease is in use at the last reading of a log: the command uses it; or its claim has waited, its
-- reread showed bytes that are no lease, and the clock was asked after that; or it is held, its
-- extent's map was read as bytes that are no map, and the clock was asked after that
pub data IsInUse (s : Setting) (log : CommandLog) (one : InUse) : Type 0 where
  used : IsUsed s log one → IsInUse s log one
  unread : (claim : Claim) (bytes : List ℕ) (reading : ℕ) (older : List Exchange) →
      one.lease < lease_count s.geometry →
      log.exchanges ≡ (record { ask = ask.Clock; bytes = []; answer = answer.Reading reading })
      ∷ (record {
        ask = ask.Read (record { 0 = lease_at one.lease });
        bytes = [];
        answer = answer.Bytes bytes;
      }) ∷ older →
      hold_by_log s log.before older one.lease ≡ Waited claim one.until → read_lease bytes ≡ None →
      hold_by_log s log.before log.exchanges one.lease ≡ Nothing → IsInUse s log one
  rested : (extent : ℕ) (claim : Claim) (bytes : List ℕ) (reading : ℕ) (older : List Exchange) →
      extent < s.geometry.extents →
      one.lease ≡ extent_lease s.geometry extent →
      log.exchanges ≡ (record { ask = ask.Clock; bytes = []; answer = answer.Reading reading })
      ∷ (record {
        ask = ask.Read (record { 0 = map_at s.geometry extent });
        bytes = [];
        answer = answer.Bytes bytes;
      }) ∷ older →
      read_map s.geometry.extent_blocks bytes ≡ None → Holds s log one.lease claim one.until →
      IsInUse s log one
