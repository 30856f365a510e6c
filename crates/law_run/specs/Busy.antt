-- Which leases were busy in a command.
use Rattle.std.specs.Prelude.{◌≡◌, ◌≢◌, ◌<◌, ◌⊎◌, ℕ, List, [], ◌∷◌, Some, false}
use Rattle.plx_base.specs.declared.lease.Claim.{Claim}
use Rattle.plx_base.specs.declared.lease.LeaseRecord.{LeaseRecord}
use Rattle.plx_base.specs.declared.lease.LeaseRecord.TheVariants as lease_is
use Rattle.plx_disk.specs.declared.ask.Ask.TheVariants as ask
use Rattle.plx_disk.specs.declared.ask.Answer.TheVariants as answer
use Rattle.plx_gate.specs.Leases.{read_lease}
use Rattle.plx_geom.specs.Geometry.{lease_count, lease_at}
use Rattle.plx_rules.specs.Holds.{Waited}
use Rattle.plx_rules.specs.Settings.{Setting}
use Rattle.plx_rules.specs.Times.{is_expired}
use Rattle.law_run.specs.AllowedAsks.{HasSampled}
use Rattle.law_run.specs.CommandLogs.{Exchange, CommandLog, NewestIs, without_newest}
use Rattle.law_run.specs.Holdings.{hold_by_log}

-- a lease is busy: a claim of this command read its record, which isn't expired for the
-- claim's sample; or its reread, after the wait, showed a record that isn't the claim's own
pub data IsBusy (s : Setting) (log : CommandLog) (lease : ℕ) (seen : LeaseRecord) : Type 0 where
  unexpired : (sample : ℕ) (bytes : List ℕ) (older : List Exchange) →
      HasSampled log lease sample bytes older → read_lease bytes ≡ Some seen →
      is_expired seen sample ≡ false → IsBusy s log lease seen
  taken : (claim : Claim) (until : ℕ) (bytes : List ℕ) (older : List Exchange) →
      NewestIs log.exchanges (ask.Read (record { 0 = lease_at lease }))
      [] (answer.Bytes bytes) older →
      hold_by_log s log.before older lease ≡ Waited claim until →
      read_lease bytes ≡ Some seen → seen ≢ lease_is.Claimed claim until → IsBusy s log lease seen

-- no claim of a lease ended Busy in the newest exchanges of a command, which are these
abbrev pub NoneBusy : Setting → CommandLog → List Exchange → Type 0
NoneBusy s log [] = Unit {0}
NoneBusy s log (exchange ∷ older) =
    ((lease : ℕ) (seen : LeaseRecord) → lease < lease_count s.geometry → ¬ IsBusy s log lease seen)
    × NoneBusy s (without_newest log) older

-- the first claim that ended Busy in the newest exchanges of a command,
-- which are these, is that of this lease, with that record
abbrev pub FirstBusy : Setting → CommandLog → (lease : ℕ) → LeaseRecord → List Exchange → Type 0
FirstBusy s log lease seen [] = ⊥
FirstBusy s log lease seen (exchange ∷ older) =
    (IsBusy s log lease seen × NoneBusy s (without_newest log) older)
    ⊎ FirstBusy s (without_newest log) lease seen older
