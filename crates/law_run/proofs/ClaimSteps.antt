-- The exchanges of a claim: what is held of its lease after each, and how many claims began.
use Rattle.std.proofs.Common.{◌≡◌, ℕ, ◌+◌, ◌≤◌, ◌<◌, ◌^◌, List, [], ◌∷◌, true, false, Some, refl, ap, ◌∙◌, arith, Bool}
use Rattle.std.specs.Prelude.{if◌then◌else◌, nat_le, nat_lt, not}
use Rattle.std.specs.Str.{bytes_eq}
use Rattle.plx_base.specs.declared.lease.LeaseRecord.{LeaseRecord}
use Rattle.plx_base.specs.declared.write_kind.WriteKind.TheVariants as kind
use Rattle.plx_commands.proofs.Places.{at-same}
use Rattle.plx_disk.specs.declared.ask.Ask.TheVariants as ask
use Rattle.plx_disk.specs.declared.ask.Answer.{Answer}
use Rattle.plx_disk.specs.declared.ask.Answer.TheVariants as answer
use Rattle.plx_gate.specs.Leases.{lease_bytes, read_lease, IsClaimed}
use Rattle.plx_gate.proofs.Leases.{lease-back}
use Rattle.plx_geom.specs.Geometry.{Geometry, lease_count, lease_at}
use Rattle.plx_rules.specs.Claims.{claim_of, own_record}
use Rattle.plx_rules.specs.Holds.{Hold, Nothing, Seen, Wrote, Waited, Held, hold_after_claim, hold_after_reread, seen_by, hold_after_read, hold_after_reading}
use Rattle.plx_rules.specs.Settings.{Setting}
use Rattle.plx_rules.specs.Times.{window, wait, term, is_expired}
use Rattle.law_run.specs.CommandLogs.{Exchange, Finished}
use Rattle.law_run.specs.Holdings.{holds_along, holds_after, hold_by_log, is_lease_read, claims_in, is_map_found, last_found}
use Rattle.law_run.specs.Sessions.{is_attached}
use Rattle.law_run.proofs.Holding.{claims-more}
use Rattle.law_run.proofs.Meets.{exchange}
use Rattle.law_run.proofs.Right.{clock}
use Rattle.law_run.proofs.Runs.{HasFirst, along-more}
use Rattle.plx_base.proofs.Tests.{nat_le-true, nat_lt-true, nat_lt-false, and-no}

-- the read of a lease, its claim, and the wait
abbrev pub read_of_lease : (lease : ℕ) → Answer → Exchange
read_of_lease lease x = exchange (ask.Read (record { 0 = lease_at lease })) [] x

abbrev pub claim_write : (boot lease number sample : ℕ) → Answer → Exchange
claim_write boot lease number sample x = exchange (ask.Write kind.Claim (record { 0 = lease_at lease }) (sample + window)) (lease_bytes (own_record (claim_of boot number sample))) x

abbrev pub claim_wait : (sample reading : ℕ) → Exchange
claim_wait sample reading = exchange (ask.Until (sample + wait)) [] (answer.Reading reading)

-- the exchanges of a command once its claim has read its lease, was written, has waited, and has read it again
abbrev pub after_sight : (first : List Exchange) → (lease sample : ℕ) → (bytes : List ℕ) → List Exchange
after_sight first lease sample bytes = read_of_lease lease (answer.Bytes bytes) ∷ clock sample ∷ first

abbrev pub after_claiming : (first : List Exchange) → (boot lease number sample : ℕ) → (bytes : List ℕ) → List Exchange
after_claiming first boot lease number sample bytes = claim_write boot lease number sample answer.Done ∷ after_sight first lease sample bytes

abbrev pub after_waiting : (first : List Exchange) → (boot lease number sample : ℕ) → (bytes : List ℕ) → (reading : ℕ) → List Exchange
after_waiting first boot lease number sample bytes reading = claim_wait sample reading ∷ after_claiming first boot lease number sample bytes

abbrev pub after_rereading : (first : List Exchange) → (boot lease number sample : ℕ) → (bytes : List ℕ) → (reading : ℕ) → (again : List ℕ) → List Exchange
after_rereading first boot lease number sample bytes reading again =
    read_of_lease lease (answer.Bytes again) ∷ after_waiting first boot lease number sample bytes reading

-- ---- how many claims began

-- the clock and the read of a lease directly after it begin one claim
pub counts-sight : (g : Geometry) (first : List Exchange) (lease sample : ℕ) (x : Answer) → HasFirst first → lease < lease_count g →
    claims_in g (read_of_lease lease x ∷ clock sample ∷ first) ≡ 1 + claims_in g first
counts-sight g first lease sample x has within =
    rw (nat_le-true 1 (lease_at lease) (omega arith), nat_le-true (lease_at lease) (lease_count g) (omega (arith, within))) (by-map (is_map_found g (last_found first)))
  where
    by-map : (map : Bool) → (if not map then 1 else 0) + ((if map then 1 else 0) + claims_in g first) ≡ 1 + claims_in g first
    by-map true = omega arith
    by-map false = omega arith

pub counts-claiming : (g : Geometry) (first : List Exchange) (boot lease number sample : ℕ) (bytes : List ℕ) (x : Answer) → HasFirst first → lease < lease_count g →
    claims_in g (claim_write boot lease number sample x ∷ after_sight first lease sample bytes) ≡ 1 + claims_in g first
counts-claiming g first boot lease number sample bytes x has within =
    claims-more g (after_sight first lease sample bytes) (claim_write boot lease number sample x) refl ∙ counts-sight g first lease sample (answer.Bytes bytes) has within

pub counts-waiting : (g : Geometry) (first : List Exchange) (boot lease number sample : ℕ) (bytes : List ℕ) (reading : ℕ) → HasFirst first → lease < lease_count g →
    claims_in g (after_waiting first boot lease number sample bytes reading) ≡ 1 + claims_in g first
counts-waiting g first boot lease number sample bytes reading has within =
    claims-more g (after_claiming first boot lease number sample bytes) (claim_wait sample reading) refl ∙ counts-claiming g first boot lease number sample bytes answer.Done has within

-- the reread begins none
pub counts-rereading : (g : Geometry) (first : List Exchange) (boot lease number sample : ℕ) (bytes : List ℕ) (reading : ℕ) (x : Answer) → HasFirst first → lease < lease_count g →
    claims_in g (read_of_lease lease x ∷ after_waiting first boot lease number sample bytes reading) ≡ 1 + claims_in g first
counts-rereading g first boot lease number sample bytes reading x has within =
    (let e = and-no (is_lease_read g (read_of_lease lease x).ask) false refl in rw e (omega arith)) ∙ counts-waiting g first boot lease number sample bytes reading has within

-- ---- what is held of the lease

module _ (s : Setting) (boot_small : s.boot < 2 ^ 128) (before : List Finished) (first : List Exchange) (has : HasFirst first) (lease number : ℕ) (few : number < 2 ^ 40)
    (sample : ℕ) (small : sample < 2 ^ 48) (bytes : List ℕ) where
  -- the claim is within its limits
  pub own-limits : IsClaimed (claim_of s.boot number sample) (sample + term)
  own-limits = record { boot = boot_small; number = few; sample = small; low = omega arith; high = omega (arith, small) }

  -- the claim's own record is read back
  pub own-back : read_lease (lease_bytes (own_record (claim_of s.boot number sample))) ≡ Some (own_record (claim_of s.boot number sample))
  own-back = lease-back (own_record (claim_of s.boot number sample)) own-limits

  pub held-sight : hold_by_log s before first lease ≡ Nothing → (seen : LeaseRecord) → read_lease bytes ≡ Some seen → is_expired seen sample ≡ true →
      hold_by_log s before (after_sight first lease sample bytes) lease ≡ Seen sample
  held-sight nothing seen sees expired =
      let H = holds_along s.geometry (is_attached before) (holds_after s.geometry before) (clock sample ∷ first) in
      let step : hold_by_log s before (clock sample ∷ first) lease ≡ Nothing =
      ap (λ (h : ℕ → Hold). h (lease_at lease)) (along-more s.geometry (is_attached before) (holds_after s.geometry before) (clock sample) first has) ∙ ap (hold_after_reading sample) nothing in
      at-same H (lease_at lease) (hold_after_read (Some sample) bytes (H (lease_at lease)))
      ∙ (ap (hold_after_read (Some sample) bytes) step ∙ (ap (λ o. seen_by o sample) sees ∙ ap (λ t. if t then Seen sample else Nothing) expired))

  pub held-claiming : hold_by_log s before (after_claiming first s.boot lease number sample bytes) lease ≡ Wrote (claim_of s.boot number sample) (sample + term)
  held-claiming =
      let H = holds_along s.geometry (is_attached before) (holds_after s.geometry before) (after_sight first lease sample bytes) in
      at-same H (lease_at lease) (hold_after_claim (read_lease (lease_bytes (own_record (claim_of s.boot number sample))))) ∙ ap hold_after_claim own-back

  step-waiting : (reading : ℕ) → hold_by_log s before (after_waiting first s.boot lease number sample bytes reading) lease ≡ hold_after_reading reading (Wrote (claim_of s.boot number sample) (sample + term))
  step-waiting reading = ap (hold_after_reading reading) held-claiming

  pub held-waiting : (reading : ℕ) → sample + wait ≤ reading → reading < sample + term →
      hold_by_log s before (after_waiting first s.boot lease number sample bytes reading) lease ≡ Waited (claim_of s.boot number sample) (sample + term)
  held-waiting reading past early = step-waiting reading ∙ rw (nat_le-true (sample + wait) reading past, nat_lt-true reading (sample + term) early) refl

  pub held-late : (reading : ℕ) → sample + term ≤ reading →
      hold_by_log s before (after_waiting first s.boot lease number sample bytes reading) lease ≡ Wrote (claim_of s.boot number sample) (sample + term)
  held-late reading late = step-waiting reading ∙ rw (and-no (nat_le (sample + wait) reading) (nat_lt reading (sample + term)) (nat_lt-false reading (sample + term) late)) refl

  pub held-rereading : (reading : ℕ) (again : List ℕ) → sample + wait ≤ reading → reading < sample + term →
      hold_by_log s before (after_rereading first s.boot lease number sample bytes reading again) lease
      ≡ hold_after_reread (bytes_eq again (lease_bytes (own_record (claim_of s.boot number sample)))) (Held (claim_of s.boot number sample) (sample + term))
  held-rereading reading again past early =
      let H = holds_along s.geometry (is_attached before) (holds_after s.geometry before) (after_waiting first s.boot lease number sample bytes reading) in
      at-same H (lease_at lease) (hold_after_read (Some reading) again (H (lease_at lease))) ∙ ap (hold_after_read (Some reading) again) (held-waiting reading past early)
