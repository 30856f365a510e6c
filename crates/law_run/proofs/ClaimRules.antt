-- Claims keep the rules.
use Rattle.std.proofs.Common.{◌≡◌, ◌≢◌, ℕ, suc, ◌+◌, ◌≤◌, ◌<◌, ◌^◌, List, ◌∷◌, drop, Bool, true, false, Option, Some, None, refl, ap, sym, subst, ◌∙◌, inl, inr}
use Rattle.std.specs.Str.{bytes_eq}
use Rattle.std.proofs.lemmas.Slice.Eq.{bytes_eq-Decides}
use Rattle.law_lease.proofs.LawfulSpace.{before-first-end}
use Rattle.plx_base.specs.declared.lease.LeaseRecord.{LeaseRecord}
use Rattle.plx_disk.specs.declared.ask.Ask.{Ask}
use Rattle.plx_disk.specs.declared.ask.Answer.TheVariants as answer
use Rattle.plx_gate.specs.Leases.{lease_bytes, read_lease}
use Rattle.plx_gate.proofs.Leases.{lease-only}
use Rattle.plx_geom.specs.Geometry.{lease_at}
use Rattle.plx_rules.specs.Process.{Process, Ends, standing}
use Rattle.plx_rules.specs.Claims.{ClaimEnd, ClaimLost, ClaimDamaged, claim_of, own_record, own_use, claim_in_time, claim_damaged, reread_by, reread_process, written_process, if_expired, seen_process, claim_process}
use Rattle.plx_rules.specs.Hands.{is_held}
use Rattle.plx_rules.specs.Holds.{Held, hold_after_reread}
use Rattle.plx_rules.specs.InUse.{InUse, first_reached, unless_reached}
use Rattle.plx_rules.specs.Settings.{Setting}
use Rattle.plx_rules.specs.Times.{window, wait, term, is_expired}
use Rattle.law_run.specs.AllowedAsks.{WentOn, claim_of_lease}
use Rattle.law_run.specs.Busy.{unexpired, taken}
use Rattle.law_run.specs.ClaimEnds.{AreInUse, beside, with_own, missed, reached, ShowsClaim, claim_bound, MayBeginClaim, IsClaimAsk, IsClaimEnd, ClaimsKeepRules}
use Rattle.law_run.specs.CommandLogs.{Exchange, CommandLog, IsIn, with_exchanges}
use Rattle.law_run.specs.Machines.{IsOfBlock}
use Rattle.law_run.specs.Replies.{of_clock, of_wait}
use Rattle.law_run.proofs.ClaimSteps.{read_of_lease, after_sight, after_claiming, after_waiting, after_rereading, held-sight, held-claiming, held-waiting, held-rereading, own-limits}
use Rattle.law_run.proofs.Machines.{MeetsWork, meets-keeps}
use Rattle.law_run.proofs.Right.{clock}
use Rattle.law_run.proofs.Runs.{HasFirst}
use Rattle.law_run.proofs.Spelled.{lease-rest}
use Rattle.plx_base.proofs.Tests.{clash}

-- the rest by the leases that a reading has reached
by-reached : (P : Process ClaimEnd → Type 0) (uses : List InUse) (reading : ℕ) (rest : Process ClaimEnd) → ((due : InUse) → first_reached uses reading ≡ Some due → P (Ends (ClaimLost due reading))) →
    (first_reached uses reading ≡ None → P rest) → P (claim_in_time uses reading rest)
by-reached P uses reading rest late early = go (first_reached uses reading) refl
  where
    go : (found : Option InUse) → first_reached uses reading ≡ found → P (unless_reached found (λ due. Ends (ClaimLost due reading)) rest)
    go None is = early is
    go (Some due) is = late due is

pub bytes-other : (a b : List ℕ) → bytes_eq a b ≡ false → a ≢ b
bytes-other a b differ same = clash (bytes_eq a b) ((bytes_eq-Decides a b).1 same) differ

module _ (s : Setting) (boot_small : s.boot < 2 ^ 128) (log : CommandLog) (others : List InUse) (lease number : ℕ) (may : MayBeginClaim s log lease number) (has : HasFirst log.exchanges) where
  abbrev Claims : List Exchange → Process ClaimEnd → ℕ → Type 0
  Claims done process n = MeetsWork s log (IsOfBlock (lease_at lease)) (ShowsClaim s others lease) done process n

  -- bytes that are no lease end it after one more reading
  ends-damaged : (done : List Exchange) (bytes : List ℕ) (uses : List InUse) (n : ℕ) → WentOn done → IsIn (read_of_lease lease (answer.Bytes bytes)) done → read_lease bytes ≡ None →
      ((last : ℕ) → AreInUse (with_exchanges log (clock last ∷ done)) others lease uses) → Claims done (claim_damaged uses) (suc n)
  ends-damaged done bytes uses n went read none used = (
    ((went, tt), tt),
    λ last small. by-reached (λ process. Claims (clock last ∷ done) process n) uses last (Ends ClaimDamaged)
        (λ due is. reached uses (used last) (of_clock (done, refl)) is)
        (λ is. record { bytes = bytes; read = inr read; outside = none; reading = last; last = (done, refl); uses = uses; used = used last; early = is }),
  )

  module _ (sample : ℕ) (small : sample < 2 ^ 48) (bytes : List ℕ) (seen : LeaseRecord) (sees : read_lease bytes ≡ Some seen) (reading : ℕ) (past : sample + wait ≤ reading)
      (early : reading < sample + term) where
    -- the reread
    after-again : (again : List ℕ) (same : Bool) → bytes_eq again (lease_bytes (own_record (claim_of s.boot number sample))) ≡ same → (found : Option LeaseRecord) → read_lease again ≡ found →
        Claims (after_rereading log.exchanges s.boot lease number sample bytes reading again)
        (reread_by same (own_use lease (claim_of s.boot number sample) ∷ others) (claim_of s.boot number sample) found) 1
    after-again again true is found reads =
        held-rereading s boot_small log.before log.exchanges has lease number may.few sample small bytes reading again past early
        ∙ ap (λ t. hold_after_reread t (Held (claim_of s.boot number sample) (sample + term))) is
    after-again again false is (Some other) reads =
        taken (claim_of s.boot number sample) (sample + term) again (after_waiting log.exchanges s.boot lease number sample bytes reading) refl
        (held-waiting s boot_small log.before log.exchanges has lease number may.few sample small bytes reading past early) reads
        (λ e. bytes-other again (lease_bytes (own_record (claim_of s.boot number sample))) is ((lease-only again other reads).1 ∙ ap lease_bytes e))
    after-again again false is None reads =
        ends-damaged (after_rereading log.exchanges s.boot lease number sample bytes reading again) again (own_use lease (claim_of s.boot number sample) ∷ others) 0
        (tt, (tt, (tt, (tt, (tt, may.went))))) (inl refl) reads (λ last. with_own (claim_of s.boot number sample) (inr (inr (inr (inl refl)))))

  -- the lease was read
  after-read : (sample : ℕ) → sample < 2 ^ 48 → (bytes : List ℕ) (found : Option LeaseRecord) → read_lease bytes ≡ found →
      Claims (after_sight log.exchanges lease sample bytes) (seen_process others lease (claim_of s.boot number sample) found) 4
  after-read sample small bytes None sees = ends-damaged (after_sight log.exchanges lease sample bytes) bytes others 3 (tt, (tt, may.went)) (inl refl) sees (λ last. beside)
  after-read sample small bytes (Some seen) sees = by-expired (is_expired seen sample) refl
    where
      by-expired : (test : Bool) → is_expired seen sample ≡ test →
          Claims (after_sight log.exchanges lease sample bytes) (if_expired test seen (written_process others lease (claim_of s.boot number sample))) 4
      by-expired false is = unexpired sample bytes log.exchanges refl sees is
      by-expired true is =
          let own = claim_of s.boot number sample in
          let held = held-sight s boot_small log.before log.exchanges has lease number may.few sample small bytes may.nothing seen sees is in (
            (
              (
                (tt, (tt, may.went)),
                claim_of_lease lease own seen bytes log.exchanges may.within refl (ap is_held held) refl sees is refl may.counted
                    (own-limits s boot_small log.before log.exchanges has lease number may.few sample small bytes) refl
                    (lease-rest (own_record own) ∙ sym (ap (drop 512) (lease-only bytes seen sees).1 ∙ lease-rest seen)) refl,
              ),
              refl,
            ),
            (
              (
                (
                  (tt, (tt, (tt, may.went))),
                  record {
                    lease = lease;
                    claim = own;
                    until = sample + term;
                    wrote = held-claiming s boot_small log.before log.exchanges has lease number may.few sample small bytes;
                    after = refl;
                  },
                ),
                tt,
              ),
              λ reading past small'. by-reached (λ process. Claims (after_waiting log.exchanges s.boot lease number sample bytes reading) process 2) (own_use lease own ∷ others) reading
                  (reread_process (own_use lease own ∷ others) lease own)
                  (λ due e. reached (own_use lease own ∷ others) (with_own own (inr (inl refl))) (of_wait (sample + wait) (after_claiming log.exchanges s.boot lease number sample bytes, refl)) e)
                  (λ e. (
                    (((tt, (tt, (tt, (tt, may.went)))), tt), refl),
                    λ again long. after-again sample small bytes seen sees reading past (before-first-end (own_use lease own) others reading e) again (bytes_eq again (lease_bytes (own_record own))) refl (read_lease again) refl,
                    (after_waiting log.exchanges s.boot lease number sample bytes reading, refl),
                  )),
            ),
            (sample + window, lease_bytes (own_record own), (after_sight log.exchanges lease sample bytes, refl)),
            λ reading past small'. missed (lease_bytes (own_record own)) (after_sight log.exchanges lease sample bytes, refl) refl,
          )

  claim-meets : Claims log.exchanges (claim_process s.boot others lease number) claim_bound
  claim-meets = (
    ((may.went, tt), tt),
    λ sample small. by-reached (λ process. Claims (clock sample ∷ log.exchanges) process 5) others sample _
        (λ due e. reached others beside (of_clock (log.exchanges, refl)) e)
        (λ e. (
          (((tt, may.went), tt), refl),
          λ bytes long. after-read sample small bytes (read_lease bytes) refl,
          (clock sample ∷ log.exchanges, refl),
        )),
  )

pub begun-first : (done older : List Exchange) (x : Exchange) → done ≡ x ∷ older → HasFirst done
begun-first done older x is = subst HasFirst (sym is) tt

pub claims-keep-rules : ClaimsKeepRules
claims-keep-rules s log others lease number is may =
    meets-keeps s log (IsOfBlock (lease_at lease)) (ShowsClaim s others lease) (claim_process s.boot others lease number) claim_bound
    (claim-meets s is.boot log others lease number may (begun-first log.exchanges may.others may.first may.begun))

-- so does each claim by where it stands
pub claim-ask : (rest : Process ClaimEnd) (ask : Ask) → Some ask ≡ standing rest → IsClaimAsk rest ask
claim-ask rest ask stands s log others lease number own is may leads = (claims-keep-rules s log others lease number is may).asks leads ask (sym stands)

pub claim-end : (rest : Process ClaimEnd) (end : ClaimEnd) → rest ≡ Ends end → IsClaimEnd rest end
claim-end rest end over s log others lease number own is may leads = (claims-keep-rules s log others lease number is may).ends leads end over
