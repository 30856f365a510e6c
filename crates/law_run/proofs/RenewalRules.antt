-- Renewals keep the rules.
use Rattle.std.proofs.Common.{◌≡◌, ℕ, List, [], ◌∷◌, Some, refl, sym}
use Rattle.plx_base.specs.declared.lease.LeaseRecord.TheVariants.{Claimed}
use Rattle.plx_disk.specs.declared.ask.Ask.{Ask}
use Rattle.plx_gate.specs.Leases.{lease_bytes}
use Rattle.plx_geom.specs.Geometry.{lease_at}
use Rattle.plx_rules.specs.Process.{Process, Ends, standing}
use Rattle.law_run.specs.AllowedAsks.{renewal_of_lease}
use Rattle.law_run.specs.CommandLogs.{Exchange, first_reading}
use Rattle.law_run.specs.Renewals.{RenewalEnd, renewal_process, renewal_until, ShowsRenewal, IsRenewalAsk, IsRenewalEnd, RenewalsKeepRules}
use Rattle.law_run.specs.Machines.{IsOfBlock}
use Rattle.law_run.proofs.Machines.{meets-keeps}
use Rattle.law_run.proofs.Renewing.{renewal-limits, held-later}
use Rattle.law_run.proofs.Runs.{HasFirst}

read-first : (done : List Exchange) (reading : ℕ) → first_reading done ≡ Some reading → HasFirst done
read-first [] reading is = absurd (let P : ⊥ = cc in P)
read-first (x ∷ older) reading is = tt

pub renewals-keep-rules : RenewalsKeepRules
renewals-keep-rules s log lease claim until reading may =
    let bytes = lease_bytes (Claimed claim (renewal_until until reading)) in
    meets-keeps s log (IsOfBlock (lease_at lease)) (ShowsRenewal s lease claim until reading) (renewal_process lease claim until (renewal_until until reading)) 1 (
      ((may.went, renewal_of_lease lease claim reading may.within refl may.held may.first (renewal-limits s log.before log.exchanges lease claim until reading may.timely may.held) refl), refl),
      ((bytes, (log.exchanges, refl)), held-later s log.before log.exchanges lease claim until reading may.timely may.held (read-first log.exchanges reading may.first)),
      (bytes, (log.exchanges, refl)),
      λ past late small. ((bytes, (log.exchanges, refl)), refl),
    )

-- so does each renewal by where it stands
pub renewal-ask : (rest : Process RenewalEnd) (ask : Ask) → Some ask ≡ standing rest → IsRenewalAsk rest ask
renewal-ask rest ask stands s log lease claim until reading own may leads = (renewals-keep-rules s log lease claim until reading may).asks leads ask (sym stands)

pub renewal-end : (rest : Process RenewalEnd) (end : RenewalEnd) → rest ≡ Ends end → IsRenewalEnd rest end
renewal-end rest end over s log lease claim until reading own may leads = (renewals-keep-rules s log lease claim until reading may).ends leads end over
