-- Releases keep the rules.
use Rattle.std.proofs.Common.{◌≡◌, ℕ, ◌∷◌, Some, refl, ap, sym, ◌∙◌}
use Rattle.plx_base.specs.declared.lease.LeaseRecord.TheVariants.{Free}
use Rattle.plx_base.specs.declared.write_kind.WriteKind.TheVariants as kind
use Rattle.plx_commands.proofs.Places.{at-same}
use Rattle.plx_disk.specs.declared.ask.Ask.{Ask}
use Rattle.plx_disk.specs.declared.ask.Ask.TheVariants as ask
use Rattle.plx_disk.specs.declared.ask.Answer.TheVariants as answer
use Rattle.plx_gate.specs.Leases.{lease_bytes}
use Rattle.plx_geom.specs.Geometry.{lease_at}
use Rattle.plx_rules.specs.Holds.{Hold, Nothing}
use Rattle.plx_rules.specs.Process.{Process, Ends, standing}
use Rattle.plx_rules.specs.Settings.{Setting}
use Rattle.law_run.specs.AllowedAsks.{release_of_lease}
use Rattle.law_run.specs.CommandLogs.{Exchange, CommandLog}
use Rattle.law_run.specs.Holdings.{hold_by_log, holds_along, holds_after}
use Rattle.law_run.specs.Releases.{ReleaseEnd, release_process, ShowsRelease, IsReleaseAsk, IsReleaseEnd, ReleasesKeepRules}
use Rattle.law_run.specs.Sessions.{is_attached}
use Rattle.law_run.proofs.ClaimRules.{begun-first}
use Rattle.law_run.specs.Machines.{IsOfBlock}
use Rattle.law_run.proofs.Machines.{meets-keeps}
use Rattle.law_run.proofs.Meets.{exchange}
use Rattle.law_run.proofs.Runs.{HasFirst, along-more}

abbrev release_write : (lease until : ℕ) → Exchange
release_write lease until = exchange (ask.Write kind.Release (record { 0 = lease_at lease }) until) (lease_bytes Free) answer.Done

-- once it is done, nothing is held
held-none : (s : Setting) (log : CommandLog) (lease until : ℕ) → HasFirst log.exchanges → hold_by_log s log.before (release_write lease until ∷ log.exchanges) lease ≡ Nothing
held-none s log lease until has =
    let before = holds_after s.geometry log.before in
    ap (λ (h : ℕ → Hold). h (lease_at lease)) (along-more s.geometry (is_attached log.before) before (release_write lease until) log.exchanges has)
    ∙ at-same (holds_along s.geometry (is_attached log.before) before log.exchanges) (lease_at lease) Nothing

pub releases-keep-rules : ReleasesKeepRules
releases-keep-rules s log lease until may =
    meets-keeps s log (IsOfBlock (lease_at lease)) (ShowsRelease s lease until) (release_process lease until) 1 (
      ((may.went, release_of_lease lease may.claim may.within refl may.held refl), refl),
      ((lease_bytes Free, (log.exchanges, refl)), held-none s log lease until (begun-first log.exchanges may.others may.first may.begun)),
      (lease_bytes Free, (log.exchanges, refl)),
      λ past late small. ((lease_bytes Free, (log.exchanges, refl)), refl),
    )

-- so does each release by where it stands
pub release-ask : (rest : Process ReleaseEnd) (ask : Ask) → Some ask ≡ standing rest → IsReleaseAsk rest ask
release-ask rest ask stands s log lease until own may leads = (releases-keep-rules s log lease until may).asks leads ask (sym stands)

pub release-end : (rest : Process ReleaseEnd) (end : ReleaseEnd) → rest ≡ Ends end → IsReleaseEnd rest end
release-end rest end over s log lease until own may leads = (releases-keep-rules s log lease until may).ends leads end over
