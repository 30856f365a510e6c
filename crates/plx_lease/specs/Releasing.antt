-- What a release asks.
use Rattle.plx_base.specs.declared.write_kind.WriteKind.TheVariants as kind
use Rattle.plx_disk.specs.declared.ask.Ask.{Ask}
use Rattle.plx_disk.specs.declared.ask.Ask.TheVariants as ask
use Rattle.plx_geom.specs.Geometry.{lease_at}
use Rattle.plx_rules.specs.Process.{Process}
use Rattle.law_run.specs.Releases.{ReleaseEnd, Released, ReleaseLost, ReleaseWriteFault, release_process}
use Rattle.plx_lease.specs.Uses.{use_of}
use Rattle.plx_lease.specs.declared.release.LeaseRelease.{LeaseRelease}
use Rattle.plx_lease.specs.declared.release.ReleaseEnd.{ReleaseEnd as End}
use Rattle.plx_lease.specs.declared.release.ReleaseEnd.TheVariants as end

-- how a release ends, as the definitions see it
abbrev pub release_end : End → ReleaseEnd
release_end end.Released = Released
release_end (end.Lost due reading) = ReleaseLost (use_of due) reading
release_end end.WriteFault = ReleaseWriteFault

-- what a release has left to ask
abbrev pub release_rest : LeaseRelease → Process ReleaseEnd
release_rest r = release_process r.number r.until

-- its ask
abbrev pub release_ask : LeaseRelease → Ask
release_ask r = ask.Write kind.Release (record { 0 = lease_at r.number }) r.until
