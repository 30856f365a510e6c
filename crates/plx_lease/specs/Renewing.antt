-- What a renewal asks, and what is held of its lease.
use Rattle.std.specs.Prelude.{◌≡◌, ℕ, Option, Some, None}
use Rattle.plx_base.specs.declared.write_kind.WriteKind.TheVariants as kind
use Rattle.plx_disk.specs.declared.ask.Ask.{Ask}
use Rattle.plx_disk.specs.declared.ask.Ask.TheVariants as ask
use Rattle.plx_geom.specs.Geometry.{lease_at}
use Rattle.plx_rules.specs.Process.{Process}
use Rattle.plx_rules.specs.Commands.{later_of}
use Rattle.plx_rules.specs.Holds.{Hold, Nothing, Held}
use Rattle.law_run.specs.Renewals.{RenewalEnd, Renewed, RenewalLost, RenewalWriteFault, renewal_process}
use Rattle.plx_lease.specs.Uses.{use_of}
use Rattle.plx_lease.specs.declared.renewal.LeaseRenewal.{LeaseRenewal}
use Rattle.plx_lease.specs.declared.renewal.RenewalEnd.{RenewalEnd as End}
use Rattle.plx_lease.specs.declared.renewal.RenewalEnd.TheVariants as end

-- how a renewal ends, as the definitions see it
abbrev pub renewal_end : End → RenewalEnd
renewal_end end.Renewed = Renewed
renewal_end (end.Lost due reading) = RenewalLost (use_of due) reading
renewal_end end.WriteFault = RenewalWriteFault

-- what a renewal has left to ask
abbrev pub renewal_rest : LeaseRenewal → Process RenewalEnd
renewal_rest r = renewal_process r.number r.claim r.until r.later

-- its ask
abbrev pub renewal_ask : LeaseRenewal → Ask
renewal_ask r = ask.Write kind.Renew (record { 0 = lease_at r.number }) r.until

-- the lease is held up to the old moment until its renewal is done
abbrev pub renewal_hold : LeaseRenewal → Hold
renewal_hold r = Held r.claim r.until

-- what is held at its end: the lease up to the later moment, or nothing
abbrev pub renewed_hold : LeaseRenewal → End → Hold
renewed_hold r end.Renewed = Held r.claim r.later
renewed_hold r (end.Lost due reading) = Nothing
renewed_hold r end.WriteFault = Nothing

-- what is held once a renewal was answered fits where it goes on, or its end
abbrev pub LeavesRenewal : Hold → LeaseRenewal → Option End → Type 0
LeavesRenewal hold r None = hold ≡ renewal_hold r
LeavesRenewal hold r (Some end) = hold ≡ renewed_hold r end

-- a lease that is held is held up to this moment, where that is the later one
abbrev pub longer_hold : (end : ℕ) → Hold → Hold
longer_hold end (Held claim until) = Held claim (later_of until end)
longer_hold end other = other
