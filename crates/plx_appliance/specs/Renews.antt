-- What a renew still asks, and which leases it renews.
use Rattle.std.specs.Prelude.{◌≡◌, ◌<◌, ◌≤◌, ◌++◌, ℕ, List, [], ◌∷◌, Option, Some, None}
use Rattle.plx_alloc.specs.Tables.{hand_numbers}
use Rattle.plx_alloc.specs.Tables.{extent_leases as extents_of}
use Rattle.plx_commands.specs.Places.{at}
use Rattle.plx_base.specs.declared.lease.LeaseName.{LeaseName}
use Rattle.plx_base.specs.declared.lease.LeaseName.TheVariants.{Image, Extent}
use Rattle.plx_commands.specs.declared.reply.Reply.{Reply}
use Rattle.plx_commands.specs.declared.reply.Reply.TheVariants as reply
use Rattle.plx_disk.specs.declared.ask.Answer.{Answer}
use Rattle.plx_disk.specs.declared.ask.Answer.TheVariants as answer
use Rattle.plx_geom.specs.Geometry.{lease_count}
use Rattle.plx_rules.specs.InUse.{lease_name}
use Rattle.plx_rules.specs.Process.{Process}
use Rattle.plx_rules.specs.Ends.{End, ends}
use Rattle.plx_rules.specs.Holds.{Hold}
use Rattle.plx_rules.specs.Processes.{followed_by}
use Rattle.plx_rules.specs.Session.{Known}
use Rattle.plx_rules.specs.Settings.{Setting}
use Rattle.plx_lease.specs.Following.{after_renewal}
use Rattle.plx_lease.specs.Renewing.{longer_hold, renewal_hold, renewal_rest}
use Rattle.plx_lease.specs.declared.renewal.LeaseRenewal.{LeaseRenewal}
use Rattle.plx_session.specs.Giving.{rules_setting}
use Rattle.plx_appliance.specs.Lent.{Lent}
use Rattle.plx_appliance.specs.declared.renew.Renew.{Renew}

-- a renewal, and what comes after it
abbrev pub renewal_then : Setting → Known → LeaseRenewal → (rest : Process End) → Process End
renewal_then s known r rest = followed_by (renewal_rest r) (after_renewal s known r.number rest)

-- a renewal, where there is one
abbrev pub renewal_if : Setting → Known → Option LeaseRenewal → (rest : Process End) → Process End
renewal_if s known None rest = rest
renewal_if s known (Some r) rest = renewal_then s known r rest

-- renewals, of which the last one is asked first
abbrev pub renewals_then : Setting → Known → List LeaseRenewal → (rest : Process End) → Process End
renewals_then s known [] rest = rest
renewals_then s known (r ∷ others) rest = renewals_then s known others (renewal_then s known r rest)

-- renewals with one more, where there is one
abbrev pub with_next : List LeaseRenewal → Option LeaseRenewal → List LeaseRenewal
with_next list None = list
with_next list (Some r) = list ++ r ∷ []

-- a renew: the renewal that asks, and those that are left
abbrev pub renew_rest : Known → Renew → Process End
renew_rest known r =
    renewal_then (rules_setting r.setting) known r.renewal (renewals_then (rules_setting r.setting) known r.left.items (ends reply.Renewed known))

-- renewals of leases that are held, of those below `bound` and from `low` on, in descending order
abbrev pub AreHeld : (low bound : ℕ) → (leases : ℕ → Hold) → List LeaseRenewal → Type 0
AreHeld low bound leases [] = low ≤ bound
AreHeld low bound leases (r ∷ others) = (r.number < bound) × (leases r.number ≡ renewal_hold r) × AreHeld low r.number leases others

-- all renewals of a renew are of leases that are held
abbrev pub IsRenewing : Renew → (leases : ℕ → Hold) → Type 0
IsRenewing r leases = AreHeld 0 (lease_count r.setting.geometry) leases (r.left.items ++ r.renewal ∷ [])

-- the leases of images, once this lease is held up to this moment, where that is the later one
abbrev pub longer_images : LeaseName → (end : ℕ) → (ℕ → Hold) → ℕ → Hold
longer_images (Image slot) end leases = at leases slot.0 (longer_hold end (leases slot.0))
longer_images other end leases = leases

-- and those of extents
abbrev pub longer_extents : LeaseName → (end : ℕ) → (ℕ → Hold) → ℕ → Hold
longer_extents (Extent extent) end extents = at extents extent.0 (longer_hold end (extents extent.0))
longer_extents other end extents = extents

-- what is held once a renewal was answered: where its write is done, its lease is held longer
abbrev pub renewed_if : Answer → (longer leases : ℕ → Hold) → ℕ → Hold
renewed_if answer.Done longer leases = longer
renewed_if other longer leases = leases

-- the lease of the renewal that asks
abbrev pub renewed_lease : Renew → LeaseName
renewed_lease r = lease_name r.setting.geometry r.renewal.number

-- where a renew that was answered goes on, its renewal is done, and the next one asks
abbrev pub renew_goes : Answer → (old new : Renew) → Type 0
renew_goes answer.Done old new = old.left.items ≡ new.left.items ++ new.renewal ∷ []
renew_goes answer.Fault old new = ⊥
renew_goes (answer.Missed reading) old new = ⊥
renew_goes other old new = Unit {0}

-- a renew was answered: where its write is done, its lease is held longer, and what is in hand stays
pub record RenewMoves (old new : Renew) (answer : Answer) (before after : Lent) (result : Option Reply) : Type 0 where
  pub images : after.leases ≡ renewed_if answer (longer_images (renewed_lease old) old.renewal.later before.leases) before.leases
  pub extents : extents_of after.space ≡ renewed_if answer (longer_extents (renewed_lease old) old.renewal.later (extents_of before.space)) (extents_of before.space)
  pub hand : hand_numbers after.space ≡ hand_numbers before.space
  pub setting : new.setting ≡ old.setting
  pub goes_on : result ≡ None → renew_goes answer old new
