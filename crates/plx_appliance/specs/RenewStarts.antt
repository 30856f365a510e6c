-- A renew at its first reading: the leases in use, and the renewals of those that are held.
use Rattle.std.specs.Prelude.{◌≡◌, ℕ, List, Option}
use Rattle.plx_commands.specs.declared.reply.Reply.TheVariants as reply
use Rattle.plx_geom.specs.Geometry.{lease_at, lease_count}
use Rattle.plx_rules.specs.Process.{Process}
use Rattle.plx_rules.specs.Commands.{attached_uses, renew_process, renewal, session_use}
use Rattle.plx_rules.specs.Ends.{End, ends, in_time}
use Rattle.plx_rules.specs.Holds.{Hold}
use Rattle.plx_rules.specs.InUse.{InUse, first_reached}
use Rattle.plx_rules.specs.Session.{Known}
use Rattle.plx_rules.specs.Settings.{Setting}
use Rattle.plx_lease.specs.Uses.{use_if}
use Rattle.plx_lease.specs.declared.in_use.InUse.{InUse as Use}
use Rattle.plx_lease.specs.declared.renewal.LeaseRenewal.{LeaseRenewal}
use Rattle.plx_appliance.specs.Kept.{known_of}
use Rattle.plx_appliance.specs.Renews.{renewal_if, renewals_then}
use Rattle.plx_appliance.specs.Space.{extents_in}
use Rattle.plx_appliance.specs.Tokens.{lease_holds_at, image_leases}
use Rattle.plx_appliance.specs.declared.holdings.Holdings.{Holdings}

-- the renewals of all leases that are held
abbrev pub all_renewals : Setting → Known → (holds : ℕ → Hold) → (reading : ℕ) → Process End
all_renewals s known holds reading = renew_process s known holds reading (lease_count s.geometry) 0

-- they are asked unless the reading has reached the lease of an attached image
abbrev pub renew_command : Setting → Known → (holds : ℕ → Hold) → (reading : ℕ) → Process End
renew_command s known holds reading =
    in_time s known (attached_uses known holds s.geometry.images 0) reading (all_renewals s known holds reading)

-- the leases of images that are held
abbrev pub leases_in : Holdings → ℕ → Hold
leases_in h = image_leases h.leases.leases.items

-- what is held, by the block of each lease
abbrev pub holds_in : Holdings → ℕ → Hold
holds_in h = lease_holds_at h.setting.geometry (leases_in h) (extents_in h)

-- the leases of attached images
abbrev pub uses_in : Holdings → List InUse
uses_in h = attached_uses (known_of h) (holds_in h) h.setting.geometry.images 0

-- this is the lease to be named of an image's, where it is attached, and of others
abbrev pub IsReached : Holdings → (reading image : ℕ) → (others found : Option Use) → Type 0
IsReached h reading image others found = (uses : List InUse) → use_if others ≡ first_reached uses reading →
    use_if found ≡ first_reached (session_use ((known_of h).sessions image) (leases_in h image) image uses) reading

-- this is the renewal of a lease, where it is held
abbrev pub IsRenewal : Holdings → (reading lease : ℕ) → Option LeaseRenewal → Type 0
IsRenewal h reading lease found = (s : Setting) (known : Known) (rest : Process End) →
    renewal_if s known found rest ≡ renewal s known reading lease (holds_in h (lease_at lease)) rest

-- these are the renewals of all leases that are held
abbrev pub AreRenewals : Holdings → (reading : ℕ) → List LeaseRenewal → Type 0
AreRenewals h reading list = (s : Setting) (known : Known) →
    renewals_then s known list (ends reply.Renewed known) ≡ renew_process s known (holds_in h) reading (lease_count h.setting.geometry) 0
