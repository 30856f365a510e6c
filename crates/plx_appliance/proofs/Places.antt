-- What a claim and a renewal ask is on the device.
use Rattle.std.proofs.Common.{◌≡◌, ℕ, subst, arith}
use Rattle.plx_geom.specs.Geometry.{image_lease, lease_at, lease_count}
use Rattle.plx_geom.proofs.Places.{lease-within}
use Rattle.plx_disk.specs.declared.ask.Ask.{Ask}
use Rattle.plx_rules.specs.Holds.{Hold}
use Rattle.plx_rules.specs.Machines.{AsksOnly}
use Rattle.plx_alloc.specs.Asking.{IsOnDevice}
use Rattle.plx_alloc.proofs.Asking.{asks-within}
use Rattle.plx_appliance.specs.Renews.{IsRenewing}
use Rattle.plx_appliance.specs.declared.attach.ImageClaim.{ImageClaim}
use Rattle.plx_appliance.specs.declared.renew.Renew.{Renew}
use Rattle.plx_appliance.proofs.Renewed.{last-held}

-- what a claim of an attach asks is on the device
pub claim-within : (c : ImageClaim) (q : Ask) → AsksOnly (lease_at c.claim.number) q → c.claim.number ≡ image_lease c.slot.0 → IsOnDevice c.setting.geometry q
claim-within c q own number =
    let g = c.setting.geometry in
    let inside = c.inside in
    asks-within g (lease_at (image_lease c.slot.0)) q (lease-within g (image_lease c.slot.0) (omega (arith, inside)))
    (subst (λ (n : ℕ). AsksOnly (lease_at n) q) number own)

-- and what a renewal of a renew asks
pub renewal-within : (r : Renew) (leases : ℕ → Hold) (q : Ask) → AsksOnly (lease_at r.renewal.number) q → IsRenewing r leases → IsOnDevice r.setting.geometry q
renewal-within r leases q own h =
    let g = r.setting.geometry in
    asks-within g (lease_at r.renewal.number) q (lease-within g r.renewal.number (last-held 0 (lease_count g) leases r.left.items r.renewal h).0) own
