-- Which boot owns a lease, what that promises, and on what a write that is waited for rests.
use Rattle.std.specs.Prelude.{◌≡◌, ◌+◌, ◌≤◌, ◌<◌, ◌==◌, ℕ, List, Bool, true, false, Option, Some}
use Rattle.std.specs.Prelude.{None, slice_get}
use Rattle.plx_base.specs.declared.lease.Claim.{Claim}
use Rattle.plx_base.specs.declared.write_kind.WriteKind.{WriteKind}
use Rattle.plx_base.specs.declared.write_kind.WriteKind.TheVariants as kind
use Rattle.plx_disk.specs.Writes.{Issued, MayLand, after_landing}
use Rattle.plx_gate.specs.Leases.{read_lease}
use Rattle.plx_geom.specs.Geometry.{Geometry, lease_count, lease_at}
use Rattle.plx_rules.specs.Process.{WriteThen}
use Rattle.plx_rules.specs.Boot.{Place, In, Configuration}
use Rattle.plx_rules.specs.Holds.{Hold, Nothing, Held, hold_after_renewal}
use Rattle.plx_rules.specs.Rests.{IsUnder, rests_on}
use Rattle.plx_rules.specs.Times.{drift}
use Rattle.plx_rules.specs.World.{World, Reached, setting_of, stands}

-- whether a flag is there and set
abbrev pub is_set : Option Bool → Bool
is_set None = false
is_set (Some flag) = flag

-- whether sector 0 of a write has landed
abbrev pub first_landed : Option Issued → Bool
first_landed None = false
first_landed (Some write) = is_set (slice_get write.landed 0)

-- the issued write that an ask waits for
abbrev pub pending_write : List Issued → (pending : Option ℕ) → Option Issued
pending_write writes None = None
pending_write writes (Some number) = slice_get writes number

-- what a boot holds of a lease while it asks a write: nothing from the ask of
-- its release on, and what its renewal gives once sector 0 of that has landed
abbrev pub held_while : WriteKind → (same landed : Bool) → List ℕ → Hold → Hold
held_while kind.Release true landed bytes hold = Nothing
held_while kind.Renew true true bytes hold = hold_after_renewal (read_lease bytes)
held_while kind same landed bytes hold = hold

-- what a boot holds of the lease in this block, at its place
abbrev pub hold_at_place : Place → (pending : Option Issued) → (lease : ℕ) → Hold → Hold
hold_at_place (In known command (WriteThen kind block bytes guard done fault missed))
    pending lease hold =
    held_while kind (lease == block) (first_landed pending) bytes hold
hold_at_place other pending lease hold = hold

-- what the present boot of an appliance holds of the lease in this block
abbrev pub held_by : World → (appliance lease : ℕ) → Hold
held_by w appliance lease =
    hold_at_place (stands w appliance).place
    (pending_write w.surface.writes (w.seats appliance).pending)
    lease ((stands w appliance).holds lease)

-- the present boot of an appliance owns a lease: it holds it,
-- and the time isn't past the drift after its end
pub record Owns (w : World) (appliance lease : ℕ) : Type 0 where
  pub within : lease < lease_count w.geometry
  pub claim : Claim
  pub until : ℕ
  pub held : held_by w appliance (lease_at lease) ≡ Held claim until
  pub time : w.surface.time ≤ until + drift

-- at most one boot owns each lease
abbrev pub HasOneOwner : World → Type 0
HasOneOwner w =
    (a b lease : ℕ) → a < w.appliances → b < w.appliances → Owns w a lease → Owns w b lease → a ≡ b

-- no landing of a write that rests on a lease changes a byte while another boot owns that lease
abbrev pub IsGuarded : World → Type 0
IsGuarded w = (number sector : ℕ) (write : Issued) (lease b : ℕ) → lease < lease_count w.geometry →
    IsUnder w.rests number lease → MayLand w.surface number sector write →
    b < w.appliances → Owns w b lease → ¬ ((setting_of w b).boot ≡ write.owner) →
    (block : ℕ) →
    (after_landing w.surface number write sector).device block ≡ w.surface.device block

-- it is so in every world that events lead to
abbrev pub Exclusion : Type 0
Exclusion = (w : World) → Reached w → HasOneOwner w

-- in every world that events lead to no late write changes what its lease's owner has
abbrev pub Guarding : Type 0
Guarding = (w : World) → Reached w → IsGuarded w

-- ---- a write that is waited for

-- a write that is asked at a place rests on what its command, what its boot holds and what that has
-- filled give
abbrev pub RestsAsAsked : Geometry → (leases : List ℕ) → Configuration → Place → Type 0
RestsAsAsked g leases p (In known command (WriteThen kind block bytes guard done fault missed)) =
    leases ≡ rests_on g command p.holds p.filled kind block bytes
RestsAsAsked g leases p other = ⊥

-- in every world that events lead to the write that a boot waits for rests so: beside its home a
-- link rests on the leases of the extents of the blocks that its boot has filled, which the ask has
-- taken out of the hand
abbrev pub WaitsRestAsAsked : Type 0
WaitsRestAsAsked = (w : World) → Reached w → (appliance number : ℕ) → appliance < w.appliances →
    (w.seats appliance).pending ≡ Some number →
    RestsAsAsked w.geometry (w.rests number) (stands w appliance) (stands w appliance).place
