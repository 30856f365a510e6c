-- Appliances that were asked nothing yet.
use Rattle.std.proofs.Common.{◌≡◌, ◌+◌, ℕ, List, [], ◌∷◌, ◌++◌, length, None, Some, refl, ap, sym, subst, ◌∙◌, inl, inr, arith}
use Rattle.std.specs.Prelude.{slice_get}
use Rattle.law_lease.proofs.Lists.{push-cases}
use Rattle.plx_base.specs.Sectors.{Device}
use Rattle.plx_disk.specs.Standing.{Stands as DiskStands}
use Rattle.plx_geom.specs.Geometry.{Geometry}
use Rattle.plx_rules.specs.World.{first_seat, first_world}
use Rattle.plx_world.specs.Fresh.{IsFresh}
use Rattle.plx_world.specs.Standing.{WorldStands}
use Rattle.plx_world.specs.Ties.{AreTied}
use Rattle.plx_world.specs.declared.seat.Seat.{Seat}
use Rattle.plx_world.specs.declared.world.World.{World}
use Rattle.plx_world.proofs.Seating.{seat-at}

-- an appliance of which nothing was asked in any boot
pub record IsNew (g : Geometry) (number : ℕ) (seat : Seat) : Type 0 where
  pub fresh : IsFresh g number 0 seat.appliance
  pub boots : seat.boots ≡ 0
  pub pending : seat.pending ≡ None
  pub issued : seat.issued.items ≡ []

-- all of them are
abbrev pub AreNew : Geometry → List Seat → Type 0
AreNew g seats = (k : ℕ) (seat : Seat) → slice_get seats k ≡ Some seat → IsNew g k seat

pub none-new : (g : Geometry) → AreNew g []
none-new g k seat found = cc

pub more-new : (g : Geometry) (old new : List Seat) (one : Seat) (number : ℕ) → new ≡ old ++ one ∷ [] → length old ≡ number → AreNew g old → IsNew g number one → AreNew g new
more-new g old new one number is count all here k seat found =
    elim (push-cases old one seat k (ap (λ (xs : List Seat). slice_get xs k) (sym is) ∙ found)) [
      | inl before ↦ all k seat before
      | inr last ↦ subst (λ (s : Seat). IsNew g k s) last.1 (subst (λ (m : ℕ). IsNew g m one) (sym (last.0 ∙ count)) here)
    ]

pub more-count : (old new : List Seat) (one : Seat) (number : ℕ) → new ≡ old ++ one ∷ [] → length old ≡ number → length new ≡ number + 1
more-count old new one number is count = ap length is ∙ pushed old ∙ ap (λ (m : ℕ). m + 1) count
  where
    pushed : (xs : List Seat) → length (xs ++ one ∷ []) ≡ length xs + 1
    pushed [] = refl
    pushed (x ∷ xs) = let rest = pushed xs in omega (arith, rest)

pub tied-new : (g : Geometry) (seats : List Seat) → AreNew g seats → AreTied g seats
tied-new g seats all k seat found = (all k seat found).fresh.layout

-- a world over a device
pub stands-over : (g : Geometry) (appliances : ℕ) (world : World) (device : Device) → world.geometry ≡ g → length world.seats.items ≡ appliances → AreNew g world.seats.items →
    world.trace.items ≡ [] → DiskStands world.disk (first_world g appliances device).surface → WorldStands world (first_world g appliances device)
stands-over g appliances world device geometry count all trace surface = record {
  geometry = geometry;
  count = count;
  surface = surface;
  seats = λ k seat found.
      let new = all k seat found in
      seat-at (first_world g appliances device) k first_seat seat refl new.fresh.setting new.boots new.fresh.log new.pending new.issued;
  trace = trace;
}
