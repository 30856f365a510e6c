-- The leases that a command uses, and which of them a reading has reached.
use Rattle.std.specs.Prelude.{◌≡◌, ◌⊎◌, ◌-◌, ℕ, zero, suc, List, [], ◌∷◌, Bool, false, ◌&&◌, ◌||◌}
use Rattle.std.specs.Prelude.{nat_lt, nat_le, ◌==◌, if◌then◌else◌, Option, Some, None}
use Rattle.plx_base.specs.declared.lease.LeaseName.{LeaseName}
use Rattle.plx_base.specs.declared.lease.LeaseName.TheVariants.{Root, Image, Extent}
use Rattle.plx_geom.specs.Geometry.{Geometry}
use Rattle.plx_rules.specs.Process.{Process}

-- a lease in use, by its number, and the moment until which it is held
pub record InUse : Type 0 where
  pub lease : ℕ
  pub until : ℕ

-- the name of the lease with this number: the root's, those of the images, and those of the extents
abbrev pub lease_name : Geometry → ℕ → LeaseName
lease_name g zero = Root
lease_name g (suc number) =
    if nat_lt number g.images
    then Image (record { 0 = number })
    else Extent (record { 0 = number - g.images })

-- whether one lease is to be named before another:
-- its `until` is less, or is the same and the lease comes first
abbrev pub is_before : InUse → InUse → Bool
is_before one other =
    nat_lt one.until other.until || ((one.until == other.until) && nat_lt one.lease other.lease)

-- a lease in use is to be named, of it and another: the other isn't to be named before it
abbrev pub IsNamedFirst : InUse → InUse → Type 0
IsNamedFirst one other = is_before other one ≡ false

-- a lease in use is among those
abbrev pub IsUse : InUse → List InUse → Type 0
IsUse one [] = ⊥
IsUse one (other ∷ others) = (one ≡ other) ⊎ IsUse one others

-- the one of them that is to be named
abbrev pub earlier : InUse → Option InUse → InUse
earlier one None = one
earlier one (Some other) = if is_before other one then other else one

-- of the leases that a reading has reached, the one to be named
abbrev pub first_reached : List InUse → ℕ → Option InUse
first_reached [] reading = None
first_reached (one ∷ others) reading =
    if nat_le one.until reading
    then Some (earlier one (first_reached others reading))
    else first_reached others reading

-- what is asked unless a lease in use was reached
abbrev pub unless_reached : {E : Type 0} → Option InUse →
    (InUse → Process E) → Process E → Process E
unless_reached None lost rest = rest
unless_reached (Some due) lost rest = lost due
