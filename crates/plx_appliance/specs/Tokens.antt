-- The leases that are held, as the definitions see them.
use Rattle.std.specs.Prelude.{◌+◌, ◌-◌, ℕ, List, Option, Some, None, slice_index_or, nat_le, nat_lt, ◌&&◌, if◌then◌else◌}
use Rattle.plx_geom.specs.Geometry.{Geometry}
use Rattle.plx_token.specs.declared.held.Held.{Held}
use Rattle.plx_token.specs.declared.kind.Image.{Image}
use Rattle.plx_rules.specs.Holds.{Hold, Nothing}
use Rattle.plx_rules.specs.Holds.{Held as HeldBy}

-- a lease that is held, or isn't
abbrev pub image_hold : Option (Held Image) → Hold
image_hold None = Nothing
image_hold (Some held) = HeldBy held.claim held.until

-- the leases by image
abbrev pub image_leases : List (Option (Held Image)) → ℕ → Hold
image_leases leases = λ image. image_hold (slice_index_or leases image None)

-- what is held, by the block of each lease: of the leases of images and of extents, and never of the root's
abbrev pub lease_holds_at : Geometry → (leases extents : ℕ → Hold) → ℕ → Hold
lease_holds_at g leases extents = λ block.
    if nat_le 2 block && nat_lt block (2 + g.images) then leases (block - 2) else if nat_le (2 + g.images) block then extents (block - (2 + g.images)) else Nothing
