-- The lease of an image, as one in use.
use Rattle.plx_geom.specs.Geometry.{image_lease}
use Rattle.plx_rules.specs.InUse.{InUse}
use Rattle.plx_session.specs.declared.leased.Leased.{Leased}

-- the lease that is in use
abbrev pub leased_use : Leased → InUse
leased_use l = record { lease = image_lease l.slot.0; until = l.until }
