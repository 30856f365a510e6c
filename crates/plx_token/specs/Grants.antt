-- The leases on which a write rests.
use Rattle.plx_geom.specs.Geometry.{Geometry, lease_number}
use Rattle.plx_rules.specs.InUse.{InUse}
use Rattle.plx_token.specs.declared.grant.Grant.{Grant}

-- the lease of a grant as one in use, by its number in a geometry
abbrev pub grant_use : Geometry → Grant → InUse
grant_use g grant = record { lease = lease_number g grant.lease; until = grant.until }
