-- Leases in use, as the definitions see them.
use Rattle.std.specs.Prelude.{List, [], ◌∷◌, Option, Some, None}
use Rattle.plx_rules.specs.InUse.{InUse}
use Rattle.plx_lease.specs.declared.in_use.InUse.{InUse as Use}

-- a lease in use
abbrev pub use_of : Use → InUse
use_of use' = record { lease = use'.lease; until = use'.until }

-- a lease in use, where there is one
abbrev pub use_if : Option Use → Option InUse
use_if None = None
use_if (Some use') = Some (use_of use')

-- the leases in use: none, or one
abbrev pub uses_of : Option Use → List InUse
uses_of None = []
uses_of (Some use') = use_of use' ∷ []
