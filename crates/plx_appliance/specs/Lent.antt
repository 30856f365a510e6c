-- What is lent to the command that runs: what is known, the leases of images, and what is kept of space.
use Rattle.std.specs.Prelude.{ℕ, Option}
use Rattle.plx_alloc.specs.Tables.{known_beside as known_with}
use Rattle.plx_alloc.specs.declared.allocator.Allocator.{Allocator}
use Rattle.plx_rules.specs.Holds.{Hold}
use Rattle.plx_rules.specs.Session.{Known, Session}
use Rattle.plx_appliance.specs.Kept.{known_of}
use Rattle.plx_appliance.specs.Tokens.{image_leases}
use Rattle.plx_appliance.specs.declared.holdings.Holdings.{Holdings}

-- what is known, the leases by image, and what is kept of space
pub record Lent : Type 0 where
  pub known : Known
  pub leases : ℕ → Hold
  pub space : Allocator

-- what is lent with these sessions and leases
abbrev pub lends : (sessions : ℕ → Option Session) → (leases : ℕ → Hold) → Allocator → Lent
lends sessions leases space = record { known = known_with sessions space; leases = leases; space = space }

-- what these holdings lend
abbrev pub lent_of : Holdings → Lent
lent_of h = record { known = known_of h; leases = image_leases h.leases.leases.items; space = h.space }
