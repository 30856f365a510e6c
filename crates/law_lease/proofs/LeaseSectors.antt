-- The sectors of a lease that lands: its first one tells all.
use Rattle.std.proofs.Common.{◌≡◌, ℕ, suc, arith}
use Rattle.plx_base.specs.Sectors.{with_landed_sector}
use Rattle.plx_base.specs.declared.lease.LeaseRecord.{LeaseRecord}
use Rattle.plx_gate.proofs.Leases.{lease-sector}
use Rattle.plx_gate.specs.Leases.{lease_bytes}

-- the first sector makes the block the new lease
pub sector-first : (old new : LeaseRecord) → with_landed_sector 0 (lease_bytes new) (lease_bytes old) ≡ lease_bytes new
sector-first old new = (lease-sector new old).own

-- every other sector changes nothing
pub sector-past : (old new : LeaseRecord) (k : ℕ) → with_landed_sector (suc k) (lease_bytes new) (lease_bytes old) ≡ lease_bytes old
sector-past old new k = (lease-sector new old).others (suc k) (λ e. omega arith)
