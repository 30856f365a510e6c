-- The times of leases, in milliseconds.
use Rattle.std.specs.Prelude.{◌+◌, ◌*◌, ℕ, Bool, true, nat_lt}
use Rattle.plx_base.specs.declared.lease.LeaseRecord.{LeaseRecord}
use Rattle.plx_base.specs.declared.lease.LeaseRecord.TheVariants.{Free, Claimed}

-- how far a reading and the time may differ
abbrev pub drift : ℕ
drift = 50

-- a claim's write may land until so long after its sample, and the drift
abbrev pub window : ℕ
window = 200

-- a claim waits until a reading so long after its sample
abbrev pub wait : ℕ
wait = 601

-- a lease is claimed, and renewed, for so long
abbrev pub term : ℕ
term = 10000

-- whether a lease is expired for a sample: it is free, or it ended more than twice the drift before
abbrev pub is_expired : LeaseRecord → (sample : ℕ) → Bool
is_expired Free sample = true
is_expired (Claimed claim until) sample = nat_lt (until + 2 * drift) sample
