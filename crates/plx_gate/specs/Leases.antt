-- Leases as bytes.
use Rattle.std.specs.Prelude.{◌+◌, ◌≤◌, ◌<◌, ◌^◌, ◌==◌, ℕ, List, [], ◌∷◌, Bool, true, ◌&&◌, nat_lt}
use Rattle.std.specs.Prelude.{nat_le, if◌then◌else◌, Option}
use Rattle.plx_base.specs.Fields.{number_at}
use Rattle.plx_base.specs.Spelling.{block_of_fields, read_by}
use Rattle.plx_base.specs.declared.stored.Field.{Field}
use Rattle.plx_base.specs.declared.stored.Field.TheVariants.{U32, U64, U128}
use Rattle.plx_base.specs.declared.lease.Claim.{Claim}
use Rattle.plx_base.specs.declared.lease.LeaseRecord.{LeaseRecord}
use Rattle.plx_base.specs.declared.lease.LeaseRecord.TheVariants.{Free, Claimed}

-- the eight bytes that begin a lease: PLXLEAS1
abbrev pub lease_magic : List ℕ
lease_magic = 80 ∷ 76 ∷ 88 ∷ 76 ∷ 69 ∷ 65 ∷ 83 ∷ 49 ∷ []

-- a lease's fields from byte 8 on: the state, four unnamed bytes,
-- and the boot, the number, the sample and the moment `until` of its claim
abbrev pub fields_of : (state boot number sample until : ℕ) → List Field
fields_of state boot number sample until =
    U32 state
    ∷ U32 0
    ∷ U128 boot
    ∷ U64 number
    ∷ U64 sample
    ∷ U64 until
    ∷ []

-- a free lease has state 0 and zeros; a claimed one has state 1 and its claim
abbrev pub lease_fields : LeaseRecord → List Field
lease_fields Free = fields_of 0 0 0 0 0
lease_fields (Claimed claim until) = fields_of 1 claim.boot.0 claim.number claim.sample until

-- the block that spells a lease
unfoldable pub lease_bytes : LeaseRecord → List ℕ
lease_bytes lease = block_of_fields lease_magic (lease_fields lease) []

-- the limits of a claim that stands in a lease's block, and of its moment `until`, in milliseconds
pub record IsClaimed (claim : Claim) (until : ℕ) : Type 0 where
  pub boot : claim.boot.0 < 2 ^ 128
  pub number : claim.number < 2 ^ 40
  pub sample : claim.sample < 2 ^ 48
  pub low : claim.sample + 10000 ≤ until
  pub high : until < 2 ^ 49

-- the limits of a lease
abbrev pub IsLease : LeaseRecord → Type 0
IsLease Free = Unit {0}
IsLease (Claimed claim until) = IsClaimed claim until

-- the same limits, tested
abbrev pub is_lease : LeaseRecord → Bool
is_lease Free = true
is_lease (Claimed claim until) =
    nat_lt claim.boot.0 (2 ^ 128)
    && (nat_lt claim.number (2 ^ 40)
    && (nat_lt claim.sample (2 ^ 48)
    && (nat_le (claim.sample + 10000) until && nat_lt until (2 ^ 49))))

-- the lease of these numbers
abbrev pub lease_of : (state boot number sample until : ℕ) → LeaseRecord
lease_of state boot number sample until =
    if state == 0
    then Free
    else Claimed (record { boot = record { 0 = boot }; number = number; sample = sample }) until

-- the lease whose numbers stand at the places of the fields
abbrev pub found_lease : List ℕ → LeaseRecord
found_lease bytes =
    lease_of (number_at 4 8 bytes) (number_at 16 16 bytes)
    (number_at 8 32 bytes) (number_at 8 40 bytes) (number_at 8 48 bytes)

-- what a block says: a lease within the limits, or nothing
unfoldable pub read_lease : List ℕ → Option LeaseRecord
read_lease bytes = read_by is_lease lease_bytes (found_lease bytes) bytes
