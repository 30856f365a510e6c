-- Leases as bytes: each is read back, is spelled in one way, and differs from another in its first sector alone.
use Rattle.std.proofs.Common.{◌≡◌, ◌≢◌, ℕ, List, [], ◌∷◌, length, refl, ap, sym, ◌∙◌, subst, arith, true, false, Some, None}
use Rattle.std.proofs.lemmas.Bool.Decides.{nat_tests}
use Rattle.plx_base.specs.Spelling.{IsReading, OnlySector, fields_width, field_number, read_by, block_of_fields}
use Rattle.plx_base.specs.declared.lease.LeaseRecord.{LeaseRecord}
use Rattle.plx_base.specs.declared.lease.LeaseRecord.TheVariants.{Free, Claimed}
use Rattle.plx_base.specs.declared.stored.Field.{Field}
use Rattle.plx_base.proofs.Spelling.{AreFields, length-spelled, only-spelled, read-exact, read-past, read-some, read-unspelled, spelled-fields}
use Rattle.plx_gate.specs.Leases.{IsLease, found_lease, is_lease, lease_bytes, lease_fields, lease_magic, lease_of, read_lease}

-- the lease of its fields
abbrev of_fields : List Field → LeaseRecord
of_fields (state ∷ unnamed ∷ boot ∷ number ∷ sample ∷ until ∷ rest) = lease_of (field_number state) (field_number boot) (field_number number) (field_number sample) (field_number until)
of_fields rest = Free

-- each field is a number of its width
small-fields : (r : LeaseRecord) → IsLease r → AreFields (lease_fields r)
small-fields Free h = (omega arith, (omega arith, (omega arith, (omega arith, (omega arith, (omega arith, tt))))))
small-fields (Claimed claim until) h =
    let b = h.boot in
    let n = h.number in
    let s = h.sample in
    let u = h.high in
    (omega arith, (omega arith, (omega (arith, b), (omega (arith, n), (omega (arith, s), (omega (arith, u), tt))))))

-- a lease is found in its own block
pub lease-found : (r : LeaseRecord) → IsLease r → found_lease (lease_bytes r) ≡ r
unfolding lease_bytes
lease-found Free h = ap of_fields (spelled-fields lease_magic (lease_fields Free) [] (small-fields Free h))
lease-found (Claimed claim until) h = ap of_fields (spelled-fields lease_magic (lease_fields (Claimed claim until)) [] (small-fields (Claimed claim until) h))

-- the test of the limits tells
is_lease-true : (r : LeaseRecord) → IsLease r → is_lease r ≡ true
is_lease-true Free h = refl
is_lease-true (Claimed claim until) h =
    let a = h.boot in
    let b = h.number in
    let c = h.sample in
    let d = h.low in
    let e = h.high in
    grind (arith, nat_tests)

true-is_lease : (r : LeaseRecord) → is_lease r ≡ true → IsLease r
true-is_lease Free h = tt
true-is_lease (Claimed claim until) h = record {
  boot = grind (arith, nat_tests);
  number = grind (arith, nat_tests);
  sample = grind (arith, nat_tests);
  low = grind (arith, nat_tests);
  high = grind (arith, nat_tests);
}

-- reading is exact: a lease within the limits where it is spelled by the bytes, nothing where none is
pub lease-reading : (bytes : List ℕ) → IsReading IsLease lease_bytes bytes (read_lease bytes)
unfolding read_lease
lease-reading bytes = read-exact IsLease is_lease lease_bytes found_lease is_lease-true true-is_lease lease-found bytes

-- a lease is read back
pub lease-back : (r : LeaseRecord) → IsLease r → read_lease (lease_bytes r) ≡ Some r
unfolding read_lease
lease-back r h =
    ap (λ x. read_by is_lease lease_bytes x (lease_bytes r)) (lease-found r h) ∙ read-some is_lease lease_bytes r (lease_bytes r) (is_lease-true r h) refl

-- two leases that are spelled alike are one
pub lease-same : (r s : LeaseRecord) → IsLease r → IsLease s → lease_bytes r ≡ lease_bytes s → r ≡ s
lease-same r s hr hs e = sym (lease-found r hr) ∙ (ap found_lease e ∙ lease-found s hs)

-- what is read is spelled by the bytes
pub lease-only : (bytes : List ℕ) (r : LeaseRecord) → read_lease bytes ≡ Some r → IsLease r × (bytes ≡ lease_bytes r)
lease-only bytes r e = subst (IsReading IsLease lease_bytes bytes) e (lease-reading bytes)

-- the bytes of a lease's fields
pub width-lease : (r : LeaseRecord) → fields_width (lease_fields r) ≡ 48
width-lease Free = refl
width-lease (Claimed claim until) = refl

-- a lease fills a block
pub length-lease : (r : LeaseRecord) → length (lease_bytes r) ≡ 4096
unfolding lease_bytes
length-lease r = length-spelled lease_magic (lease_fields r) [] (let w = width-lease r in omega (arith, w))

-- the first sector tells all
pub lease-sector : (new old : LeaseRecord) → OnlySector 0 (lease_bytes new) (lease_bytes old)
unfolding lease_bytes
lease-sector new old =
    only-spelled lease_magic (lease_fields new) [] lease_magic (lease_fields old) []
    (let w = width-lease new in omega (arith, w)) (let w = width-lease old in omega (arith, w))

-- the block of a lease, written out
pub lease-eq : (r : LeaseRecord) → lease_bytes r ≡ block_of_fields lease_magic (lease_fields r) []
unfolding lease_bytes
lease-eq r = refl

-- what each way through a reading tells
pub lease-some : (bytes : List ℕ) (r : LeaseRecord) → r ≡ found_lease bytes → is_lease r ≡ true → bytes ≡ lease_bytes r → Some r ≡ read_lease bytes
unfolding read_lease
lease-some bytes r found within is = sym (ap (λ x. read_by is_lease lease_bytes x bytes) (sym found) ∙ read-some is_lease lease_bytes r bytes within is)

pub lease-past : (bytes : List ℕ) (r : LeaseRecord) → r ≡ found_lease bytes → is_lease r ≡ false → None ≡ read_lease bytes
unfolding read_lease
lease-past bytes r found past = sym (read-past is_lease lease_bytes (found_lease bytes) bytes (ap is_lease (sym found) ∙ past))

pub lease-other : (bytes : List ℕ) (r : LeaseRecord) → r ≡ found_lease bytes → bytes ≢ lease_bytes r → None ≡ read_lease bytes
unfolding read_lease
lease-other bytes r found other = sym (read-unspelled is_lease lease_bytes (found_lease bytes) bytes (λ e. other (e ∙ ap lease_bytes (sym found))))
