-- A lease that is read again: it is held exactly where its record is the claim's own.
use Rattle.std.proofs.Common.{◌≡◌, ◌≢◌, List, ℕ, refl, ap, sym, ◌∙◌, true, false, Option, Some, inl, inr}
use Rattle.std.proofs.lemmas.Slice.Eq.{bytes_eq-Decides}
use Rattle.std.specs.Str.{bytes_eq}
use Rattle.plx_base.specs.declared.lease.Claim.{Claim}
use Rattle.plx_base.specs.declared.lease.LeaseRecord.{LeaseRecord}
use Rattle.plx_gate.proofs.Leases.{lease-back, lease-only}
use Rattle.plx_gate.specs.Leases.{IsLease, lease_bytes, read_lease}
use Rattle.plx_rules.specs.Process.{Ends}
use Rattle.plx_rules.specs.Claims.{ClaimHeld, ClaimBusy, end_of_term, own_record, reread_by}
use Rattle.plx_rules.specs.Holds.{Hold, Nothing, hold_after_reread}
use Rattle.plx_rules.specs.InUse.{InUse}
use Rattle.plx_base.proofs.Tests.{either, same-some}

-- the bytes are those of the lease that is read in them
own-bytes : (bytes : List ℕ) (r : LeaseRecord) → Some r ≡ read_lease bytes → bytes_eq bytes (lease_bytes r) ≡ true
own-bytes bytes r e = (bytes_eq-Decides bytes (lease_bytes r)).1 (lease-only bytes r (sym e)).1

-- they are no other lease's
other-lease-bytes : (bytes : List ℕ) (r : LeaseRecord) (found : Option LeaseRecord) → IsLease r → found ≡ read_lease bytes → found ≢ Some r → bytes_eq bytes (lease_bytes r) ≡ false
other-lease-bytes bytes r found is e other = elim (either (bytes_eq bytes (lease_bytes r))) [
  | inl same ↦ absurd (other (e ∙ (ap read_lease ((bytes_eq-Decides bytes (lease_bytes r)).0 same) ∙ lease-back r is)))
  | inr differ ↦ differ
]

pub reread-other : (uses : List InUse) (claim : Claim) (bytes : List ℕ) (seen : LeaseRecord) → IsLease (own_record claim) → Some seen ≡ read_lease bytes → seen ≢ own_record claim →
    Ends (ClaimBusy seen) ≡ reread_by (bytes_eq bytes (lease_bytes (own_record claim))) uses claim (read_lease bytes)
reread-other uses claim bytes seen is e other = rw (other-lease-bytes bytes (own_record claim) (Some seen) is e (λ same. other (same-some _ _ same)), ← e) refl

pub hold-other : (claim : Claim) (bytes : List ℕ) (held : Hold) (seen : LeaseRecord) → IsLease (own_record claim) → Some seen ≡ read_lease bytes → seen ≢ own_record claim →
    hold_after_reread (bytes_eq bytes (lease_bytes (own_record claim))) held ≡ Nothing
hold-other claim bytes held seen is e other = rw (other-lease-bytes bytes (own_record claim) (Some seen) is e (λ same. other (same-some _ _ same))) refl

-- where the claim's own is read
pub reread-own : (uses : List InUse) (claim : Claim) (bytes : List ℕ) (seen : LeaseRecord) → Some seen ≡ read_lease bytes → seen ≡ own_record claim →
    Ends (ClaimHeld claim (end_of_term claim)) ≡ reread_by (bytes_eq bytes (lease_bytes (own_record claim))) uses claim (read_lease bytes)
reread-own uses claim bytes seen e same = rw (own-bytes bytes (own_record claim) (ap Some (sym same) ∙ e)) refl

pub hold-own : (claim : Claim) (bytes : List ℕ) (held : Hold) (seen : LeaseRecord) → Some seen ≡ read_lease bytes → seen ≡ own_record claim →
    hold_after_reread (bytes_eq bytes (lease_bytes (own_record claim))) held ≡ held
hold-own claim bytes held seen e same = rw (own-bytes bytes (own_record claim) (ap Some (sym same) ∙ e)) refl
