-- A claim that is confirmed, or isn't.
use Rattle.std.specs.Prelude.{◌≡◌, ◌≢◌, ◌≤◌, ◌<◌, ℕ, Result, Ok, Err}
use Rattle.plx_base.specs.declared.lease.Claim.{Claim}
use Rattle.plx_base.specs.declared.lease.LeaseRecord.{LeaseRecord}
use Rattle.plx_token.specs.declared.claimed.Unconfirmed.{Unconfirmed}
use Rattle.plx_token.specs.declared.claimed.Unconfirmed.TheVariants.{NotMine, TooLate}
use Rattle.plx_token.specs.declared.held.Held.{Held}
use Rattle.plx_rules.specs.Claims.{end_of_term, own_record}

-- a lease is held by a claim, for the term of claims
pub record IsHeldBy {K : Type 0} (which : K) (claimed : Claim) (held : Held K) : Type 0 where
  pub lease : held.lease ≡ which
  pub claim : held.claim ≡ claimed
  pub until : held.until ≡ end_of_term claimed

-- what becomes of a claim of a lease whose record was read again after this reading: it is too late once its term is over; else the lease is
-- held where the record is the claim's own, and where it is another it isn't
abbrev pub Confirms : {K : Type 0} → K → Claim → (seen : LeaseRecord) → (now : ℕ) → Result (Held K) Unconfirmed → Type 0
Confirms lease claim seen now (Ok held) = (now < end_of_term claim) × (seen ≡ own_record claim) × IsHeldBy lease claim held
Confirms lease claim seen now (Err (TooLate reading)) = (end_of_term claim ≤ now) × (reading ≡ now)
Confirms lease claim seen now (Err (NotMine found)) = (now < end_of_term claim) × (seen ≢ own_record claim) × (found ≡ seen)
