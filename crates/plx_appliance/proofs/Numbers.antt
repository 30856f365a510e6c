-- The numbers of a boot's claims.
use Rattle.std.proofs.Common.{◌≡◌, ℕ, ◌<◌, ◌≤◌, inl, inr, ap, arith, Some, None}
use Rattle.std.specs.Prelude.{Option}
use Rattle.std.proofs.lemmas.Bool.Decides.{eqb_tells}
use Rattle.plx_alloc.specs.Tables.{next_number}
use Rattle.plx_commands.specs.Limits.{last_claim}

-- the number of a claim that a boot has left
pub next-told : (claims number : ℕ) → claims ≤ last_claim → Some number ≡ next_number claims → (claims < last_claim) × (number ≡ claims)
next-told claims number most told = elim (eqb_tells claims last_claim) [
  | inl same ↦ absurd (cc (rw same.0 at told))
  | inr other ↦ (omega (arith, most, other.1), ap (unwrap_or_zero) (rw other.0 at told))
]
  where
    unwrap_or_zero : Option ℕ → ℕ
    unwrap_or_zero None = 0
    unwrap_or_zero (Some n) = n
