-- Elements of lists that grew, and the write that an appliance waits for.
use Rattle.std.proofs.Common.{◌≡◌, ◌≢◌, ℕ, zero, suc, List, [], ◌∷◌, ◌++◌, ◌<◌, length, arith, Option, Some, None, refl, ap, inl, inr, ◌⊎◌, false}
use Rattle.std.specs.Prelude.{slice_get}
use Rattle.std.proofs.lemmas.Bool.Decides.{eqb_tells}
use Rattle.plx_disk.specs.Writes.{all_sectors}
use Rattle.plx_base.proofs.Tests.{same-some}

-- what stands at a place of a list with one more element
pub push-cases : {X : Type 0} (xs : List X) (x y : X) (k : ℕ) → slice_get (xs ++ x ∷ []) k ≡ Some y →
    (slice_get xs k ≡ Some y) ⊎ ((k ≡ length xs) × (x ≡ y))
push-cases [] x y zero h = inr (refl, cc)
push-cases [] x y (suc k) h = cc
push-cases (z ∷ xs) x y zero h = inl h
push-cases (z ∷ xs) x y (suc k) h = elim (push-cases xs x y k h) [ inl e ↦ inl e | inr e ↦ inr (ap suc e.0, e.1) ]

-- what stands at a place of a list that is long enough
pub get-there : {X : Type 0} (xs : List X) (k : ℕ) → k < length xs → (x : X) × (slice_get xs k ≡ Some x)
get-there [] k less = absurd (omega (arith, less))
get-there (x ∷ xs) zero less = (x, refl)
get-there (x ∷ xs) (suc k) less = get-there xs k (omega (arith, less))

-- nothing is no number
pub none-some : (n : ℕ) → None ≢ Some n
none-some n = λ e. cc

-- a write is waited for, or it isn't
pub pending-is : (p : Option ℕ) (n : ℕ) → (p ≡ Some n) ⊎ (p ≢ Some n)
pending-is None n = inr (none-some n)
pending-is (Some m) n = elim (eqb_tells m n) [ inl same ↦ inl (ap Some same.1) | inr other ↦ inr (λ e. other.1 (same-some m n e)) ]

-- no sector is missing of a write that has landed whole
pub whole-none : (sector : ℕ) → slice_get all_sectors sector ≡ Some false → ⊥
whole-none zero e = cc
whole-none (suc zero) e = cc
whole-none (suc (suc zero)) e = cc
whole-none (suc (suc (suc zero))) e = cc
whole-none (suc (suc (suc (suc zero)))) e = cc
whole-none (suc (suc (suc (suc (suc zero))))) e = cc
whole-none (suc (suc (suc (suc (suc (suc zero)))))) e = cc
whole-none (suc (suc (suc (suc (suc (suc (suc zero))))))) e = cc
whole-none (suc (suc (suc (suc (suc (suc (suc (suc sector)))))))) e = cc
