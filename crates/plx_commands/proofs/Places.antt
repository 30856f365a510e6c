-- A table that is changed at one place.
use Rattle.std.proofs.Common.{◌≡◌, ◌≢◌, ℕ, refl, sym, inl, inr, subst}
use Rattle.std.proofs.lemmas.Bool.Decides.{eqb_tells}
use Rattle.plx_commands.specs.Places.{at}

-- the changed place
pub at-same : {X : Type 0} (table : ℕ → X) (place : ℕ) (x : X) → at table place x place ≡ x
at-same table place x = elim (eqb_tells place place) [ inl same ↦ rw same.0 refl | inr other ↦ absurd (other.1 refl) ]

-- every other place
pub at-other : {X : Type 0} (table : ℕ → X) (place k : ℕ) (x : X) → k ≢ place → at table place x k ≡ table k
at-other table place k x ne = elim (eqb_tells k place) [ inl same ↦ absurd (ne same.1) | inr other ↦ rw other.0 refl ]

-- a fact of every place after a change
pub at-all : {X : Type 0} (P : ℕ → X → Type 0) (table : ℕ → X) (place : ℕ) (x : X) → P place x → ((k : ℕ) → k ≢ place → P k (table k)) →
    (k : ℕ) → P k (at table place x k)
at-all P table place x here others k = elim (eqb_tells k place) [
  | inl same ↦ subst (λ n. P n (at table place x n)) (sym same.1) (subst (λ y. P place y) (sym (at-same table place x)) here)
  | inr other ↦ subst (λ y. P k y) (sym (at-other table place k x other.1)) (others k other.1)
]
