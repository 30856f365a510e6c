-- A device with one block changed.
use Rattle.std.proofs.Common.{◌≡◌, ◌≢◌, ℕ, List, inl, inr, ap, sym, subst, ◌∙◌, arith}
use Rattle.std.proofs.lemmas.Bool.Decides.{eqb_tells}
use Rattle.std.proofs.lemmas.Grind.{common_steps}
use Rattle.plx_base.specs.Sectors.{Device, put}

-- the changed block
pub put-same : (device : Device) (block : ℕ) (bytes : List ℕ) → put device block bytes block ≡ bytes
put-same device block bytes = grind (arith, common_steps)

-- every other block
pub put-other : (device : Device) (block : ℕ) (bytes : List ℕ) (b : ℕ) → b ≢ block → put device block bytes b ≡ device b
put-other device block bytes b h = grind (arith, common_steps)

-- a block that is written with what it holds
pub put-again : (device : Device) (block b : ℕ) → put device block (device block) b ≡ device b
put-again device block b = elim (eqb_tells b block) [
  | inl same ↦ ap (λ (n : ℕ). put device block (device block) n) same.1 ∙ (put-same device block (device block) ∙ ap device (sym same.1))
  | inr other ↦ put-other device block (device block) b other.1
]

-- a fact of every block after a write
pub put-all : (P : ℕ → List ℕ → Type 0) (device : Device) (block : ℕ) (bytes : List ℕ) → P block bytes →
    ((b : ℕ) → b ≢ block → P b (device b)) → (b : ℕ) → P b (put device block bytes b)
put-all P device block bytes here others b = elim (eqb_tells b block) [
  | inl same ↦ subst (λ n. P n (put device block bytes n)) (sym same.1) (subst (λ x. P block x) (sym (put-same device block bytes)) here)
  | inr other ↦ subst (λ x. P b x) (sym (put-other device block bytes b other.1)) (others b other.1)
]
