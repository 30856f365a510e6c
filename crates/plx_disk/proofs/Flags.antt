-- Flags of the sectors that have landed.
use Rattle.std.proofs.Common.{◌≡◌, ◌<◌, ◌∙◌, ℕ, suc, List, [], ◌∷◌, length, Some, Bool, true, ap, refl, arith, replicate}
use Rattle.std.specs.Prelude.{slice_get}
use Rattle.plx_disk.specs.Writes.{all_sectors}

all-true : (flags : List Bool) → ((k : ℕ) → k < length flags → slice_get flags k ≡ Some true) → flags ≡ replicate (length flags) true
all-true [] h = refl
all-true (flag ∷ flags) h =
    let first : flag ≡ true = let e : Some flag ≡ Some true = h 0 (omega arith) in cc in
    let rest = all-true flags (λ k below. h (suc k) (omega arith)) in
    ap (λ f. f ∷ flags) first ∙ ap (λ fs. true ∷ fs) rest

-- eight flags that are all set
pub all-eight : (flags : List Bool) → length flags ≡ 8 → ((k : ℕ) → k < 8 → slice_get flags k ≡ Some true) → flags ≡ all_sectors
all-eight flags long h =
    all-true flags (λ k below. h k (omega arith)) ∙ ap (λ n. replicate n true) long
