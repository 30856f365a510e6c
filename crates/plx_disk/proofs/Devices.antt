-- A device with one block changed, seen through equal blocks.
use Rattle.std.proofs.Common.{◌≡◌, ℕ, List, true, false, ap, nat_eq, if◌then◌else◌}
use Rattle.plx_base.specs.Sectors.{Device, put}

-- a change of what stands in a block
pub put-along : (f g : Device) → ((b : ℕ) → f b ≡ g b) → (block : ℕ) (change : List ℕ → List ℕ) (b : ℕ) →
    put f block (change (f block)) b ≡ put g block (change (g block)) b
put-along f g same block change b =
    elim (nat_eq b block) as (λ t. (if t then change (f block) else f b) ≡ (if t then change (g block) else g b)) [ true ↦ ap change (same block) | false ↦ same b ]
