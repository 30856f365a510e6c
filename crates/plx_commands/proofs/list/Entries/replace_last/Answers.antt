use Rattle.std.proofs.Common.{◌≡◌, ◌<◌, ◌-◌, ◌∷◌, ◌++◌, [], length, take, ℕ, List, zero, suc, refl, ap, arith, slice_set}
use Rattle.plx_commands.proofs.list.Entries.replace_last.Goals as goal

-- the last place of a list is set
set-last : {X : Type 0} (n : ℕ) (xs : List X) (y : X) → length xs ≡ suc n → slice_set xs n y ≡ take n xs ++ y ∷ []
set-last n [] y h = absurd (omega arith)
set-last zero (x ∷ []) y h = refl
set-last zero (x ∷ (z ∷ zs)) y h = absurd (omega arith)
set-last (suc n) (x ∷ xs) y h = ap (λ rest. x ∷ rest) (set-last n xs y (omega arith))

-- the same, of a list that goes by several names
set-last-of : {X : Type 0} (xs now zs : List X) (y : X) → xs ≡ now → zs ≡ xs → 0 < length now →
    slice_set xs (length zs - 1) y ≡ take (length now - 1) now ++ y ∷ []
set-last-of xs now zs y same read some =
    rw (read, same) (set-last (length now - 1) now y (omega arith))

pub returns : goal.returns
returns c = set-last-of _ _ _ _ c.self.view_is c.as_slice.ensures.value c.requires
