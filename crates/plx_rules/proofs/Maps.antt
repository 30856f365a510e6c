-- Maps of extents with bits set and cleared.
use Rattle.std.proofs.Common.{◌≡◌, ℕ, zero, suc, ◌+◌, List, [], ◌∷◌, Bool, true, false, Option, Some, None, get_or, length, slice_get, refl, ap, ◌∙◌}
use Rattle.std.specs.Prelude.{◌||◌}
use Rattle.std.proofs.lemmas.List.{length-replicate}
use Rattle.plx_commands.specs.Replies.{is_in}
use Rattle.plx_extent.specs.Maps.{IsMap}
use Rattle.plx_rules.specs.Formatted.{empty_map}
use Rattle.plx_rules.specs.Space.{is_own_set, with_clear, with_set}

-- the map of an extent fills its block
pub length-map : length empty_map ≡ 4096
unfolding empty_map
length-map = ap suc (length-replicate {A = ℕ} 4095 0)

-- no bit comes or goes where some are set
pub length-with_set : (blocks : List ℕ) (block : ℕ) (bits : List Bool) → length (with_set blocks block bits) ≡ length bits
length-with_set blocks block [] = refl
length-with_set blocks block (bit ∷ bits) = ap suc (length-with_set blocks (block + 1) bits)

-- or cleared
pub length-with_clear : (blocks : List ℕ) (block : ℕ) (bits : List Bool) → length (with_clear blocks block bits) ≡ length bits
length-with_clear blocks block [] = refl
length-with_clear blocks block (bit ∷ bits) = ap suc (length-with_clear blocks (block + 1) bits)

-- a bit that is set where some are cleared was set before
pub clear-was : (blocks : List ℕ) (block : ℕ) (bits : List Bool) (i : ℕ) → get_or (with_clear blocks block bits) i false ≡ true → get_or bits i false ≡ true
clear-was blocks block [] i is = is
clear-was blocks block (true ∷ bits) zero is = refl
clear-was blocks block (false ∷ bits) zero is = is
clear-was blocks block (bit ∷ bits) (suc i) is = clear-was blocks (block + 1) bits i is

-- the bit of the map's own block is the first
pub own-set : (bits : List Bool) → slice_get bits 0 ≡ Some true → is_own_set bits ≡ true
own-set [] e = absurd (let P : ⊥ = cc in P)
own-set (bit ∷ bits) e = ap (λ o. the_bit o) e
  where
    the_bit : Option Bool → Bool
    the_bit None = true
    the_bit (Some b) = b

-- and so is the first
pub set-own : (bits : List Bool) → is_own_set bits ≡ true → slice_get bits 0 ≡ Some true
set-own [] e = let P : ⊥ = cc in absurd P
set-own (bit ∷ bits) e = ap Some e

-- ---- bits of a map are set, or cleared

own-stays-set : (blocks : List ℕ) (block : ℕ) (bits : List Bool) → slice_get bits 0 ≡ Some true → slice_get (with_set blocks block bits) 0 ≡ Some true
own-stays-set blocks block [] e = e
own-stays-set blocks block (own ∷ bits) e = let is : own ≡ true = cc in ap (λ (b : Bool). Some (b || is_in block blocks)) is

own-stays-clear : (blocks : List ℕ) (block : ℕ) (bits : List Bool) → is_in block blocks ≡ false → slice_get bits 0 ≡ Some true → slice_get (with_clear blocks block bits) 0 ≡ Some true
own-stays-clear blocks block [] out e = e
own-stays-clear blocks block (own ∷ bits) out e = let is : own ≡ true = cc in rw (is, out) refl

-- they are a map with some set
pub set-is-map : (size : ℕ) (blocks : List ℕ) (block : ℕ) (bits : List Bool) → IsMap size bits → IsMap size (with_set blocks block bits)
set-is-map size blocks block bits is = record { long = length-with_set blocks block bits ∙ is.long; own = own-stays-set blocks block bits is.own }

-- and with some cleared, but the map's own
pub clear-is-map : (size : ℕ) (blocks : List ℕ) (block : ℕ) (bits : List Bool) → is_in block blocks ≡ false → IsMap size bits → IsMap size (with_clear blocks block bits)
clear-is-map size blocks block bits out is = record { long = length-with_clear blocks block bits ∙ is.long; own = own-stays-clear blocks block bits out is.own }
