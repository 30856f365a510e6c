-- Hands: blocks whose extents' leases are held.
use Rattle.std.proofs.Common.{◌≡◌, ◌<◌, ◌≤◌, ◌∙◌, ap, sym, refl, ℕ, List, [], ◌∷◌, length, get_or, Bool, true, false, Option, Some, None, inl, inr, arith}
use Rattle.std.proofs.lemmas.Bool.Decides.{eqb_tells}
use Rattle.std.specs.Prelude.{filter, IsSome, if◌then◌else◌}
use Rattle.plx_base.specs.declared.numbers.BlockNo.{BlockNo}
use Rattle.plx_geom.specs.Geometry.{Geometry}
use Rattle.plx_rules.specs.Hands.{is_held}
use Rattle.plx_rules.specs.Holds.{Hold}
use Rattle.plx_rules.specs.Rests.{extent_of}
use Rattle.plx_rules.specs.Space.{in_extent}
use Rattle.plx_token.specs.declared.held.Held.{Held}
use Rattle.plx_token.specs.declared.kind.Extent.{Extent}
use Rattle.plx_alloc.specs.Tables.{has_any, held_hand, extent_hold, numbers}

pub few-filter : {X : Type 0} (p : X → Bool) (xs : List X) → length (filter p xs) ≤ length xs
few-filter p [] = omega arith
few-filter p (x ∷ xs) = go (few-filter p xs) (p x)
  where
    go : length (filter p xs) ≤ length xs → (b : Bool) → length (if b then x ∷ filter p xs else filter p xs) ≤ length (x ∷ xs)
    go h true = omega (arith, h)
    go h false = omega (arith, h)

-- where a filter keeps all, it keeps the first
filter-head : (p : ℕ → Bool) (x : ℕ) (xs : List ℕ) → filter p (x ∷ xs) ≡ x ∷ xs → p x ≡ true
filter-head p x xs all = go (p x) refl all
  where
    go : (b : Bool) → p x ≡ b → (if b then x ∷ filter p xs else filter p xs) ≡ x ∷ xs → p x ≡ true
    go true so all = so
    go false other all =
        let few = few-filter p xs in
        let long : length (filter p xs) ≡ length (x ∷ xs) = ap length all in
        absurd (omega (arith, few, long))

pub head-held : (g : Geometry) (leases : ℕ → Hold) (items : List BlockNo) (d : BlockNo) → 0 < length (numbers items) →
    held_hand g leases (numbers items) ≡ numbers items → is_held (leases (extent_of g (get_or items 0 d).0)) ≡ true
head-held g leases [] d z held = absurd (omega (arith, z))
head-held g leases (block ∷ items) d some held = filter-head (λ block. is_held (leases (extent_of g block))) block.0 (numbers items) held

pub held-some : (o : Option (Held Extent)) → is_held (extent_hold o) ≡ true → IsSome o
held-some None z = let P : ⊥ = cc in absurd P
held-some (Some held) is = refl

abbrev tail_of : List ℕ → List ℕ
tail_of [] = []
tail_of (y ∷ ys) = ys

-- where a filter keeps all, it keeps all the others
filter-tail : (p : ℕ → Bool) (x : ℕ) (xs : List ℕ) → filter p (x ∷ xs) ≡ x ∷ xs → filter p xs ≡ xs
filter-tail p x xs all = ap tail_of (sym (ap (λ b. if b then x ∷ filter p xs else filter p xs) (filter-head p x xs all)) ∙ all)

-- an extent of which a block is in hand has its lease held
pub in-hand-held : (g : Geometry) (leases : ℕ → Hold) (extent : ℕ) (hand : List ℕ) → held_hand g leases hand ≡ hand → has_any (in_extent g extent hand) ≡ true →
    is_held (leases extent) ≡ true
in-hand-held g leases extent [] held z = let P : ⊥ = cc in absurd P
in-hand-held g leases extent (block ∷ hand) held some =
    let p : ℕ → Bool = λ block. is_held (leases (extent_of g block)) in
    let later = in-hand-held g leases extent hand (filter-tail p block hand held) in
    elim (eqb_tells (extent_of g block) extent) [
      | inl same ↦ ap (λ e. is_held (leases e)) (sym same.1) ∙ filter-head p block hand held
      | inr apart ↦ later (ap (λ b. has_any (if b then block ∷ in_extent g extent hand else in_extent g extent hand)) (sym apart.0) ∙ some)
    ]
