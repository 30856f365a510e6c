-- The words of a world line, one after another.
use Rattle.std.proofs.Common.{◌≡◌, ◌<◌, ◌^◌, ℕ, List, [], ◌∷◌, codes, decimal, Option, Some, None, arith, subst}
use Rattle.std.specs.Prelude.{IfSome}
use Rattle.plx_geom.specs.Geometry.{Geometry, IsGeometry, geometry_of}
use Rattle.plx_words.proofs.Once.{one-value}
use Rattle.plx_text.proofs.Found.{world-found, world-spelled}
use Rattle.plx_text.specs.Schedules.{SpellsWorld, world_of}

-- where nothing is spelled, the candidate isn't
pub none-of : {A : Type 0} (P : A → Type 0) (candidate : Option A) → ((a : A) → ¬ P a) → IfSome candidate (λ a. ¬ P a)
none-of P None none = tt
none-of P (Some a) none = none a

-- what follows three words, and four
pub after-three : (words one two three more : List (List ℕ)) (a b c x y z : List ℕ) → words ≡ a ∷ one → one ≡ b ∷ two → two ≡ c ∷ three → words ≡ x ∷ y ∷ z ∷ more
    → three ≡ more
after-three words one two three more a b c x y z first second third same = cc

pub after-four : (words one two three four more : List (List ℕ)) (a b c d x y z u : List ℕ) → words ≡ a ∷ one → one ≡ b ∷ two → two ≡ c ∷ three → three ≡ d ∷ four
    → words ≡ x ∷ y ∷ z ∷ u ∷ more → four ≡ more
after-four words one two three four more a b c d x y z u first second third fourth same = cc

pub six-words : (words one two three four five : List (List ℕ)) (a b c d e f : List ℕ) → words ≡ a ∷ one → one ≡ b ∷ two → two ≡ c ∷ three → three ≡ d ∷ four
    → four ≡ e ∷ five → five ≡ f ∷ [] → words ≡ a ∷ b ∷ c ∷ d ∷ e ∷ f ∷ []
six-words words one two three four five a b c d e f first second third fourth fifth sixth = cc

-- a geometry that is spelled is within its limits
world-limits : (world : Geometry × ℕ) (words : List (List ℕ)) → SpellsWorld world words → IsGeometry world.0
world-limits world words spells = record {
  images_low = spells.0.1.0.0;
  images_high = omega (arith, spells.0.1.0.1);
  extents_low = spells.0.1.1.0.0;
  extents_high = omega (arith, spells.0.1.1.0.1);
  blocks_low = spells.0.1.1.1.0.0;
  blocks_high = omega (arith, spells.0.1.1.1.0.1);
  slots_low = spells.0.1.1.1.1.0.0;
  slots_high = omega (arith, spells.0.1.1.1.1.0.1);
}

-- and so is that of its numbers
pub geometry-spelled : (world : Geometry × ℕ) (words : List (List ℕ)) (images extents blocks slots appliances : ℕ) → images < 2 ^ 32 → extents < 2 ^ 32 → blocks < 2 ^ 32 → slots < 2 ^ 32
    → appliances < 2 ^ 64 → words ≡ codes "world" ∷ decimal images ∷ decimal extents ∷ decimal blocks ∷ decimal slots ∷ decimal appliances ∷ [] → SpellsWorld world words
    → IsGeometry (geometry_of images extents blocks slots)
geometry-spelled world words images extents blocks slots appliances few some many enough low are spells =
    let same = one-value (world_of words) world (geometry_of images extents blocks slots, appliances) (world-spelled world words spells)
    (world-found (geometry_of images extents blocks slots, appliances) words ((tt, (omega arith, (omega arith, (omega arith, (omega arith, (omega arith, tt)))))), are)) in
    subst (λ (w : Geometry × ℕ). IsGeometry w.0) same (world-limits world words spells)
