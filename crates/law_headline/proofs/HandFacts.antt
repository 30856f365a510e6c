-- What a boot has in hand is no map's block, and a map's block that it read last spells a map.
use Rattle.std.proofs.Common.{◌≡◌, ◌≢◌, ℕ, suc, ◌+◌, ◌*◌, ◌≤◌, ◌<◌, ◌⊎◌, inl, inr, List, [], ◌∷◌, ◌++◌, length, Bool, true, false, Option, Some, None, refl, sym, subst, ◌∙◌, arith}
use Rattle.std.specs.Prelude.{filter, not, ◌&&◌, ◌==◌, if◌then◌else◌, slice_get}
use Rattle.std.proofs.lemmas.Bool.Decides.{eqb_tells, leb_tells}
use Rattle.plx_base.proofs.Tests.{eqb-false, or-parts}
use Rattle.plx_base.specs.declared.write_kind.WriteKind.{WriteKind}
use Rattle.plx_base.specs.declared.write_kind.WriteKind.TheVariants as kind
use Rattle.plx_commands.specs.Replies.{is_in}
use Rattle.plx_extent.specs.Maps.{IsMap, HoldsMap, bits_of}
use Rattle.plx_geom.proofs.Places.{product-high}
use Rattle.plx_geom.specs.Geometry.{Geometry, IsGeometry, map_at}
use Rattle.plx_rules.specs.Boot.{Configuration}
use Rattle.plx_rules.specs.Hands.{set_since, hand_written, hand_from, hand_unlinked}
use Rattle.plx_rules.specs.Rests.{filled_blocks}
use Rattle.law_lease.proofs.Leased.{IsPlaced}

-- none of these blocks is a map's
abbrev pub NoMap : Geometry → List ℕ → Type 0
NoMap g blocks = (extent : ℕ) → extent < g.extents → is_in (map_at g extent) blocks ≡ false

-- a map's block that was read spells a map
abbrev pub FoundMap : Geometry → Option (ℕ × List ℕ) → Type 0
FoundMap g None = Unit {0}
FoundMap g (Some found) = (extent : ℕ) → extent < g.extents → found.0 ≡ map_at g extent → HoldsMap g.extent_blocks found.1

-- so is the hand of a configuration
pub record HandFits (g : Geometry) (p : Configuration) : Type 0 where
  pub hand : NoMap g p.hand
  pub found : FoundMap g p.found

-- ---- lists of blocks

pub out-filter : (test : ℕ → Bool) (b : ℕ) (blocks : List ℕ) → is_in b blocks ≡ false → is_in b (filter test blocks) ≡ false
out-filter test b [] e = refl
out-filter test b (block ∷ blocks) e =
    let out = or-parts (b == block) (is_in b blocks) e in
    by_test (test block) out.0 (out-filter test b blocks out.1)
  where
    by_test : (t : Bool) → (b == block) ≡ false → is_in b (filter test blocks) ≡ false → is_in b (if t then block ∷ filter test blocks else filter test blocks) ≡ false
    by_test true first later = rw (first, later) refl
    by_test false first later = later

out-both : (b : ℕ) (some more : List ℕ) → is_in b some ≡ false → is_in b more ≡ false → is_in b (some ++ more) ≡ false
out-both b [] more e f = f
out-both b (block ∷ some) more e f = let out = or-parts (b == block) (is_in b some) e in rw (out.0, out-both b some more out.1 f) refl

pub no-map-filter : (g : Geometry) (test : ℕ → Bool) (blocks : List ℕ) → NoMap g blocks → NoMap g (filter test blocks)
no-map-filter g test blocks none extent below = out-filter test (map_at g extent) blocks (none extent below)

-- a link takes blocks out alone
pub no-map-unlinked : (g : Geometry) (k : WriteKind) (filled : List (ℕ × List ℕ)) (blocks : List ℕ) → NoMap g blocks → NoMap g (hand_unlinked k filled blocks)
no-map-unlinked g kind.Link filled blocks none = no-map-filter g (λ b. not (is_in b (filled_blocks filled))) blocks none
no-map-unlinked g kind.Record filled blocks none = no-map-filter g (λ b. not (is_in b (filled_blocks filled))) blocks none
no-map-unlinked g other filled blocks none = none

-- ---- bits that were set

-- a block before them or past them isn't among them
since-out : (b block : ℕ) (old new : List Bool) → (b < block) ⊎ (block + length old ≤ b) → is_in b (set_since block old new) ≡ false
since-out b block [] new away = refl
since-out b block (was ∷ old) [] away = refl
since-out b block (was ∷ old) (is ∷ new) away =
    by_test (is && not was) (since-out b (block + 1) old new (elim away [ inl before ↦ inl (omega (arith, before)) | inr past ↦ inr (omega (arith, past)) ]))
  where
    ne : b ≢ block
    ne e = elim away [ inl before ↦ omega (arith, before, e) | inr past ↦ omega (arith, past, e) ]

    by_test : (t : Bool) → is_in b (set_since (block + 1) old new) ≡ false → is_in b (if t then block ∷ set_since (block + 1) old new else set_since (block + 1) old new) ≡ false
    by_test true later = rw (eqb-false b block ne, later) refl
    by_test false later = later

-- nor is the first, where its bit was set before
since-own : (block : ℕ) (old new : List Bool) → slice_get old 0 ≡ Some true → is_in block (set_since block old new) ≡ false
since-own block [] new own = refl
since-own block (was ∷ old) [] own = refl
since-own block (was ∷ old) (is ∷ new) own =
    let set : was ≡ true = cc in
    let P : Bool → Type 0 = λ t. is_in block (if t then block ∷ set_since (block + 1) old new else set_since (block + 1) old new) ≡ false in
    let clear : (is && not was) ≡ false = none-set is was set in
    subst P (sym clear) (since-out block (block + 1) old new (inl (omega arith)))
  where
    none-set : (x y : Bool) → y ≡ true → (x && not y) ≡ false
    none-set true y e = rw e refl
    none-set false y e = refl

-- the map of another extent is none of an extent's blocks
map-apart : (g : Geometry) (d e : ℕ) → 1 ≤ g.extent_blocks → d ≢ e → (map_at g d < map_at g e) ⊎ (map_at g e + g.extent_blocks ≤ map_at g d)
map-apart g d e some ne = elim (leb_tells (suc d) e) [
  | inl before ↦ inl (let p = before-other d e before.1 in omega (arith, p, some))
  | inr past ↦ inr (let p = before-other e d (omega (arith, past.1, ne)) in omega (arith, p))
]
  where
    before-other : (j k : ℕ) → j < k → j * g.extent_blocks + g.extent_blocks ≤ k * g.extent_blocks
    before-other j k less =
        let p : (j + 1) * g.extent_blocks ≤ k * g.extent_blocks = product-high (j + 1) k g.extent_blocks g.extent_blocks (omega (arith, less)) (omega arith) in
        omega (arith, p)

-- what a write of a map sets is no map's block
since-no-map : (g : Geometry) (extent : ℕ) (old new : List Bool) → IsMap g.extent_blocks old → 1 ≤ g.extent_blocks → NoMap g (set_since (map_at g extent) old new)
since-no-map g extent old new is some other below = elim (eqb_tells other extent) [
  | inl same ↦ (let P : ℕ → Type 0 = λ e. is_in (map_at g e) (set_since (map_at g extent) old new) ≡ false in subst P (sym same.1) (since-own (map_at g extent) old new is.own))
  | inr away ↦ since-out (map_at g other) (map_at g extent) old new (let long = is.long in elim (map-apart g other extent some away.1) [ inl before ↦ inl before | inr past ↦ inr (omega (arith, past, long)) ])
]

-- ---- the hand

-- what a map's write leaves in hand
pub hand-done : (g : Geometry) (geometry : IsGeometry g) (what : WriteKind) (block : ℕ) (bytes rests : List ℕ) → IsPlaced g what block bytes rests → (found : Option (ℕ × List ℕ)) → FoundMap g found →
    (hand : List ℕ) → NoMap g hand → NoMap g (hand_from g found what block bytes hand)
hand-done g geometry what block bytes rests placed None fits hand none = none
hand-done g geometry what block bytes rests placed (Some found) fits hand none = elim (eqb_tells found.0 block) [
  | inl same ↦ (let P : Bool → Type 0 = λ t. NoMap g (if t then hand_written what block (bits_of g.extent_blocks found.1) (bits_of g.extent_blocks bytes) hand else hand) in subst P (sym same.0) (by_kind what placed same.1))
  | inr away ↦ (let P : Bool → Type 0 = λ t. NoMap g (if t then hand_written what block (bits_of g.extent_blocks found.1) (bits_of g.extent_blocks bytes) hand else hand) in subst P (sym away.0) none)
]
  where
    by_kind : (k : WriteKind) → IsPlaced g k block bytes rests → found.0 ≡ block → NoMap g (hand_written k block (bits_of g.extent_blocks found.1) (bits_of g.extent_blocks bytes) hand)
    by_kind kind.Take placed same = λ other below.
        let holds = fits placed.0 placed.1 (same ∙ placed.2) in
        let low = geometry.blocks_low in
        let P : ℕ → Type 0 = λ b. NoMap g (set_since b (bits_of g.extent_blocks found.1) (bits_of g.extent_blocks bytes)) in
        let set = subst P (sym placed.2) (since-no-map g placed.0 (bits_of g.extent_blocks found.1) (bits_of g.extent_blocks bytes) holds.is (omega (arith, low))) in
        out-both (map_at g other) hand (set_since block (bits_of g.extent_blocks found.1) (bits_of g.extent_blocks bytes)) (none other below) (set other below)
    by_kind kind.Give placed same = no-map-filter g _ hand none
    by_kind other placed same = none
