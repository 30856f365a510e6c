-- Blocks in lists: those that pass a test, and those whose bits were set.
use Rattle.std.proofs.Common.{◌≡◌, ℕ, zero, suc, ◌+◌, ◌-◌, ◌*◌, ◌/◌, ◌%◌, ◌≤◌, ◌<◌, ◌⊎◌, inl, inr, List, [], ◌∷◌, ◌++◌, Bool, true, false, refl, ap, sym, subst, ◌∙◌, arith, length, get_or}
use Rattle.std.specs.Prelude.{◌||◌, ◌&&◌, not, filter, if◌then◌else◌}
use Rattle.std.proofs.lemmas.Bool.Decides.{eqb_tells}
use Rattle.std.proofs.lemmas.Nat.{div-mul-add, div-add-mod'}
use Rattle.std.proofs.Math.Nat.{mod-lt}
use Rattle.plx_base.specs.declared.write_kind.WriteKind.{WriteKind}
use Rattle.plx_base.specs.declared.write_kind.WriteKind.TheVariants as kind
use Rattle.plx_commands.specs.Replies.{is_in}
use Rattle.plx_geom.specs.Geometry.{Geometry, extents_start, map_at}
use Rattle.plx_rules.specs.Hands.{hand_unlinked, set_since}
use Rattle.plx_rules.specs.Rests.{extent_of, filled_blocks}

-- an element of a list is its first or one of the others
in-cons : (block first : ℕ) (others : List ℕ) → is_in block (first ∷ others) ≡ true → (block ≡ first) ⊎ (is_in block others ≡ true)
in-cons block first others is = elim (eqb_tells block first) [
  | inl same ↦ inl same.1
  | inr away ↦ inr (subst (λ (b : Bool). (b || is_in block others) ≡ true) away.0 is)
]

in-first : (block first : ℕ) (others : List ℕ) → block ≡ first → is_in block (first ∷ others) ≡ true
in-first block first others same = elim (eqb_tells block first) [ inl is ↦ rw is.0 refl | inr away ↦ absurd (away.1 same) ]

in-later : (block first : ℕ) (others : List ℕ) → is_in block others ≡ true → is_in block (first ∷ others) ≡ true
in-later block first others is = elim (eqb_tells block first) [ inl same ↦ rw same.0 refl | inr away ↦ rw away.0 is ]

-- what passes a test is in the list, and passes
pub in-filter : (test : ℕ → Bool) (block : ℕ) (blocks : List ℕ) → is_in block (filter test blocks) ≡ true → (is_in block blocks ≡ true) × (test block ≡ true)
in-filter test block [] is = absurd (let P : ⊥ = cc in P)
in-filter test block (first ∷ others) is = by_test (test first) refl (in-filter test block others) is
  where
    by_test : (passes : Bool) → test first ≡ passes → (is_in block (filter test others) ≡ true → (is_in block others ≡ true) × (test block ≡ true)) →
        is_in block (if passes then first ∷ filter test others else filter test others) ≡ true → (is_in block (first ∷ others) ≡ true) × (test block ≡ true)
    by_test true e rest is' = elim (in-cons block first (filter test others) is') [
      | inl same ↦ (in-first block first others same, ap test same ∙ e)
      | inr later ↦ (in-later block first others (rest later).0, (rest later).1)
    ]
    by_test false e rest is' = (in-later block first others (rest is').0, (rest is').1)

-- and what is in the list and passes is among those
pub filter-in : (test : ℕ → Bool) (block : ℕ) (blocks : List ℕ) → is_in block blocks ≡ true → test block ≡ true → is_in block (filter test blocks) ≡ true
filter-in test block [] is passes = is
filter-in test block (first ∷ others) is passes = by_test (test first) refl (in-cons block first others is) (λ later. filter-in test block others later passes)
  where
    by_test : (t : Bool) → test first ≡ t → (block ≡ first) ⊎ (is_in block others ≡ true) → (is_in block others ≡ true → is_in block (filter test others) ≡ true) →
        is_in block (if t then first ∷ filter test others else filter test others) ≡ true
    by_test true e (inl same) rest = in-first block first (filter test others) same
    by_test true e (inr later) rest = in-later block first (filter test others) (rest later)
    by_test false e (inl same) rest = absurd (let f : true ≡ false = sym passes ∙ (ap test same ∙ e) in let P : ⊥ = cc in P)
    by_test false e (inr later) rest = rest later

-- what stays in hand was in hand
pub unlinked-in : (k : WriteKind) (filled : List (ℕ × List ℕ)) (hand : List ℕ) (block : ℕ) → is_in block (hand_unlinked k filled hand) ≡ true → is_in block hand ≡ true
unlinked-in kind.Link filled hand block is = (in-filter (λ b. not (is_in b (filled_blocks filled))) block hand is).0
unlinked-in kind.Record filled hand block is = (in-filter (λ b. not (is_in b (filled_blocks filled))) block hand is).0
unlinked-in other filled hand block is = is

-- an element of a list is in a longer one
pub append-in : (block : ℕ) (one other : List ℕ) → is_in block other ≡ true → is_in block (one ++ other) ≡ true
append-in block [] other is = is
append-in block (first ∷ others) other is = in-later block first (others ++ other) (append-in block others other is)

-- an element of two lists together is in one of them
pub in-append : (block : ℕ) (one other : List ℕ) → is_in block (one ++ other) ≡ true → (is_in block one ≡ true) ⊎ (is_in block other ≡ true)
in-append block [] other is = inr is
in-append block (first ∷ others) other is = elim (in-cons block first (others ++ other) is) [
  | inl same ↦ inl (in-first block first others same)
  | inr later ↦ elim (in-append block others other later) [ inl left ↦ inl (in-later block first others left) | inr right ↦ inr right ]
]

-- a block whose bit became set has its bit set
pub since-set : (block from : ℕ) (old new : List Bool) → is_in block (set_since from old new) ≡ true →
    (i : ℕ) × (block ≡ from + i) × (i < length old) × (get_or new i false ≡ true)
since-set block from [] new is = absurd (let P : ⊥ = cc in P)
since-set block from (was ∷ old) [] is = absurd (let P : ⊥ = cc in P)
since-set block from (was ∷ old) (now ∷ new) is = by_bits was now (since-set block (from + 1) old new) is
  where
    later : ((i : ℕ) × (block ≡ from + 1 + i) × (i < length old) × (get_or new i false ≡ true)) → (bit : Bool) (was' : Bool) →
        (i : ℕ) × (block ≡ from + i) × (i < length (was' ∷ old)) × (get_or (bit ∷ new) i false ≡ true)
    later found bit was' = (suc found.0, omega (arith, found.1), omega (arith, found.2), found.3)

    by_bits : (a b : Bool) → (is_in block (set_since (from + 1) old new) ≡ true → (i : ℕ) × (block ≡ from + 1 + i) × (i < length old) × (get_or new i false ≡ true)) →
        is_in block (if b && not a then from ∷ set_since (from + 1) old new else set_since (from + 1) old new) ≡ true →
        (i : ℕ) × (block ≡ from + i) × (i < length (a ∷ old)) × (get_or (b ∷ new) i false ≡ true)
    by_bits false true rest is' = elim (in-cons block from (set_since (from + 1) old new) is') [
      | inl same ↦ (0, omega (arith, same), omega arith, refl)
      | inr more ↦ later (rest more) true false
    ]
    by_bits true true rest is' = later (rest is') true true
    by_bits false false rest is' = later (rest is') false false
    by_bits true false rest is' = later (rest is') false true

-- a block whose bit was clear and is set is among those
pub set-since : (from i : ℕ) (old new : List Bool) → i < length old → get_or old i false ≡ false → get_or new i false ≡ true → is_in (from + i) (set_since from old new) ≡ true
set-since from i [] new below was is = absurd (omega (arith, below))
set-since from i (was ∷ old) [] below clear is = absurd (let P : ⊥ = cc in P)
set-since from zero (was ∷ old) (now ∷ new) below clear is =
    let e : from + 0 ≡ from = omega arith in
    rw (clear, is) (in-first (from + 0) from (set_since (from + 1) old new) e)
set-since from (suc i) (was ∷ old) (now ∷ new) below clear is = by_bits was now (set-since (from + 1) i old new (omega (arith, below)) clear is)
  where
    moved : is_in (from + 1 + i) (set_since (from + 1) old new) ≡ true → is_in (from + suc i) (set_since (from + 1) old new) ≡ true
    moved there = let e : from + 1 + i ≡ from + suc i = omega arith in subst (λ (b : ℕ). is_in b (set_since (from + 1) old new) ≡ true) e there

    by_bits : (a b : Bool) → is_in (from + 1 + i) (set_since (from + 1) old new) ≡ true →
        is_in (from + suc i) (if b && not a then from ∷ set_since (from + 1) old new else set_since (from + 1) old new) ≡ true
    by_bits false true there = in-later (from + suc i) from (set_since (from + 1) old new) (moved there)
    by_bits true true there = moved there
    by_bits false false there = moved there
    by_bits true false there = moved there

-- ---- blocks of an extent

-- a block of an extent, past its map, has a bit of it
pub bit-below : (g : Geometry) (extent block : ℕ) → 1 ≤ g.extent_blocks → extent_of g block ≡ extent → map_at g extent ≤ block → block - map_at g extent < g.extent_blocks
bit-below g extent block some here past =
    let offset = block - extents_start g in
    let e : offset / g.extent_blocks * g.extent_blocks + offset % g.extent_blocks ≡ offset = div-add-mod' offset g.extent_blocks in
    let f : offset / g.extent_blocks * g.extent_blocks ≡ extent * g.extent_blocks = ap (λ n. n * g.extent_blocks) here in
    let r = mod-lt offset some in
    omega (arith, e, f, r, past)

-- a block at a bit of an extent's map lies in that extent
pub bit-extent : (g : Geometry) (extent i block : ℕ) → i < g.extent_blocks → block ≡ map_at g extent + i → extent_of g block ≡ extent
bit-extent g extent i block below here =
    let e : block - extents_start g ≡ extent * g.extent_blocks + i = omega (arith, here) in
    ap (λ n. n / g.extent_blocks) e ∙ div-mul-add extent g.extent_blocks i below
