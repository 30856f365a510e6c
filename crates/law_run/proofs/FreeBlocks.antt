-- The free blocks of a map, and what a take makes of it.
use Rattle.std.proofs.Common.{◌≡◌, ℕ, zero, suc, ◌+◌, ◌≤◌, ◌<◌, List, [], ◌∷◌, length, take, Bool, true, false, Some, None, refl, ap, sym, subst, ◌∙◌, arith, inl, inr, ◌⊎◌, get_or, slice_get}
use Rattle.std.specs.Prelude.{if◌then◌else◌, not, ◌&&◌, ◌||◌, ◌==◌}
use Rattle.std.specs.Str.{bytes_eq}
use Rattle.plx_base.proofs.Spelling.{read-only}
use Rattle.plx_base.proofs.Tests.{eqb-false}
use Rattle.plx_commands.specs.Replies.{is_in}
use Rattle.plx_extent.proofs.Maps.{length-bits_from}
use Rattle.plx_extent.specs.Maps.{IsMap, bits_of, map_bytes}
use Rattle.plx_rules.proofs.Maps.{set-own}
use Rattle.plx_rules.specs.Hands.{set_since}
use Rattle.plx_rules.specs.Space.{is_own_set, read_map, free_from, with_set}
use Rattle.law_run.proofs.Hands.{HasBlock, has-head, has-tail, has-parts}

-- ---- parts of a list

pub has-take : (k : ℕ) (xs : List ℕ) (b : ℕ) → HasBlock (take k xs) b → HasBlock xs b
has-take zero xs b has = absurd (let P : ⊥ = cc in P)
has-take (suc k) [] b has = absurd (let P : ⊥ = cc in P)
has-take (suc k) (x ∷ xs) b has = elim (has-parts b x (take k xs) has) [
  | inl same ↦ has-head b x xs same
  | inr there ↦ has-tail b x xs (has-take k xs b there)
]

-- where fewer are taken than were to be, all are
pub take-all : (k : ℕ) (xs : List ℕ) → length (take k xs) < k → take k xs ≡ xs
take-all zero xs few = absurd (omega (arith, few))
take-all (suc k) [] few = refl
take-all (suc k) (x ∷ xs) few = ap (λ (l : List ℕ). x ∷ l) (take-all k xs (omega (arith, few)))

-- where none are taken though some were to be, there are none
pub take-none : (k : ℕ) (xs : List ℕ) → 1 ≤ k → take k xs ≡ [] → xs ≡ []
take-none zero xs some none = absurd (omega (arith, some))
take-none (suc k) [] some none = refl
take-none (suc k) (x ∷ xs) some none = absurd (let P : ⊥ = cc in P)

-- ---- free blocks

in-free : (hand : List ℕ) (m : ℕ) (bit : Bool) (bits : List Bool) (b : ℕ) → HasBlock (free_from hand (m + 1) bits) b → HasBlock (free_from hand m (bit ∷ bits)) b
in-free hand m bit bits b has = by-test (bit || is_in m hand)
  where
    by-test : (test : Bool) → HasBlock (if test then free_from hand (m + 1) bits else m ∷ free_from hand (m + 1) bits) b
    by-test true = has
    by-test false = has-tail b m (free_from hand (m + 1) bits) has

free-processes : (hand : List ℕ) (m : ℕ) (bit : Bool) (bits : List Bool) (b : ℕ) → HasBlock (free_from hand m (bit ∷ bits)) b → (b ≡ m) ⊎ HasBlock (free_from hand (m + 1) bits) b
free-processes hand m bit bits b has = by-test (bit || is_in m hand) has
  where
    by-test : (test : Bool) → HasBlock (if test then free_from hand (m + 1) bits else m ∷ free_from hand (m + 1) bits) b → (b ≡ m) ⊎ HasBlock (free_from hand (m + 1) bits) b
    by-test true has' = inr has'
    by-test false has' = has-parts b m (free_from hand (m + 1) bits) has'

-- they stand for bits of the map
pub free-within : (hand : List ℕ) (m : ℕ) (bits : List Bool) (b : ℕ) → HasBlock (free_from hand m bits) b → (m ≤ b) × (b < m + length bits)
free-within hand m [] b has = absurd (let P : ⊥ = cc in P)
free-within hand m (bit ∷ bits) b has = elim (free-processes hand m bit bits b has) [
  | inl same ↦ (omega (arith, same), omega (arith, same))
  | inr there ↦ (let r = free-within hand (m + 1) bits b there in (omega (arith, r.0), omega (arith, r.1)))
]

-- with each of them in hand, and more bits set, none is free
pub free-none : (hand more set : List ℕ) (m : ℕ) (bits : List Bool) → ((b : ℕ) → HasBlock hand b → HasBlock more b) → ((b : ℕ) → HasBlock (free_from hand m bits) b → HasBlock more b) →
    free_from more m (with_set set m bits) ≡ []
free-none hand more set m [] old new = refl
free-none hand more set m (bit ∷ bits) old new =
    by-test ((bit || is_in m set) || is_in m more) (taken bit (is_in m hand) refl refl) (free-none hand more set (m + 1) bits old (λ b has. new b (in-free hand m bit bits b has)))
  where
    last : (a b : Bool) → b ≡ true → (a || b) ≡ true
    last true b is = refl
    last false b is = is

    taken : (a c : Bool) → bit ≡ a → is_in m hand ≡ c → ((bit || is_in m set) || is_in m more) ≡ true
    taken true c is in_hand = rw is refl
    taken false true is in_hand = last (bit || is_in m set) (is_in m more) (old m in_hand)
    taken false false is in_hand =
        last (bit || is_in m set) (is_in m more)
        (new m (subst (λ (t : Bool). HasBlock (if t then free_from hand (m + 1) bits else m ∷ free_from hand (m + 1) bits) m) (sym (let e : (bit || is_in m hand) ≡ false = rw (is, in_hand) refl in e))
        (has-head m m (free_from hand (m + 1) bits) refl)))

    by-test : (test : Bool) → test ≡ true → free_from more (m + 1) (with_set set (m + 1) bits) ≡ [] →
        (if test then free_from more (m + 1) (with_set set (m + 1) bits) else m ∷ free_from more (m + 1) (with_set set (m + 1) bits)) ≡ []
    by-test true is rest = rest
    by-test false is rest = absurd (let P : ⊥ = cc in P)

-- where none is free, none is with more in hand
pub free-fewer : (hand more : List ℕ) (m : ℕ) (bits : List Bool) → ((b : ℕ) → HasBlock hand b → HasBlock more b) → free_from hand m bits ≡ [] → free_from more m bits ≡ []
free-fewer hand more m [] old none = refl
free-fewer hand more m (bit ∷ bits) old none = by-test (bit || is_in m hand) refl none (λ rest. free-fewer hand more (m + 1) bits old rest)
  where
    set : (a : Bool) → bit ≡ a → (bit || is_in m hand) ≡ true → (bit || is_in m more) ≡ true
    set true is passed = rw is refl
    set false is passed =
        let there : is_in m hand ≡ true = subst (λ (b : Bool). (b || is_in m hand) ≡ true) is passed in
        let there' = old m there in rw (is, there') refl

    by-test : (test : Bool) → (bit || is_in m hand) ≡ test → (if test then free_from hand (m + 1) bits else m ∷ free_from hand (m + 1) bits) ≡ [] →
        (free_from hand (m + 1) bits ≡ [] → free_from more (m + 1) bits ≡ []) → free_from more m (bit ∷ bits) ≡ []
    by-test true is none' rest = let e = set bit refl is in rw e (rest none')
    by-test false is none' rest = absurd (let P : ⊥ = cc in P)

-- ---- a take

-- a block before a map sets no bit of it
with-set-past : (m : ℕ) (set : List ℕ) (n : ℕ) (bits : List Bool) → m < n → with_set (m ∷ set) n bits ≡ with_set set n bits
with-set-past m set n [] below = refl
with-set-past m set n (bit ∷ bits) below =
    let apart : (n == m) ≡ false = eqb-false n m (λ e. omega (arith, below, e)) in
    rw apart (ap (λ (l : List Bool). (bit || is_in n set) ∷ l) (with-set-past m set (n + 1) bits (omega (arith, below))))

-- the bits that a take sets are those of the blocks that it takes
pub set-taken : (hand : List ℕ) (k m : ℕ) (bits : List Bool) → set_since m bits (with_set (take k (free_from hand m bits)) m bits) ≡ take k (free_from hand m bits)
set-taken hand zero m [] = refl
set-taken hand (suc k) m [] = refl
set-taken hand k m (bit ∷ bits) = by-test (bit || is_in m hand) refl k (λ k'. set-taken hand k' (m + 1) bits)
  where
    rest : List ℕ
    rest = free_from hand (m + 1) bits

    unset : (b c : Bool) → c ≡ false → ((b || c) && not b) ≡ false
    unset true c none = refl
    unset false c none = rw none refl

    absent : (j : ℕ) (c : Bool) → is_in m (take j rest) ≡ c → is_in m (take j rest) ≡ false
    absent j true is = absurd (let r = free-within hand (m + 1) bits m (has-take j rest m is) in omega (arith, r.0))
    absent j false is = is

    free-bit : (b : Bool) → (b || is_in m hand) ≡ false → b ≡ false
    free-bit true none = absurd (let P : ⊥ = cc in P)
    free-bit false none = refl

    by-test : (test : Bool) → (bit || is_in m hand) ≡ test → (j : ℕ) → ((k' : ℕ) → set_since (m + 1) bits (with_set (take k' rest) (m + 1) bits) ≡ take k' rest) →
        set_since m (bit ∷ bits) (with_set (take j (if test then rest else m ∷ rest)) m (bit ∷ bits)) ≡ take j (if test then rest else m ∷ rest)
    by-test true is j ih = let e = unset bit (is_in m (take j rest)) (absent j (is_in m (take j rest)) refl) in rw e (ih j)
    by-test false is zero ih = let e = unset bit false refl in rw e (ih zero)
    by-test false is (suc j) ih =
        let f = free-bit bit is in
        let e : ((bit || is_in m (m ∷ take j rest)) && not bit) ≡ true = rw (f, has-head m m (take j rest) refl) refl in
        rw e (ap (λ (l : List ℕ). m ∷ l) (ap (set_since (m + 1) bits) (with-set-past m (take j rest) (m + 1) bits (omega arith)) ∙ ih j))

-- ---- a map that was read

-- its bits are those of the block
pub map-bits : (blocks : ℕ) (bytes : List ℕ) (bits : List Bool) → read_map blocks bytes ≡ Some bits → bits ≡ bits_of blocks bytes
unfolding read_map
map-bits blocks bytes bits is = by-test (is_own_set (bits_of blocks bytes) && bytes_eq bytes (map_bytes (bits_of blocks bytes))) is
  where
    by-test : (test : Bool) → (if test then Some (bits_of blocks bytes) else None) ≡ Some bits → bits ≡ bits_of blocks bytes
    by-test true is' = cc
    by-test false is' = absurd (let P : ⊥ = cc in P)

-- and they are a map
pub map-is : (blocks : ℕ) (bytes : List ℕ) (bits : List Bool) → read_map blocks bytes ≡ Some bits → IsMap blocks bits
unfolding read_map
map-is blocks bytes bits is =
    let x = read-only is_own_set map_bytes (bits_of blocks bytes) bits bytes is in
    record { long = ap (λ (b : List Bool). length b) (sym x.2) ∙ length-bits_from blocks 0 bytes; own = set-own bits x.0 }

-- the bit of its own block is set
pub own-read : (blocks : ℕ) (bytes : List ℕ) (bits : List Bool) → read_map blocks bytes ≡ Some bits → get_or (bits_of blocks bytes) 0 false ≡ true
own-read blocks bytes bits is =
    subst (λ (b : List Bool). get_or b 0 false ≡ true) (map-bits blocks bytes bits is) (first-is bits (map-is blocks bytes bits is).own)
  where
    first-is : (b : List Bool) → slice_get b 0 ≡ Some true → get_or b 0 false ≡ true
    first-is [] e = absurd (let P : ⊥ = cc in P)
    first-is (bit ∷ b) e = cc

-- a block whose bit became set had it clear
pub since-clear : (block from : ℕ) (old new : List Bool) → HasBlock (set_since from old new) block → (i : ℕ) × (block ≡ from + i) × (i < length old) × (get_or old i false ≡ false)
since-clear block from [] new is = absurd (let P : ⊥ = cc in P)
since-clear block from (was ∷ old) [] is = absurd (let P : ⊥ = cc in P)
since-clear block from (was ∷ old) (now ∷ new) is = by-bits was now (since-clear block (from + 1) old new) is
  where
    later : ((i : ℕ) × (block ≡ from + 1 + i) × (i < length old) × (get_or old i false ≡ false)) → (x : Bool) → (i : ℕ) × (block ≡ from + i) × (i < length (x ∷ old)) × (get_or (x ∷ old) i false ≡ false)
    later found x = (suc found.0, omega (arith, found.1), omega (arith, found.2), found.3)

    by-bits : (a b : Bool) → (HasBlock (set_since (from + 1) old new) block → (i : ℕ) × (block ≡ from + 1 + i) × (i < length old) × (get_or old i false ≡ false)) →
        HasBlock (if b && not a then from ∷ set_since (from + 1) old new else set_since (from + 1) old new) block → (i : ℕ) × (block ≡ from + i) × (i < length (a ∷ old)) × (get_or (a ∷ old) i false ≡ false)
    by-bits false true rest is' = elim (has-parts block from (set_since (from + 1) old new) is') [
      | inl first ↦ (0, omega (arith, first), omega arith, refl)
      | inr more ↦ later (rest more) false
    ]
    by-bits true true rest is' = later (rest is') true
    by-bits false false rest is' = later (rest is') false
    by-bits true false rest is' = later (rest is') true
