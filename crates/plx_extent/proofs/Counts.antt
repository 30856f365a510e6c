-- How many bits of a map are set.
use Rattle.std.proofs.Common.{◌≡◌, ℕ, zero, suc, ◌+◌, ◌-◌, ◌≤◌, List, [], ◌∷◌, ◌++◌, refl, ap, sym, ◌∙◌, arith, Bool, true, false}
use Rattle.std.specs.Prelude.{◌&&◌, count_by, if◌then◌else◌}
use Rattle.std.proofs.lemmas.List.Sums.{sum_by-cons, sum_by-append}
use Rattle.plx_extent.specs.Maps.{HoldsMap, IsMap, allocated_count, bit_of, bits_from, bits_of, kept_map, kept_bits, is_kept}
use Rattle.plx_extent.proofs.Maps.{bits_from-add, past-clear}

-- ---- how many bits are set

-- how many bits are set
abbrev pub set_count : List Bool → ℕ
set_count bits = count_by (λ bit. bit) bits

pub set_count-cons : (b : Bool) (bits : List Bool) → set_count (b ∷ bits) ≡ (if b then 1 else 0) + set_count bits
set_count-cons b bits = sum_by-cons (λ x. if x then 1 else 0) b bits

pub set_count-append : (xs ys : List Bool) → set_count (xs ++ ys) ≡ set_count xs + set_count ys
set_count-append xs ys = sum_by-append (λ x. if x then 1 else 0) xs ys

-- no more stay set than were
set_count-kept_bits : (marked : ℕ → Bool) (from : ℕ) (bits : List Bool) → set_count (kept_bits marked from bits) ≤ set_count bits
unfolding kept_bits
set_count-kept_bits marked from [] = omega arith
set_count-kept_bits marked from (bit ∷ bits) =
    let ih = set_count-kept_bits marked (suc from) bits in
    rw (set_count-cons (bit && is_kept marked from) (kept_bits marked (suc from) bits), set_count-cons bit bits) (go bit (is_kept marked from) ih)
  where
    go : (a b : Bool) → set_count (kept_bits marked (suc from) bits) ≤ set_count bits →
        (if a && b then 1 else 0) + set_count (kept_bits marked (suc from) bits) ≤ (if a then 1 else 0) + set_count bits
    go true true ih = omega arith
    go true false ih = omega arith
    go false b ih = omega arith

pub allocated_count-kept_map : (marked : ℕ → Bool) (bits : List Bool) → allocated_count (kept_map marked bits) ≤ allocated_count bits
unfolding kept_bits
allocated_count-kept_map marked [] = omega arith
allocated_count-kept_map marked (own ∷ bits) = set_count-kept_bits marked 1 bits

-- a map's own bit is set
pub set_count-map : (blocks : ℕ) (bits : List Bool) → IsMap blocks bits → set_count bits ≡ 1 + allocated_count bits
set_count-map blocks [] h = let bad = h.own in cc
set_count-map blocks (true ∷ bits) h = set_count-cons true bits
set_count-map blocks (false ∷ bits) h = let bad = h.own in cc

-- clear bits count nothing
set_count-clear : (n from : ℕ) (bytes : List ℕ) → ((i : ℕ) → from ≤ i → bit_of bytes i ≡ false) → set_count (bits_from n from bytes) ≡ 0
unfolding bits_from
set_count-clear zero from bytes h = refl
set_count-clear (suc n) from bytes h =
    set_count-cons (bit_of bytes from) (bits_from n (suc from) bytes)
    ∙ rw (h from (omega arith), set_count-clear n (suc from) bytes (λ i low. h i (omega arith))) refl

-- past the extent none is set
pub set_count-all : (blocks : ℕ) (bytes : List ℕ) → HoldsMap blocks bytes → set_count (bits_of 32768 bytes) ≡ set_count (bits_of blocks bytes)
set_count-all blocks bytes h =
    let most = h.most in
    let e : blocks + (32768 - blocks) ≡ 32768 = omega arith in
    let f : 0 + blocks ≡ blocks = omega arith in
    let none = set_count-clear (32768 - blocks) blocks bytes (past-clear blocks (bits_of blocks bytes) bytes most h.is h.spelled) in
    ap (λ n. set_count (bits_of n bytes)) (sym e)
    ∙ (ap set_count (bits_from-add blocks (32768 - blocks) 0 bytes ∙ ap (λ n. bits_of blocks bytes ++ bits_from (32768 - blocks) n bytes) f)
    ∙ (set_count-append (bits_of blocks bytes) (bits_from (32768 - blocks) blocks bytes) ∙ omega (arith, none)))
