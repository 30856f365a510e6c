-- An allocator keeps suiting a take.
use Rattle.std.proofs.Common.{◌≡◌, ◌≢◌, ◌<◌, ◌+◌, ◌*◌, ◌-◌, ◌%◌, ◌∙◌, ap, sym, refl, ℕ, suc, List, [], ◌∷◌, ◌++◌, length, get_or, Bool, true, false, Option, Some, None, inl, inr, arith}
use Rattle.std.specs.Prelude.{filter, if◌then◌else◌}
use Rattle.std.proofs.lemmas.Bool.Decides.{eqb_tells}
use Rattle.std.proofs.lemmas.List.Elements.{filter-append}
use Rattle.std.proofs.lemmas.Nat.{mod-mul-add}
use Rattle.law_run.proofs.Hands.{extent-found}
use Rattle.plx_base.specs.declared.lease.Claim.{Claim}
use Rattle.plx_base.specs.declared.numbers.BlockNo.{BlockNo}
use Rattle.plx_commands.proofs.Places.{at-other, at-same}
use Rattle.plx_commands.specs.Limits.{last_claim}
use Rattle.plx_commands.specs.Places.{at as with_hold}
use Rattle.plx_geom.proofs.Places.{row-below}
use Rattle.plx_geom.specs.Geometry.{Geometry, extents_start, map_at}
use Rattle.plx_rules.specs.Hands.{is_held}
use Rattle.plx_rules.specs.Holds.{Nothing, Held}
use Rattle.plx_rules.specs.Rests.{extent_of}
use Rattle.plx_token.specs.declared.held.Held.{Held as Token}
use Rattle.plx_token.specs.declared.kind.Extent.{Extent}
use Rattle.plx_alloc.specs.Pools.{IsInPool}
use Rattle.plx_alloc.specs.Tables.{HoldsHand, IsSame, hand_numbers, held_hand, extent_hold, extent_leases, next_number, numbers}
use Rattle.plx_alloc.proofs.Hands.{few-filter}
use Rattle.plx_alloc.specs.declared.allocator.Allocator.{Allocator}

pub numbers-length : (blocks : List BlockNo) → length (numbers blocks) ≡ length blocks
numbers-length [] = refl
numbers-length (block ∷ blocks) = ap suc (numbers-length blocks)

abbrev the_number : ℕ → Option ℕ → ℕ
the_number d None = d
the_number d (Some n) = n

abbrev pub tail_of : List ℕ → List ℕ
tail_of [] = []
tail_of (y ∷ ys) = ys

-- the number of the next claim
pub next-some : (claims number : ℕ) → Some number ≡ next_number claims → (number ≡ claims) × (claims ≢ last_claim)
next-some claims number is = elim (eqb_tells claims last_claim) [
  | inl same ↦ absurd (let f : Some number ≡ None = is ∙ ap (λ b. if b then None else Some claims) same.0 in let P : ⊥ = cc in P)
  | inr other ↦ (ap (the_number number) (is ∙ ap (λ b. if b then None else Some claims) other.0), other.1)
]

pub next-none : (claims : ℕ) → None ≡ next_number claims → claims ≡ last_claim
next-none claims is = elim (eqb_tells claims last_claim) [
  | inl same ↦ same.1
  | inr other ↦ absurd (let f : None ≡ Some claims = is ∙ ap (λ b. if b then None else Some claims) other.0 in let P : ⊥ = cc in P)
]

pub hold-none : (o : Option (Token Extent)) → extent_hold o ≡ Nothing → o ≡ None
hold-none None e = refl
hold-none (Some held) e = let P : ⊥ = cc in absurd P

-- ---- the hand

filter-more : (p q : ℕ → Bool) (xs : List ℕ) → ((x : ℕ) → p x ≡ true → q x ≡ true) → filter p xs ≡ xs → filter q xs ≡ xs
filter-more p q [] more all = refl
filter-more p q (x ∷ xs) more all = go (filter-more p q xs more) (p x) refl all
  where
    go : (filter p xs ≡ xs → filter q xs ≡ xs) → (b : Bool) → p x ≡ b → (if b then x ∷ filter p xs else filter p xs) ≡ x ∷ xs → filter q (x ∷ xs) ≡ x ∷ xs
    go later true so all =
        ap (λ b. if b then x ∷ filter q xs else filter q xs) (more x so) ∙ ap (λ ys. x ∷ ys) (later (ap tail_of all))
    go later false other all =
        let few = few-filter p xs in
        let long : length (filter p xs) ≡ length (x ∷ xs) = ap length all in
        absurd (omega (arith, few, long))

filter-all-numbers : (p : ℕ → Bool) (blocks : List BlockNo) → ((k : ℕ) (d : BlockNo) → k < length blocks → p (get_or blocks k d).0 ≡ true) → filter p (numbers blocks) ≡ numbers blocks
filter-all-numbers p [] all = refl
filter-all-numbers p (block ∷ blocks) all =
    ap (λ b. if b then block.0 ∷ filter p (numbers blocks) else filter p (numbers blocks)) (all 0 block (omega arith))
    ∙ ap (λ ys. block.0 ∷ ys) (filter-all-numbers p blocks (λ k d less. all (suc k) d (omega (arith, less))))

pub hand-same : (a b : Allocator) → IsSame a b → extent_leases b ≡ extent_leases a → hand_numbers b ≡ hand_numbers a → HoldsHand a → HoldsHand b
hand-same a b same leases hand h =
    ap (λ g. held_hand g (extent_leases b) (hand_numbers b)) same.geometry
    ∙ (ap (λ table. held_hand a.geometry table (hand_numbers b)) leases
    ∙ (ap (held_hand a.geometry (extent_leases a)) hand ∙ (h ∙ sym hand)))

-- one more lease is held
pub hand-held-more : (a b : Allocator) (extent : ℕ) (claim : Claim) (until : ℕ) → IsSame a b → extent_leases b ≡ with_hold (extent_leases a) extent (Held claim until) →
    hand_numbers b ≡ hand_numbers a → HoldsHand a → HoldsHand b
hand-held-more a b extent claim until same leases hand h =
    ap (λ g. held_hand g (extent_leases b) (hand_numbers b)) same.geometry
    ∙ (ap (λ table. held_hand a.geometry table (hand_numbers b)) leases
    ∙ (ap (held_hand a.geometry (with_hold (extent_leases a) extent (Held claim until))) hand
    ∙ (filter-more (λ block. is_held (extent_leases a (extent_of a.geometry block)))
    (λ block. is_held (with_hold (extent_leases a) extent (Held claim until) (extent_of a.geometry block))) (hand_numbers a) (λ block. there (extent_of a.geometry block)) h
    ∙ sym hand)))
  where
    there : (other : ℕ) → is_held (extent_leases a other) ≡ true → is_held (with_hold (extent_leases a) extent (Held claim until) other) ≡ true
    there other held = elim (eqb_tells other extent) [
      | inl same ↦ ap (λ k. is_held (with_hold (extent_leases a) extent (Held claim until) k)) same.1 ∙ ap is_held (at-same (extent_leases a) extent (Held claim until))
      | inr apart ↦ ap is_held (at-other (extent_leases a) extent other (Held claim until) apart.1) ∙ held
    ]

-- blocks of an extent whose lease is held came into it
pub hand-taken : (a b : Allocator) (extent : ℕ) (blocks : List BlockNo) → IsSame a b → extent_leases b ≡ extent_leases a → hand_numbers b ≡ hand_numbers a ++ numbers blocks →
    is_held (extent_leases a extent) ≡ true → ((k : ℕ) (d : BlockNo) → k < length blocks → extent_of a.geometry (get_or blocks k d).0 ≡ extent) → HoldsHand a → HoldsHand b
hand-taken a b extent blocks same leases hand held own h =
    let p : ℕ → Bool = λ block. is_held (extent_leases a (extent_of a.geometry block)) in
    ap (λ g. held_hand g (extent_leases b) (hand_numbers b)) same.geometry
    ∙ (ap (λ table. held_hand a.geometry table (hand_numbers b)) leases
    ∙ (ap (held_hand a.geometry (extent_leases a)) hand
    ∙ (filter-append p (hand_numbers a) (numbers blocks)
    ∙ (ap (λ front. front ++ filter p (numbers blocks)) h
    ∙ (ap (λ back. hand_numbers a ++ back) (filter-all-numbers p blocks (λ k d less. ap (λ e. is_held (extent_leases a e)) (own k d less) ∙ held))
    ∙ sym hand)))))

-- ---- blocks of an extent

pub between-extent : (g : Geometry) (extent block : ℕ) → map_at g extent < block → block < map_at g extent + g.extent_blocks → extent_of g block ≡ extent
between-extent g extent block low high = extent-found g extent block (omega (arith, low)) high

pub between-pool : (g : Geometry) (extent block : ℕ) → extent < g.extents → map_at g extent < block → block < map_at g extent + g.extent_blocks → IsInPool g block
between-pool g extent block within low high =
    let r : ℕ = block - map_at g extent in
    let less : r < g.extent_blocks = omega (arith, low, high) in
    let e : block - extents_start g ≡ extent * g.extent_blocks + r = omega (arith, low) in
    let below = row-below g.extents g.extent_blocks extent r within less in
    let m : (block - extents_start g) % g.extent_blocks ≡ r = ap (λ n. n % g.extent_blocks) e ∙ mod-mul-add extent g.extent_blocks r less in
    record { low = omega (arith, low); high = omega (arith, low, e, below); own = omega (arith, m, low) }
