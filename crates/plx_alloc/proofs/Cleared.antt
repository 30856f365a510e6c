-- Which blocks of an extent are given back: bit by bit.
use Rattle.std.proofs.Common.{◌≡◌, ◌≢◌, ◌<◌, ◌≤◌, ◌+◌, ◌*◌, ◌-◌, ◌%◌, ◌∙◌, ap, sym, refl, subst, ℕ, zero, suc, List, [], ◌∷◌, ◌++◌, length, take, get_or, Bool, true, false, inl, inr, arith}
use Rattle.std.specs.Prelude.{◌==◌, ◌||◌, ◌&&◌, not, slice_set, filter, if◌then◌else◌}
use lib.Seq.{take-suc}
use Rattle.std.proofs.lemmas.Bool.Decides.{eqb_tells}
use Rattle.std.proofs.lemmas.List.{length-append, map-append, take_all}
use Rattle.std.proofs.lemmas.List.Elements.{All-push}
use Rattle.std.proofs.lemmas.Nat.{mod-mul-add}
use Rattle.law_run.proofs.Hands.{extent-found}
use Rattle.plx_base.specs.declared.numbers.BlockNo.{BlockNo}
use Rattle.plx_commands.specs.Replies.{is_in}
use Rattle.plx_geom.specs.Geometry.{Geometry, extents_start, map_at}
use Rattle.plx_rules.specs.Hands.{set_since}
use Rattle.plx_rules.specs.Rests.{extent_of}
use Rattle.plx_rules.specs.Space.{in_extent, with_clear}
use Rattle.plx_alloc.specs.Pools.{AreBetween, AreInPool, IsInPool}
use Rattle.plx_alloc.specs.Tables.{numbers}
use Rattle.plx_alloc.proofs.Chosen.{eq-self, is_in-snoc, or-false, or-true}
use Rattle.plx_alloc.proofs.Suited.{between-extent}
use Rattle.std.proofs.Math.Bool.{and-false, and-true}
use Rattle.plx_base.proofs.Tests.{eqb-false}
use Rattle.plx_rules.proofs.Maps.{clear-was, length-with_clear}

-- ---- truth values

or-swap : (b c : Bool) → (b || c) ≡ (c || b)
or-swap true true = refl
or-swap true false = refl
or-swap false true = refl
or-swap false false = refl

or-more : (a b c d : Bool) → b ≡ (c || d) → (a || b) ≡ ((a || c) || d)
or-more true b c d e = refl
or-more false b c d e = e

-- ---- bits that are cleared

-- only the blocks of these bits matter
pub with_clear-among : (blocks others : List ℕ) (start : ℕ) (bits : List Bool) →
    ((number : ℕ) → start ≤ number → number < start + length bits → is_in number blocks ≡ is_in number others) →
    with_clear blocks start bits ≡ with_clear others start bits
with_clear-among blocks others start [] same = refl
with_clear-among blocks others start (bit ∷ bits) same =
    ap (λ b. (bit && not b) ∷ with_clear blocks (start + 1) bits) (same start (omega arith) (omega arith))
    ∙ ap (λ rest. (bit && not (is_in start others)) ∷ rest)
    (with_clear-among blocks others (start + 1) bits (λ number low high. same number (omega (arith, low)) (omega (arith, high))))

-- no block clears no bit
with_clear-none : (start : ℕ) (bits : List Bool) → with_clear [] start bits ≡ bits
with_clear-none start [] = refl
with_clear-none start (bit ∷ bits) = ap (λ b. b ∷ with_clear [] (start + 1) bits) (and-true bit) ∙ ap (λ rest. bit ∷ rest) (with_clear-none (start + 1) bits)

-- a block beside one more is as it was
other-in : (blocks : List ℕ) (block number : ℕ) → number ≢ block → is_in number (blocks ++ block ∷ []) ≡ is_in number blocks
other-in blocks block number apart =
    is_in-snoc number block blocks ∙ (ap (λ b. is_in number blocks || b) (eqb-false number block apart) ∙ or-false (is_in number blocks))

-- one more block that has none of these bits clears none
with_clear-past : (blocks : List ℕ) (block start : ℕ) (bits : List Bool) → ((number : ℕ) → start ≤ number → number < start + length bits → number ≢ block) →
    with_clear (blocks ++ block ∷ []) start bits ≡ with_clear blocks start bits
with_clear-past blocks block start bits apart =
    with_clear-among (blocks ++ block ∷ []) blocks start bits (λ number low high. other-in blocks block number (apart number low high))

-- one more block clears its bit
with_clear-snoc : (blocks : List ℕ) (block start : ℕ) (bits : List Bool) (i : ℕ) → block ≡ start + i → i < length bits →
    with_clear (blocks ++ block ∷ []) start bits ≡ slice_set (with_clear blocks start bits) i false
with_clear-snoc blocks block start [] i here z = absurd (omega (arith, z))
with_clear-snoc blocks block start (bit ∷ bits) zero here less =
    let same : start ≡ block = omega (arith, here) in
    let e : is_in start (blocks ++ block ∷ []) ≡ (is_in start blocks || true) = is_in-snoc start block blocks ∙ ap (λ b. is_in start blocks || b) (subst (λ k. (start == k) ≡ true) same (eq-self start)) in
    ap (λ b. (bit && not b) ∷ with_clear (blocks ++ block ∷ []) (start + 1) bits) (e ∙ or-true (is_in start blocks))
    ∙ (ap (λ b. b ∷ with_clear (blocks ++ block ∷ []) (start + 1) bits) (and-false bit)
    ∙ ap (λ rest. false ∷ rest) (with_clear-past blocks block (start + 1) bits (λ number low high e. absurd (omega (arith, e, low, same)))))
with_clear-snoc blocks block start (bit ∷ bits) (suc i) here less =
    ap (λ b. (bit && not b) ∷ with_clear (blocks ++ block ∷ []) (start + 1) bits) (other-in blocks block start (λ e. absurd (omega (arith, e, here))))
    ∙ ap (λ rest. (bit && not (is_in start blocks)) ∷ rest) (with_clear-snoc blocks block (start + 1) bits i (omega (arith, here)) (omega (arith, less)))

-- a bit that is clear stays so
clear-again : (bits : List Bool) (i : ℕ) → get_or bits i false ≡ false → slice_set bits i false ≡ bits
clear-again [] zero clear = refl
clear-again [] (suc i) clear = refl
clear-again (bit ∷ bits) zero clear = ap (λ b. b ∷ bits) (sym clear)
clear-again (bit ∷ bits) (suc i) clear = ap (λ rest. bit ∷ rest) (clear-again bits i clear)

-- ---- bits that were set and are clear now

since-none : (block start : ℕ) (bits : List Bool) → is_in block (set_since start bits bits) ≡ false
since-none block start [] = refl
since-none block start (true ∷ bits) = since-none block (start + 1) bits
since-none block start (false ∷ bits) = since-none block (start + 1) bits

-- one more bit was cleared
since-more : (block start i : ℕ) (new old : List Bool) → get_or new i false ≡ true → get_or old i false ≡ true →
    is_in block (set_since start (slice_set new i false) old) ≡ (is_in block (set_since start new old) || (block == start + i))
since-more block start zero [] old z so = let P : ⊥ = cc in absurd P
since-more block start (suc i) [] old z so = let P : ⊥ = cc in absurd P
since-more block start zero (is ∷ new) [] set z = let P : ⊥ = cc in absurd P
since-more block start (suc i) (is ∷ new) [] set z = let P : ⊥ = cc in absurd P
since-more block start zero (false ∷ new) (was ∷ old) z so = let P : ⊥ = cc in absurd P
since-more block start zero (true ∷ new) (false ∷ old) set z = let P : ⊥ = cc in absurd P
since-more block start zero (true ∷ new) (true ∷ old) set so =
    let e : start ≡ start + 0 = omega arith in
    or-swap (block == start) (is_in block (set_since (start + 1) new old)) ∙ ap (λ k. is_in block (set_since (start + 1) new old) || (block == k)) e
since-more block start (suc i) (is ∷ new) (was ∷ old) set so =
    let e : (start + 1) + i ≡ start + suc i = omega arith in
    go is was (since-more block (start + 1) i new old set so ∙ ap (λ k. is_in block (set_since (start + 1) new old) || (block == k)) e)
  where
    go : (now before : Bool) →
        is_in block (set_since (start + 1) (slice_set new i false) old) ≡ (is_in block (set_since (start + 1) new old) || (block == start + suc i)) →
        is_in block (set_since start (now ∷ slice_set new i false) (before ∷ old)) ≡ (is_in block (set_since start (now ∷ new) (before ∷ old)) || (block == start + suc i))
    go true true later = later
    go true false later = later
    go false false later = later
    go false true later = or-more (block == start) (is_in block (set_since (start + 1) (slice_set new i false) old)) (is_in block (set_since (start + 1) new old)) (block == start + suc i) later

-- ---- what is given back before a block of the hand

pub record IsCleared (start : ℕ) (old : List Bool) (hand : List BlockNo) (i : ℕ) (given : List BlockNo) (bits : List Bool) : Type 0 where
  pub few : length given ≤ i
  pub cleared : bits ≡ with_clear (numbers (take i hand)) start old
  pub tells : (block : ℕ) → is_in block (numbers given) ≡ is_in block (set_since start bits old)
  pub own : AreBetween start (length old) given

pub cleared-none : (start : ℕ) (old : List Bool) (hand given : List BlockNo) → given ≡ [] → IsCleared start old hand 0 given old
cleared-none start old hand given is =
    subst (λ blocks. IsCleared start old hand 0 blocks old) (sym is) (record {
      few = omega arith;
      cleared = sym (with_clear-none start old);
      tells = λ block. sym (since-none block start old);
      own = λ k d less. absurd (omega (arith, less));
    })

pub cleared-long : (start : ℕ) (old : List Bool) (hand : List BlockNo) (i : ℕ) (given : List BlockNo) (bits : List Bool) → IsCleared start old hand i given bits →
    length bits ≡ length old
cleared-long start old hand i given bits h = ap length h.cleared ∙ length-with_clear (numbers (take i hand)) start old

pub cleared-same : (start : ℕ) (old : List Bool) (hand : List BlockNo) (i : ℕ) (given new : List BlockNo) (bits now : List Bool) → new ≡ given → now ≡ bits →
    IsCleared start old hand i given bits → IsCleared start old hand i new now
cleared-same start old hand i given new bits now is same h =
    subst (λ blocks. IsCleared start old hand i blocks now) (sym is) (subst (λ b. IsCleared start old hand i given b) (sym same) h)

-- one block of the hand more
next-numbers : (hand : List BlockNo) (i : ℕ) (d : BlockNo) → i < length hand → numbers (take (i + 1) hand) ≡ numbers (take i hand) ++ (get_or hand i d).0 ∷ []
next-numbers hand i d less =
    let e : i + 1 ≡ suc i = omega arith in
    ap (λ n. numbers (take n hand)) e ∙ (ap numbers (take-suc hand i d less) ∙ map-append (λ (b : BlockNo). b.0) (take i hand) (get_or hand i d ∷ []))

-- a block of another extent
pub cleared-past : (start : ℕ) (old : List Bool) (hand : List BlockNo) (i : ℕ) (d : BlockNo) (given : List BlockNo) (bits : List Bool) → i < length hand →
    ((number : ℕ) → start ≤ number → number < start + length old → number ≢ (get_or hand i d).0) → IsCleared start old hand i given bits →
    IsCleared start old hand (i + 1) given bits
cleared-past start old hand i d given bits less apart h =
    let few = h.few in
    record {
      few = omega (arith, few);
      cleared = h.cleared ∙ sym (ap (λ done. with_clear done start old) (next-numbers hand i d less) ∙ with_clear-past (numbers (take i hand)) (get_or hand i d).0 start old apart);
      tells = h.tells;
      own = h.own;
    }

-- a block whose bit is clear
pub cleared-clear : (start : ℕ) (old : List Bool) (hand : List BlockNo) (i : ℕ) (d : BlockNo) (bit : ℕ) (given : List BlockNo) (bits : List Bool) → i < length hand →
    (get_or hand i d).0 ≡ start + bit → bit < length old → get_or bits bit false ≡ false → IsCleared start old hand i given bits → IsCleared start old hand (i + 1) given bits
cleared-clear start old hand i d bit given bits less here high clear h =
    let few = h.few in
    record {
      few = omega (arith, few);
      cleared =
          sym (clear-again bits bit clear)
          ∙ (ap (λ now. slice_set now bit false) h.cleared
          ∙ sym (ap (λ done. with_clear done start old) (next-numbers hand i d less) ∙ with_clear-snoc (numbers (take i hand)) (get_or hand i d).0 start old bit here high));
      tells = h.tells;
      own = h.own;
    }

-- a block whose bit is set
pub cleared-more : (start : ℕ) (old : List Bool) (hand : List BlockNo) (i : ℕ) (d : BlockNo) (bit : ℕ) (given new : List BlockNo) (bits now : List Bool) → i < length hand →
    (get_or hand i d).0 ≡ start + bit → 1 ≤ bit → bit < length old → get_or bits bit false ≡ true → new ≡ given ++ get_or hand i d ∷ [] → now ≡ slice_set bits bit false →
    IsCleared start old hand i given bits → IsCleared start old hand (i + 1) new now
cleared-more start old hand i d bit given new bits now less here low high set is bits' h =
    let x : BlockNo = get_or hand i d in
    let few = h.few in
    let long : length (given ++ x ∷ []) ≡ length given + 1 = length-append given (x ∷ []) in
    let was : get_or old bit false ≡ true = clear-was (numbers (take i hand)) start old bit (ap (λ b. get_or b bit false) (sym h.cleared) ∙ set) in
    subst (λ blocks. IsCleared start old hand (i + 1) blocks now) (sym is) (record {
      few = omega (arith, few, long);
      cleared =
          bits'
          ∙ (ap (λ now. slice_set now bit false) h.cleared
          ∙ sym (ap (λ done. with_clear done start old) (next-numbers hand i d less) ∙ with_clear-snoc (numbers (take i hand)) x.0 start old bit here high));
      tells = λ block.
          ap (is_in block) (map-append (λ (b : BlockNo). b.0) given (x ∷ []))
          ∙ (is_in-snoc block x.0 (numbers given)
          ∙ (ap (λ b. b || (block == x.0)) (h.tells block)
          ∙ (ap (λ k. is_in block (set_since start bits old) || (block == k)) here
          ∙ (sym (since-more block start bit bits old set was) ∙ ap (λ b. is_in block (set_since start b old)) (sym bits')))));
      own = All-push (λ (b : BlockNo). (start < b.0) × (b.0 < start + length old)) given x h.own (omega (arith, here, low), omega (arith, here, high));
    })

pub cleared-all : (start : ℕ) (old : List Bool) (hand : List BlockNo) (i : ℕ) (given : List BlockNo) (bits : List Bool) → length hand ≤ i →
    IsCleared start old hand i given bits → bits ≡ with_clear (numbers hand) start old
cleared-all start old hand i given bits past h = h.cleared ∙ ap (λ blocks. with_clear (numbers blocks) start old) (take_all i hand past)

first-apart : (number block : ℕ) (rest : Bool) → ((number == block) || rest) ≡ false → number ≢ block
first-apart number block rest none' = λ same.
    let e : true ≡ false = sym (ap (λ b. b || rest) (subst (λ k. (number == k) ≡ true) same (eq-self number))) ∙ none' in
    let P : ⊥ = cc in absurd P

-- a block isn't one of those among which it isn't
pub apart-of : (number : ℕ) (hand : List BlockNo) (i : ℕ) (d : BlockNo) → i < length hand → is_in number (numbers hand) ≡ false → number ≢ (get_or hand i d).0
apart-of number [] i d z none' = absurd (omega (arith, z))
apart-of number (block ∷ hand) zero d less none' = first-apart number block.0 (is_in number (numbers hand)) none'
apart-of number (block ∷ hand) (suc i) d less none' = apart-of number hand i d (omega (arith, less)) (or-none (number == block.0) (is_in number (numbers hand)) none')
  where
    or-none : (b c : Bool) → (b || c) ≡ false → c ≡ false
    or-none true c z = let P : ⊥ = cc in absurd P
    or-none false c none' = none'

-- no map's own block is one of a pool
pub map-outside-pool : (g : Geometry) (extent : ℕ) (items : List BlockNo) → 0 < g.extent_blocks → AreInPool g items → is_in (map_at g extent) (numbers items) ≡ false
map-outside-pool g extent [] some pool = refl
map-outside-pool g extent (block ∷ items) some pool =
    ap (λ b. b || is_in (map_at g extent) (numbers items)) (eqb-false (map_at g extent) block.0 (not-pool block.0 (pool 0 block (omega arith))))
    ∙ map-outside-pool g extent items some (λ k d less. pool (suc k) d (omega (arith, less)))
  where
    not-pool : (number : ℕ) → IsInPool g number → map_at g extent ≢ number
    not-pool number is = λ same.
        let e : number - extents_start g ≡ extent * g.extent_blocks + 0 = omega (arith, same) in
        let m : (number - extents_start g) % g.extent_blocks ≡ 0 = ap (λ n. n % g.extent_blocks) e ∙ mod-mul-add extent g.extent_blocks 0 some in
        let own = is.own in
        absurd (omega (arith, m, own))

-- a block among those of an extent is one of it
pub given-own : (g : Geometry) (extent : ℕ) (items : List BlockNo) → AreBetween (map_at g extent) g.extent_blocks items → (number : ℕ) →
    is_in number (numbers items) ≡ true → extent_of g number ≡ extent
given-own g extent [] own number z = let P : ⊥ = cc in absurd P
given-own g extent (block ∷ items) own number among =
    by-test (given-own g extent items (λ k d less. own (suc k) d (omega (arith, less))) number) among
  where
    by-test : (is_in number (numbers items) ≡ true → extent_of g number ≡ extent) → ((number == block.0) || is_in number (numbers items)) ≡ true → extent_of g number ≡ extent
    by-test later among = elim (eqb_tells number block.0) [
      | inl same ↦ ap (extent_of g) same.1 ∙ between-extent g extent block.0 (own 0 block (omega arith)).0 (own 0 block (omega arith)).1
      | inr other ↦ later (sym (ap (λ b. b || is_in number (numbers items)) other.0) ∙ among)
    ]

-- ---- blocks of other extents

-- a number that passes a test is among those that pass where it is among all
in-filter-same : (p : ℕ → Bool) (number : ℕ) (blocks : List ℕ) → p number ≡ true → is_in number (filter p blocks) ≡ is_in number blocks
in-filter-same p number [] so = refl
in-filter-same p number (block ∷ blocks) so = go (in-filter-same p number blocks so) (p block) refl
  where
    go : is_in number (filter p blocks) ≡ is_in number blocks → (b : Bool) → p block ≡ b → is_in number (if b then block ∷ filter p blocks else filter p blocks) ≡ ((number == block) || is_in number blocks)
    go later true passes = ap (λ b. (number == block) || b) later
    go later false other =
        later ∙ ap (λ b. b || is_in number blocks) (sym (eqb-false number block (λ same. absurd (let e : true ≡ false = sym so ∙ (ap p same ∙ other) in let P : ⊥ = cc in P))))

-- they clear no bit of this extent's map
pub with_clear-mine : (g : Geometry) (extent : ℕ) (hand : List ℕ) (bits : List Bool) → length bits ≡ g.extent_blocks →
    with_clear (in_extent g extent hand) (map_at g extent) bits ≡ with_clear hand (map_at g extent) bits
with_clear-mine g extent hand bits long =
    with_clear-among (in_extent g extent hand) hand (map_at g extent) bits
    (λ number low high. in-filter-same (λ block. extent_of g block == extent) number hand
    (ap (λ k. k == extent) (extent-found g extent number low (subst (λ n. number < map_at g extent + n) long high)) ∙ eq-self extent))
