-- Which blocks of an extent are taken: bit by bit.
use Rattle.std.proofs.Common.{◌≡◌, ◌<◌, ◌≤◌, ◌+◌, ◌-◌, ◌∙◌, ap, sym, refl, subst, ℕ, zero, suc, List, [], ◌∷◌, ◌++◌, length, drop, take, get_or, Bool, true, false, inl, inr, arith}
use Rattle.std.specs.Prelude.{◌==◌, ◌||◌, slice_set, if◌then◌else◌}
use Rattle.std.proofs.lemmas.Bool.Decides.{eqb_tells}
use Rattle.std.proofs.lemmas.List.{append_assoc, append-nil, length-append, map-append}
use Rattle.std.proofs.lemmas.List.Elements.{All-push}
use Rattle.plx_base.specs.declared.numbers.BlockNo.{BlockNo}
use Rattle.plx_base.proofs.Tests.{eqb-false}
use Rattle.plx_commands.specs.Replies.{is_in}
use Rattle.plx_rules.specs.Space.{free_from, is_own_set, with_set}
use Rattle.plx_alloc.specs.Pools.{AreBetween}
use Rattle.plx_alloc.specs.Tables.{numbers}
use Rattle.plx_alloc.proofs.Numbers.{drop-next, drop-past}
use Rattle.plx_rules.proofs.Maps.{length-with_set}

-- ---- one more block among others

pub or-false : (b : Bool) → (b || false) ≡ b
or-false true = refl
or-false false = refl

or-assoc : (a b c : Bool) → (a || (b || c)) ≡ ((a || b) || c)
or-assoc true b c = refl
or-assoc false b c = refl

pub is_in-snoc : (number block : ℕ) (blocks : List ℕ) → is_in number (blocks ++ block ∷ []) ≡ (is_in number blocks || (number == block))
is_in-snoc number block [] = or-false (number == block)
is_in-snoc number block (other ∷ blocks) =
    ap (λ b. (number == other) || b) (is_in-snoc number block blocks) ∙ or-assoc (number == other) (is_in number blocks) (number == block)

-- ---- bits that are set

pub get-with_set : (blocks : List ℕ) (start : ℕ) (bits : List Bool) (i : ℕ) → i < length bits →
    get_or (with_set blocks start bits) i false ≡ (get_or bits i false || is_in (start + i) blocks)
get-with_set blocks start [] i z = absurd (omega (arith, z))
get-with_set blocks start (bit ∷ bits) zero less = ap (λ k. bit || is_in k blocks) (start-zero start)
  where
    start-zero : (n : ℕ) → n ≡ n + 0
    start-zero n = omega arith
get-with_set blocks start (bit ∷ bits) (suc i) less =
    let e : (start + 1) + i ≡ start + suc i = omega arith in
    get-with_set blocks (start + 1) bits i (omega (arith, less)) ∙ ap (λ k. get_or bits i false || is_in k blocks) e

-- blocks below the first bit's change nothing
pub with_set-same : (blocks others : List ℕ) (start : ℕ) (bits : List Bool) → ((number : ℕ) → start ≤ number → is_in number blocks ≡ is_in number others) →
    with_set blocks start bits ≡ with_set others start bits
with_set-same blocks others start [] same = refl
with_set-same blocks others start (bit ∷ bits) same =
    ap (λ b. (bit || b) ∷ with_set blocks (start + 1) bits) (same start (omega arith))
    ∙ ap (λ rest. (bit || is_in start others) ∷ rest) (with_set-same blocks others (start + 1) bits (λ number less. same number (omega (arith, less))))

-- no block sets no bit
pub with_set-none : (start : ℕ) (bits : List Bool) → with_set [] start bits ≡ bits
with_set-none start [] = refl
with_set-none start (bit ∷ bits) = ap (λ b. b ∷ with_set [] (start + 1) bits) (or-false bit) ∙ ap (λ rest. bit ∷ rest) (with_set-none (start + 1) bits)

pub eq-self : (n : ℕ) → (n == n) ≡ true
eq-self n = elim (eqb_tells n n) [ inl same ↦ same.0 | inr other ↦ absurd (other.1 refl) ]

pub or-true : (b : Bool) → (b || true) ≡ true
or-true true = refl
or-true false = refl

-- one more block sets its bit
pub with_set-snoc : (blocks : List ℕ) (block start : ℕ) (bits : List Bool) (i : ℕ) → block ≡ start + i → i < length bits →
    with_set (blocks ++ block ∷ []) start bits ≡ slice_set (with_set blocks start bits) i true
with_set-snoc blocks block start [] i here z = absurd (omega (arith, z))
with_set-snoc blocks block start (bit ∷ bits) zero here less =
    let same : start ≡ block = omega (arith, here) in
    let e : is_in start (blocks ++ block ∷ []) ≡ (is_in start blocks || true) = is_in-snoc start block blocks ∙ ap (λ b. is_in start blocks || b) (subst (λ k. (start == k) ≡ true) same (eq-self start)) in
    ap (λ b. (bit || b) ∷ with_set (blocks ++ block ∷ []) (start + 1) bits) (e ∙ or-true (is_in start blocks))
    ∙ ap (λ b. b ∷ with_set (blocks ++ block ∷ []) (start + 1) bits) (or-true bit)
    ∙ ap (λ rest. true ∷ rest) (with_set-same (blocks ++ block ∷ []) blocks (start + 1) bits (λ number past. is_in-snoc number block blocks
    ∙ (ap (λ b. is_in number blocks || b) (eqb-false number block (λ e. absurd (omega (arith, e, past, same)))) ∙ or-false (is_in number blocks))))
with_set-snoc blocks block start (bit ∷ bits) (suc i) here less =
    let other : (start == block) ≡ false = eqb-false start block (λ e. absurd (omega (arith, e, here))) in
    let e : is_in start (blocks ++ block ∷ []) ≡ is_in start blocks = is_in-snoc start block blocks ∙ (ap (λ b. is_in start blocks || b) other ∙ or-false (is_in start blocks)) in
    ap (λ b. (bit || b) ∷ with_set (blocks ++ block ∷ []) (start + 1) bits) e
    ∙ ap (λ rest. (bit || is_in start blocks) ∷ rest) (with_set-snoc blocks block (start + 1) bits i (omega (arith, here)) (omega (arith, less)))

-- ---- the bits from one on

-- the block of a bit can't be taken
pub free-skip : (hand : List ℕ) (start i : ℕ) (bits : List Bool) → i < length bits → (get_or bits i false || is_in (start + i) hand) ≡ true →
    free_from hand (start + i) (drop i bits) ≡ free_from hand (start + (i + 1)) (drop (i + 1) bits)
free-skip hand start i bits less taken =
    let e : (start + i) + 1 ≡ start + (i + 1) = omega arith in
    ap (free_from hand (start + i)) (drop-next bits i false less)
    ∙ ap (λ b. if b then free_from hand ((start + i) + 1) (drop (i + 1) bits) else (start + i) ∷ free_from hand ((start + i) + 1) (drop (i + 1) bits)) taken
    ∙ ap (λ k. free_from hand k (drop (i + 1) bits)) e

-- the block of a bit can be taken
pub free-here : (hand : List ℕ) (start i : ℕ) (bits : List Bool) → i < length bits → (get_or bits i false || is_in (start + i) hand) ≡ false →
    free_from hand (start + i) (drop i bits) ≡ (start + i) ∷ free_from hand (start + (i + 1)) (drop (i + 1) bits)
free-here hand start i bits less free =
    let e : (start + i) + 1 ≡ start + (i + 1) = omega arith in
    ap (free_from hand (start + i)) (drop-next bits i false less)
    ∙ ap (λ b. if b then free_from hand ((start + i) + 1) (drop (i + 1) bits) else (start + i) ∷ free_from hand ((start + i) + 1) (drop (i + 1) bits)) free
    ∙ ap (λ k. (start + i) ∷ free_from hand k (drop (i + 1) bits)) e

-- no bit is left
pub free-over : (hand : List ℕ) (start i : ℕ) (bits : List Bool) → length bits ≤ i → free_from hand (start + i) (drop i bits) ≡ []
free-over hand start i bits past = ap (free_from hand (start + i)) (drop-past bits i past)

-- the bit of the map's own block is set
pub own-skip : (hand : List ℕ) (start : ℕ) (bits : List Bool) → is_own_set bits ≡ true →
    free_from hand start bits ≡ free_from hand (start + 1) (drop 1 bits)
own-skip hand start [] z = let P : ⊥ = cc in absurd P
own-skip hand start (own ∷ bits) set =
    ap (λ b. if b || is_in start hand then free_from hand (start + 1) bits else start ∷ free_from hand (start + 1) bits) set

-- one more block is taken
pub take-more : (blocks : List BlockNo) (block : BlockNo) (need : ℕ) (free : List ℕ) → length blocks < need →
    numbers (blocks ++ block ∷ []) ++ take (need - length (blocks ++ block ∷ [])) free ≡ numbers blocks ++ take (need - length blocks) (block.0 ∷ free)
take-more blocks block need free less =
    let long : length (blocks ++ block ∷ []) ≡ length blocks + 1 = length-append blocks (block ∷ []) in
    let e : need - length blocks ≡ suc (need - length (blocks ++ block ∷ [])) = omega (arith, less, long) in
    ap (λ front. front ++ take (need - length (blocks ++ block ∷ [])) free) (map-append (λ (b : BlockNo). b.0) blocks (block ∷ []))
    ∙ (append_assoc (numbers blocks) (block.0 ∷ []) (take (need - length (blocks ++ block ∷ [])) free)
    ∙ ap (λ n. numbers blocks ++ take n (block.0 ∷ free)) (sym e))

-- enough are taken
pub take-full : (blocks : List BlockNo) (need : ℕ) (free : List ℕ) → length blocks ≡ need → numbers blocks ++ take (need - length blocks) free ≡ numbers blocks
take-full blocks need free full =
    let e : need - length blocks ≡ 0 = omega (arith, full) in
    ap (λ n. numbers blocks ++ take n free) e ∙ append-nil (numbers blocks)

-- none is left
pub take-from-none : (blocks : List BlockNo) (n : ℕ) → numbers blocks ++ take n [] ≡ numbers blocks
take-from-none blocks zero = append-nil (numbers blocks)
take-from-none blocks (suc n) = append-nil (numbers blocks)

-- a further block isn't below the next one
pub below-more : (blocks : List BlockNo) (block : BlockNo) (next : ℕ) → block.0 + 1 ≡ next → ((number : ℕ) → block.0 ≤ number → is_in number (numbers blocks) ≡ false) →
    (number : ℕ) → next ≤ number → is_in number (numbers (blocks ++ block ∷ [])) ≡ false
below-more blocks block next here below number past =
    ap (is_in number) (map-append (λ (b : BlockNo). b.0) blocks (block ∷ []))
    ∙ (is_in-snoc number block.0 (numbers blocks)
    ∙ (ap (λ b. b || (number == block.0)) (below number (omega (arith, here, past)))
    ∙ eqb-false number block.0 (λ e. absurd (omega (arith, e, here, past)))))

-- ---- what is taken up to a bit

pub record IsChosen (hand : List ℕ) (start need : ℕ) (old : List Bool) (bit : ℕ) (taken : List BlockNo) (bits : List Bool) : Type 0 where
  pub few : length taken ≤ need
  pub rest : numbers taken ++ take (need - length taken) (free_from hand (start + bit) (drop bit old)) ≡ take need (free_from hand start old)
  pub set : bits ≡ with_set (numbers taken) start old
  pub below : (number : ℕ) → start + bit ≤ number → is_in number (numbers taken) ≡ false
  pub own : AreBetween start (length old) taken

pub chosen-none : (hand : List ℕ) (start need : ℕ) (old : List Bool) (taken : List BlockNo) → is_own_set old ≡ true → taken ≡ [] → IsChosen hand start need old 1 taken old
chosen-none hand start need old taken own is =
    let none-yet : need - 0 ≡ need = omega arith in
    subst (λ blocks. IsChosen hand start need old 1 blocks old) (sym is) (record {
      few = omega arith;
      rest = ap (λ n. take n (free_from hand (start + 1) (drop 1 old))) none-yet ∙ ap (take need) (sym (own-skip hand start old own));
      set = sym (with_set-none start old);
      below = λ number past. refl;
      own = λ k d less. absurd (omega (arith, less));
    })

pub chosen-long : (hand : List ℕ) (start need : ℕ) (old : List Bool) (bit : ℕ) (taken : List BlockNo) (bits : List Bool) → IsChosen hand start need old bit taken bits →
    length bits ≡ length old
chosen-long hand start need old bit taken bits h = ap length h.set ∙ length-with_set (numbers taken) start old

-- the bit of the next block, as it is now
pub chosen-bit : (hand : List ℕ) (start need : ℕ) (old : List Bool) (bit : ℕ) (taken : List BlockNo) (bits : List Bool) → IsChosen hand start need old bit taken bits →
    bit < length old → get_or bits bit false ≡ get_or old bit false
chosen-bit hand start need old bit taken bits h less =
    ap (λ now. get_or now bit false) h.set
    ∙ (get-with_set (numbers taken) start old bit less
    ∙ (ap (λ b. get_or old bit false || b) (h.below (start + bit) (omega arith)) ∙ or-false (get_or old bit false)))

pub chosen-skip : (hand : List ℕ) (start need : ℕ) (old : List Bool) (bit : ℕ) (taken : List BlockNo) (bits : List Bool) → IsChosen hand start need old bit taken bits →
    bit < length old → (get_or old bit false || is_in (start + bit) hand) ≡ true → IsChosen hand start need old (bit + 1) taken bits
chosen-skip hand start need old bit taken bits h less used = record {
  few = h.few;
  rest = ap (λ free. numbers taken ++ take (need - length taken) free) (sym (free-skip hand start bit old less used)) ∙ h.rest;
  set = h.set;
  below = λ number past. h.below number (omega (arith, past));
  own = h.own;
}

pub chosen-more : (hand : List ℕ) (start need : ℕ) (old : List Bool) (bit : ℕ) (taken new : List BlockNo) (bits now : List Bool) (block : BlockNo) → 1 ≤ bit →
    IsChosen hand start need old bit taken bits → bit < length old → length taken < need → (get_or old bit false || is_in (start + bit) hand) ≡ false →
    block.0 ≡ start + bit → new ≡ taken ++ block ∷ [] → now ≡ slice_set bits bit true → IsChosen hand start need old (bit + 1) new now
chosen-more hand start need old bit taken new bits now block first h less room free here is set =
    let long : length (taken ++ block ∷ []) ≡ length taken + 1 = length-append taken (block ∷ []) in
    let more : numbers (taken ++ block ∷ []) ≡ numbers taken ++ block.0 ∷ [] = map-append (λ (b : BlockNo). b.0) taken (block ∷ []) in
    subst (λ blocks. IsChosen hand start need old (bit + 1) blocks now) (sym is) (record {
      few = omega (arith, long, room);
      rest =
          take-more taken block need (free_from hand (start + (bit + 1)) (drop (bit + 1) old)) room
          ∙ (ap (λ n. numbers taken ++ take (need - length taken) (n ∷ free_from hand (start + (bit + 1)) (drop (bit + 1) old))) here
          ∙ (ap (λ free. numbers taken ++ take (need - length taken) free) (sym (free-here hand start bit old less free)) ∙ h.rest));
      set =
          set ∙ (ap (λ now. slice_set now bit true) h.set
          ∙ (sym (with_set-snoc (numbers taken) block.0 start old bit here less) ∙ ap (λ blocks. with_set blocks start old) (sym more)));
      below = below-more taken block (start + (bit + 1)) (omega (arith, here)) (λ number past. h.below number (omega (arith, here, past)));
      own = All-push (λ (b : BlockNo). (start < b.0) × (b.0 < start + length old)) taken block h.own (omega (arith, here, first), omega (arith, here, less));
    })

pub chosen-full : (hand : List ℕ) (start need : ℕ) (old : List Bool) (bit : ℕ) (taken : List BlockNo) (bits : List Bool) → IsChosen hand start need old bit taken bits →
    length taken ≡ need → numbers taken ≡ take need (free_from hand start old)
chosen-full hand start need old bit taken bits h full = sym (take-full taken need (free_from hand (start + bit) (drop bit old)) full) ∙ h.rest

pub chosen-all : (hand : List ℕ) (start need : ℕ) (old : List Bool) (bit : ℕ) (taken : List BlockNo) (bits : List Bool) → IsChosen hand start need old bit taken bits →
    length old ≤ bit → numbers taken ≡ take need (free_from hand start old)
chosen-all hand start need old bit taken bits h past =
    sym (take-from-none taken (need - length taken))
    ∙ (ap (λ free. numbers taken ++ take (need - length taken) free) (sym (free-over hand start bit old past)) ∙ h.rest)
