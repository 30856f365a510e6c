-- The passes of a take and of a retire over extents, by the first extent of which they ask.
use Rattle.std.proofs.Common.{◌≡◌, ◌<◌, ◌≤◌, ◌+◌, ◌-◌, ◌∙◌, ap, sym, refl, subst, ℕ, zero, suc, length, Bool, true, false, Option, Some, None, arith}
use Rattle.std.specs.Prelude.{nat_le, not, if◌then◌else◌}
use Rattle.plx_geom.specs.Geometry.{Geometry, extent_lease, lease_at}
use Rattle.plx_rules.specs.Ends.{End}
use Rattle.plx_rules.specs.Hands.{is_held}
use Rattle.plx_rules.specs.Holds.{Hold, Nothing, Seen, Wrote, Waited, Held}
use Rattle.plx_rules.specs.Process.{Process}
use Rattle.plx_rules.specs.Settings.{Setting}
use Rattle.plx_rules.specs.Space.{Taking, if_needed, take_held, take_if_held, take_if_other, take_others}
use Rattle.plx_alloc.specs.Tables.{first_extent}
use Rattle.plx_base.proofs.Tests.{not-false}

abbrev some_or : ℕ → Option ℕ → ℕ
some_or other None = other
some_or other (Some n) = n

some-injective : {a b : ℕ} → Some a ≡ Some b → a ≡ b
some-injective {a} e = ap (λ o. some_or a o) e

-- ---- the first extent

pub first-here : (is : ℕ → Bool) (n index : ℕ) → index < n → is index ≡ true → first_extent is (n - index) index ≡ Some index
first-here is n index less so =
    let e : n - index ≡ suc (n - (index + 1)) = omega (arith, less) in
    ap (λ left. first_extent is left index) e ∙ ap (λ b. if b then Some index else first_extent is (n - (index + 1)) (index + 1)) so

pub first-skip : (is : ℕ → Bool) (n index : ℕ) → index < n → is index ≡ false → first_extent is (n - index) index ≡ first_extent is (n - (index + 1)) (index + 1)
first-skip is n index less no' =
    let e : n - index ≡ suc (n - (index + 1)) = omega (arith, less) in
    ap (λ left. first_extent is left index) e ∙ ap (λ b. if b then Some index else first_extent is (n - (index + 1)) (index + 1)) no'

pub first-over : (is : ℕ → Bool) (n index : ℕ) → n ≤ index → first_extent is (n - index) index ≡ None
first-over is n index past =
    let e : n - index ≡ 0 = omega (arith, past) in
    ap (λ left. first_extent is left index) e

-- what is true of the first extent
pub record IsFirst (is : ℕ → Bool) (left from extent : ℕ) : Type 0 where
  pub so : is extent ≡ true
  pub low : from ≤ extent
  pub high : extent < from + left

pub first-extent-is : (is : ℕ → Bool) (left from extent : ℕ) → first_extent is left from ≡ Some extent → IsFirst is left from extent
first-extent-is is zero from extent z = let P : ⊥ = cc in absurd P
first-extent-is is (suc left) from extent found = go (λ found. first-extent-is is left (from + 1) extent found) (is from) refl found
  where
    go : (first_extent is left (from + 1) ≡ Some extent → IsFirst is left (from + 1) extent) → (b : Bool) → is from ≡ b →
        (if b then Some from else first_extent is left (from + 1)) ≡ Some extent → IsFirst is (suc left) from extent
    go later true so found =
        let e : from ≡ extent = some-injective found in
        record { so = subst (λ k. is k ≡ true) e so; low = omega (arith, e); high = omega (arith, e) }
    go later false other found =
        let h = later found in
        let low = h.low in
        let high = h.high in
        record { so = h.so; low = omega (arith, low); high = omega (arith, high) }

-- ---- what is held of an extent's lease

-- by the block of its lease
abbrev pub extent_hold_at : Geometry → (ℕ → Hold) → (extent : ℕ) → Hold
extent_hold_at g holds extent = holds (lease_at (extent_lease g extent))

-- ---- a take

-- enough is in hand
pub held-enough : (s : Setting) (count : ℕ) (holds : ℕ → Hold) (left extent : ℕ) (rest : Taking → Process End) (t : Taking) →
    nat_le count (length t.hand) ≡ true → take_held s count holds left extent rest t ≡ rest t
held-enough s count holds zero extent rest t enough = refl
held-enough s count holds (suc left) extent rest t enough =
    ap (λ b. if b then take_held s count holds left (extent + 1) rest t
    else take_if_held s count extent (extent_hold_at s.geometry holds extent) (take_held s count holds left (extent + 1) rest) t) enough
    ∙ held-enough s count holds left (extent + 1) rest t enough

pub others-enough : (s : Setting) (count : ℕ) (holds : ℕ → Hold) (left extent : ℕ) (rest : Taking → Process End) (t : Taking) →
    nat_le count (length t.hand) ≡ true → take_others s count holds left extent rest t ≡ rest t
others-enough s count holds zero extent rest t enough = refl
others-enough s count holds (suc left) extent rest t enough =
    ap (λ b. if b then take_others s count holds left (extent + 1) rest t
    else take_if_other s count extent (extent_hold_at s.geometry holds extent) (take_others s count holds left (extent + 1) rest) t) enough
    ∙ others-enough s count holds left (extent + 1) rest t enough

-- more are needed: what is asked at the first extent that is held, or isn't
abbrev pub held_first : Setting → (count : ℕ) → (holds : ℕ → Hold) → Option ℕ → (rest : Taking → Process End) → Taking → Process End
held_first s count holds None rest t = rest t
held_first s count holds (Some extent) rest t =
    take_if_held s count extent (extent_hold_at s.geometry holds extent) (take_held s count holds (s.geometry.extents - (extent + 1)) (extent + 1) rest) t

abbrev pub others_first : Setting → (count : ℕ) → (holds : ℕ → Hold) → Option ℕ → (rest : Taking → Process End) → Taking → Process End
others_first s count holds None rest t = rest t
others_first s count holds (Some extent) rest t =
    take_if_other s count extent (extent_hold_at s.geometry holds extent) (take_others s count holds (s.geometry.extents - (extent + 1)) (extent + 1) rest) t

not-held : (s : Setting) (count extent : ℕ) (hold : Hold) (rest : Taking → Process End) (t : Taking) → is_held hold ≡ false → take_if_held s count extent hold rest t ≡ rest t
not-held s count extent Nothing rest t other = refl
not-held s count extent (Seen sample) rest t other = refl
not-held s count extent (Wrote claim until) rest t other = refl
not-held s count extent (Waited claim until) rest t other = refl
not-held s count extent (Held claim until) rest t z = let P : ⊥ = cc in absurd P

not-other : (s : Setting) (count extent : ℕ) (hold : Hold) (rest : Taking → Process End) (t : Taking) → is_held hold ≡ true → take_if_other s count extent hold rest t ≡ rest t
not-other s count extent Nothing rest t z = let P : ⊥ = cc in absurd P
not-other s count extent (Seen sample) rest t z = let P : ⊥ = cc in absurd P
not-other s count extent (Wrote claim until) rest t z = let P : ⊥ = cc in absurd P
not-other s count extent (Waited claim until) rest t z = let P : ⊥ = cc in absurd P
not-other s count extent (Held claim until) rest t held = refl

pub held-first : (s : Setting) (count : ℕ) (holds : ℕ → Hold) (is : ℕ → Bool) → ((extent : ℕ) → is extent ≡ is_held (extent_hold_at s.geometry holds extent)) →
    (left from : ℕ) (rest : Taking → Process End) (t : Taking) → from + left ≡ s.geometry.extents → nat_le count (length t.hand) ≡ false →
    take_held s count holds left from rest t ≡ held_first s count holds (first_extent is left from) rest t
held-first s count holds is tells zero from rest t sum few = refl
held-first s count holds is tells (suc left) from rest t sum few =
    ap (λ b. if b then next t else take_if_held s count from (extent_hold_at s.geometry holds from) next t) few ∙ go (held-first s count holds is tells left (from + 1) rest t (omega (arith, sum)) few) (is from) refl
  where
    next : Taking → Process End
    next = take_held s count holds left (from + 1) rest

    go : next t ≡ held_first s count holds (first_extent is left (from + 1)) rest t → (b : Bool) → is from ≡ b → take_if_held s count from (extent_hold_at s.geometry holds from) next t
        ≡ held_first s count holds (if b then Some from else first_extent is left (from + 1)) rest t
    go later true so =
        let e : left ≡ s.geometry.extents - (from + 1) = omega (arith, sum) in
        ap (λ k. take_if_held s count from (extent_hold_at s.geometry holds from) (take_held s count holds k (from + 1) rest) t) e
    go later false other =
        not-held s count from (extent_hold_at s.geometry holds from) next t (sym (tells from) ∙ other)
        ∙ later

pub others-first : (s : Setting) (count : ℕ) (holds : ℕ → Hold) (is : ℕ → Bool) → ((extent : ℕ) → is extent ≡ not (is_held (extent_hold_at s.geometry holds extent))) →
    (left from : ℕ) (rest : Taking → Process End) (t : Taking) → from + left ≡ s.geometry.extents → nat_le count (length t.hand) ≡ false →
    take_others s count holds left from rest t ≡ others_first s count holds (first_extent is left from) rest t
others-first s count holds is tells zero from rest t sum few = refl
others-first s count holds is tells (suc left) from rest t sum few =
    ap (λ b. if b then next t else take_if_other s count from (extent_hold_at s.geometry holds from) next t) few ∙ go (others-first s count holds is tells left (from + 1) rest t (omega (arith, sum)) few) (is from) refl
  where
    next : Taking → Process End
    next = take_others s count holds left (from + 1) rest

    go : next t ≡ others_first s count holds (first_extent is left (from + 1)) rest t → (b : Bool) → is from ≡ b → take_if_other s count from (extent_hold_at s.geometry holds from) next t
        ≡ others_first s count holds (if b then Some from else first_extent is left (from + 1)) rest t
    go later true so =
        let e : left ≡ s.geometry.extents - (from + 1) = omega (arith, sum) in
        ap (λ k. take_if_other s count from (extent_hold_at s.geometry holds from) (take_others s count holds k (from + 1) rest) t) e
    go later false other =
        not-other s count from (extent_hold_at s.geometry holds from) next t (not-false (is_held (extent_hold_at s.geometry holds from)) (sym (tells from) ∙ other))
        ∙ later

-- the others go by what is held of the extents from there on
pub others-same : (s : Setting) (count : ℕ) (holds others : ℕ → Hold) (left from : ℕ) (rest : Taking → Process End) →
    ((extent : ℕ) → from ≤ extent → extent_hold_at s.geometry holds extent ≡ extent_hold_at s.geometry others extent) →
    take_others s count holds left from rest ≡ take_others s count others left from rest
others-same s count holds others zero from rest same = refl
others-same s count holds others (suc left) from rest same =
    ap (λ (next : Taking → Process End). if_needed count (take_if_other s count from (extent_hold_at s.geometry holds from) next) next)
    (others-same s count holds others left (from + 1) rest (λ extent less. same extent (omega (arith, less))))
    ∙ ap (λ hold. if_needed count (take_if_other s count from hold (take_others s count others left (from + 1) rest)) (take_others s count others left (from + 1) rest))
    (same from (omega arith))
