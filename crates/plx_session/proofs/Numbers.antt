-- Writes in order of number.
use Rattle.std.proofs.Common.{◌≡◌, ◌≢◌, inl, inr, ℕ, ◌+◌, ◌<◌, ◌≤◌, List, [], ◌∷◌, ◌++◌, length, take, drop, get_or, refl, sym, ap, ◌∙◌, append_assoc, true, false, Some, None}
use Rattle.std.specs.Prelude.{nat_lt}
use Rattle.std.proofs.lemmas.List.{take_more, drop_more, drop_all}
use Rattle.std.proofs.lemmas.Bool.Decides.{eqb_tells}
use Rattle.plx_rules.specs.Session.{with_write_by_number, first_gap}
use Rattle.plx_rules.specs.Journaled.{Journaled}
use Rattle.plx_base.proofs.Tests.{nat_lt-false, nat_lt-true}

-- a write that has its place among the writes from one on
abbrev pub from : Journaled → List Journaled → ℕ → List Journaled
from w writes i = take i writes ++ with_write_by_number w (drop i writes)

inserted-past : (w y : Journaled) (ys : List Journaled) → nat_lt w.number y.number ≡ false → with_write_by_number w (y ∷ ys) ≡ y ∷ with_write_by_number w ys
inserted-past w y ys past = rw past refl

inserted-here : (w y : Journaled) (ys : List Journaled) → nat_lt w.number y.number ≡ true → with_write_by_number w (y ∷ ys) ≡ w ∷ y ∷ ys
inserted-here w y ys here = rw here refl

pub from-next : (w : Journaled) (writes : List Journaled) (i : ℕ) (y : Journaled) → i < length writes → y ≡ get_or writes i y → y.number ≤ w.number →
    from w writes i ≡ from w writes (i + 1)
from-next w writes i y within is past =
    let at : drop i writes ≡ y ∷ drop (i + 1) writes = drop_more writes i y within ∙ ap (λ (z : Journaled). z ∷ drop (i + 1) writes) (sym is) in
    let up : take (i + 1) writes ≡ take i writes ++ y ∷ [] = take_more writes i y within ∙ ap (λ (z : Journaled). take i writes ++ z ∷ []) (sym is) in
    ap (λ ys. take i writes ++ with_write_by_number w ys) at
    ∙ ap (λ ys. take i writes ++ ys) (inserted-past w y (drop (i + 1) writes) (nat_lt-false w.number y.number past))
    ∙ sym (append_assoc (take i writes) (y ∷ []) (with_write_by_number w (drop (i + 1) writes)))
    ∙ ap (λ ys. ys ++ with_write_by_number w (drop (i + 1) writes)) (sym up)

pub from-here : (w : Journaled) (writes : List Journaled) (i : ℕ) (y : Journaled) → i < length writes → y ≡ get_or writes i y → w.number < y.number →
    from w writes i ≡ take i writes ++ w ∷ drop i writes
from-here w writes i y within is here =
    let at : drop i writes ≡ y ∷ drop (i + 1) writes = drop_more writes i y within ∙ ap (λ (z : Journaled). z ∷ drop (i + 1) writes) (sym is) in
    ap (λ ys. take i writes ++ with_write_by_number w ys) at
    ∙ ap (λ ys. take i writes ++ ys) (inserted-here w y (drop (i + 1) writes) (nat_lt-true w.number y.number here))
    ∙ ap (λ ys. take i writes ++ w ∷ ys) (sym at)

pub from-end : (w : Journaled) (writes : List Journaled) (i : ℕ) → length writes ≤ i → from w writes i ≡ take i writes ++ w ∷ drop i writes
from-end w writes i past =
    ap (λ ys. take i writes ++ with_write_by_number w ys) (drop_all i writes past) ∙ ap (λ ys. take i writes ++ w ∷ ys) (sym (drop_all i writes past))

-- the first gap from one write on
gap-follows : (before : ℕ) (y : Journaled) (ys : List Journaled) → y.number ≡ before + 1 → first_gap before (y ∷ ys) ≡ first_gap (before + 1) ys
gap-follows before y ys follows = elim (eqb_tells y.number (before + 1)) [ inl same ↦ rw same.0 refl | inr other ↦ absurd (other.1 follows) ]

gap-misses : (before : ℕ) (y : Journaled) (ys : List Journaled) → y.number ≢ before + 1 → first_gap before (y ∷ ys) ≡ Some y.number
gap-misses before y ys misses = elim (eqb_tells y.number (before + 1)) [ inl same ↦ absurd (misses same.1) | inr other ↦ rw other.0 refl ]

pub gap-next : (before : ℕ) (writes : List Journaled) (i : ℕ) (y : Journaled) → i < length writes → y ≡ get_or writes i y → y.number ≡ before + 1 →
    first_gap before (drop i writes) ≡ first_gap (before + 1) (drop (i + 1) writes)
gap-next before writes i y within is follows =
    let at : drop i writes ≡ y ∷ drop (i + 1) writes = drop_more writes i y within ∙ ap (λ (z : Journaled). z ∷ drop (i + 1) writes) (sym is) in
    ap (first_gap before) at ∙ gap-follows before y (drop (i + 1) writes) follows

pub gap-here : (before : ℕ) (writes : List Journaled) (i : ℕ) (y : Journaled) → i < length writes → y ≡ get_or writes i y → y.number ≢ before + 1 →
    first_gap before (drop i writes) ≡ Some y.number
gap-here before writes i y within is misses =
    let at : drop i writes ≡ y ∷ drop (i + 1) writes = drop_more writes i y within ∙ ap (λ (z : Journaled). z ∷ drop (i + 1) writes) (sym is) in
    ap (first_gap before) at ∙ gap-misses before y (drop (i + 1) writes) misses

pub gap-end : (before : ℕ) (writes : List Journaled) (i : ℕ) → length writes ≤ i → first_gap before (drop i writes) ≡ None
gap-end before writes i past = ap (first_gap before) (drop_all i writes past)
