-- Journalled writes in order of number.
use Rattle.std.proofs.Common.{◌≡◌, ◌≢◌, ℕ, zero, suc, ◌+◌, ◌≤◌, ◌<◌, List, [], ◌∷◌, length, Bool, true, false, Option, Some, None, refl, ap, sym, subst, ◌∙◌, arith, inl, inr, ◌⊎◌}
use Rattle.std.specs.Prelude.{slice_get, nat_lt, if◌then◌else◌, ◌==◌}
use Rattle.std.proofs.lemmas.Bool.Decides.{eqb_tells}
use Rattle.plx_rules.specs.Session.{with_write_by_number, first_gap}
use Rattle.plx_rules.specs.Journaled.{Journaled}
use Rattle.plx_base.proofs.Tests.{lt-cases, eqb-is, eqb-isn't}

abbrev pub HasWrite : List Journaled → Journaled → Type 0
HasWrite writes write = (k : ℕ) × (slice_get writes k ≡ Some write)

has-later : (x : Journaled) (writes : List Journaled) (write : Journaled) → HasWrite writes write → HasWrite (x ∷ writes) write
has-later x writes write has = (suc has.0, has.1)

-- what is there once one more is inserted
pub has-inserted : (new : Journaled) (writes : List Journaled) (write : Journaled) → HasWrite (with_write_by_number new writes) write → (write ≡ new) ⊎ HasWrite writes write
has-inserted new [] write (zero, e) = inl cc
has-inserted new [] write (suc k, e) = absurd (let P : ⊥ = cc in P)
has-inserted new (x ∷ writes) write has = by-test (nat_lt new.number x.number) (has-inserted new writes write) has
  where
    at-new : (k : ℕ) → slice_get (new ∷ x ∷ writes) k ≡ Some write → (write ≡ new) ⊎ HasWrite (x ∷ writes) write
    at-new zero e = inl cc
    at-new (suc k) e = inr (k, e)

    at-old : (write ≡ new) ⊎ HasWrite writes write → (write ≡ new) ⊎ HasWrite (x ∷ writes) write
    at-old (inl e) = inl e
    at-old (inr has') = inr (has-later x writes write has')

    past : (k : ℕ) → slice_get (x ∷ with_write_by_number new writes) k ≡ Some write → (HasWrite (with_write_by_number new writes) write → (write ≡ new) ⊎ HasWrite writes write) → (write ≡ new) ⊎ HasWrite (x ∷ writes) write
    past zero e ih = inr (zero, e)
    past (suc k) e ih = at-old (ih (k, e))

    by-test : (test : Bool) → (HasWrite (with_write_by_number new writes) write → (write ≡ new) ⊎ HasWrite writes write) → HasWrite (if test then new ∷ x ∷ writes else x ∷ with_write_by_number new writes) write →
        (write ≡ new) ⊎ HasWrite (x ∷ writes) write
    by-test true ih h = at-new h.0 h.1
    by-test false ih h = past h.0 h.1 ih

pub inserted-new : (new : Journaled) (writes : List Journaled) → HasWrite (with_write_by_number new writes) new
inserted-new new [] = (zero, refl)
inserted-new new (x ∷ writes) = by-test (nat_lt new.number x.number) (inserted-new new writes)
  where
    by-test : (test : Bool) → HasWrite (with_write_by_number new writes) new → HasWrite (if test then new ∷ x ∷ writes else x ∷ with_write_by_number new writes) new
    by-test true ih = (zero, refl)
    by-test false ih = has-later x (with_write_by_number new writes) new ih

pub inserted-old : (new : Journaled) (writes : List Journaled) (write : Journaled) → HasWrite writes write → HasWrite (with_write_by_number new writes) write
inserted-old new [] write has = absurd (let e = has.1 in let P : ⊥ = cc in P)
inserted-old new (x ∷ writes) write has = by-test (nat_lt new.number x.number) has.0 has.1 (inserted-old new writes write)
  where
    by-test : (test : Bool) (k : ℕ) → slice_get (x ∷ writes) k ≡ Some write → (HasWrite writes write → HasWrite (with_write_by_number new writes) write) →
        HasWrite (if test then new ∷ x ∷ writes else x ∷ with_write_by_number new writes) write
    by-test true k e ih = (suc k, e)
    by-test false zero e ih = (zero, e)
    by-test false (suc k) e ih = has-later x (with_write_by_number new writes) write (ih (k, e))

pub length-inserted : (new : Journaled) (writes : List Journaled) → length (with_write_by_number new writes) ≡ suc (length writes)
length-inserted new [] = refl
length-inserted new (x ∷ writes) = by-test (nat_lt new.number x.number) (length-inserted new writes)
  where
    by-test : (test : Bool) → length (with_write_by_number new writes) ≡ suc (length writes) → length (if test then new ∷ x ∷ writes else x ∷ with_write_by_number new writes) ≡ suc (suc (length writes))
    by-test true ih = refl
    by-test false ih = ap suc ih

-- each write has a greater number than the one before it
abbrev pub Ascending : ℕ → List Journaled → Type 0
Ascending before [] = Unit {0}
Ascending before (write ∷ writes) = (before < write.number) × Ascending write.number writes

pub ascending-inserted : (before : ℕ) (new : Journaled) (writes : List Journaled) → before < new.number → ((write : Journaled) → HasWrite writes write → write.number ≢ new.number) →
    Ascending before writes → Ascending before (with_write_by_number new writes)
ascending-inserted before new [] above apart ascending = (above, tt)
ascending-inserted before new (x ∷ writes) above apart ascending = elim (lt-cases new.number x.number) [
  | inl below ↦ rw below.0 (above, (below.1, ascending.1))
  | inr past ↦
      let ne : x.number ≢ new.number = apart x (zero, refl) in
      rw past.0 (ascending.0, ascending-inserted x.number new writes (above-it past.1 ne) (λ write has. apart write (has-later x writes write has)) ascending.1)
]
  where
    above-it : x.number ≤ new.number → x.number ≢ new.number → x.number < new.number
    above-it le ne = elim (eqb_tells x.number new.number) [ inl same ↦ absurd (ne same.1) | inr other ↦ omega (arith, le, other.1) ]

-- each of them has at least the first number
pub above-all : (before : ℕ) (writes : List Journaled) → Ascending before writes → (write : Journaled) → HasWrite writes write → before < write.number
above-all before [] ascending write has = absurd (let e = has.1 in let P : ⊥ = cc in P)
above-all before (x ∷ writes) ascending write (zero, e) = let same : x ≡ write = cc in let first = ascending.0 in subst (λ (w : Journaled). before < w.number) same first
above-all before (x ∷ writes) ascending write (suc k, e) = let later = above-all x.number writes ascending.1 write (k, e) in let first = ascending.0 in omega arith

-- without a gap they are numbered one after another
by-number : {X : Type 0} (test : Bool) (rest other found : Option X) → (if test then rest else other) ≡ found → ((test ≡ true) × (rest ≡ found)) ⊎ ((test ≡ false) × (other ≡ found))
by-number true rest other found e = inl (refl, e)
by-number false rest other found e = inr (refl, e)

pub numbers-ascend : (before : ℕ) (writes : List Journaled) → first_gap before writes ≡ None → (k : ℕ) (write : Journaled) → slice_get writes k ≡ Some write → write.number ≡ before + k + 1
numbers-ascend before [] e k write found = absurd (let P : ⊥ = cc in P)
numbers-ascend before (x ∷ writes) e zero write found = elim (by-number (x.number == before + 1) (first_gap (before + 1) writes) (Some x.number) None e) [
  | inl follows ↦ let n = eqb-is x.number (before + 1) follows.0 in let same : x ≡ write = cc in subst (λ (w : Journaled). w.number ≡ before + 0 + 1) same (omega arith)
  | inr gap ↦ absurd (let f = gap.1 in let P : ⊥ = cc in P)
]
numbers-ascend before (x ∷ writes) e (suc k) write found = elim (by-number (x.number == before + 1) (first_gap (before + 1) writes) (Some x.number) None e) [
  | inl follows ↦ let n = numbers-ascend (before + 1) writes follows.1 k write found in omega arith
  | inr gap ↦ absurd (let f = gap.1 in let P : ⊥ = cc in P)
]

-- a gap: a number is missing, all between are there, and the write has the least number above it
pub record IsGap (before : ℕ) (writes : List Journaled) (number : ℕ) : Type 0 where
  pub write : Journaled
  pub has : HasWrite writes write
  pub is : write.number ≡ number
  pub missing : ℕ
  pub above : before < missing
  pub below : missing < number
  pub there : (n : ℕ) → before < n → n < missing → (w : Journaled) × HasWrite writes w × (w.number ≡ n)
  pub least : (w : Journaled) → HasWrite writes w → missing ≤ w.number → number ≤ w.number

pub gap-is : (before : ℕ) (writes : List Journaled) (number : ℕ) → Ascending before writes → first_gap before writes ≡ Some number → IsGap before writes number
gap-is before [] number ascending e = absurd (let P : ⊥ = cc in P)
gap-is before (x ∷ writes) number ascending e = elim (by-number (x.number == before + 1) (first_gap (before + 1) writes) (Some x.number) (Some number) e) [
  | inl follows ↦
      let n = eqb-is x.number (before + 1) follows.0 in
      let later = gap-is (before + 1) writes number (subst (λ m. Ascending m writes) n ascending.1) follows.1 in
      record {
        write = later.write;
        has = has-later x writes later.write later.has;
        is = later.is;
        missing = later.missing;
        above = (let above = later.above in omega arith);
        below = later.below;
        there = λ m above under. elim (eqb_tells m (before + 1)) [
          | inl same ↦ (x, (zero, refl), n ∙ sym same.1)
          | inr other ↦ let found = later.there m (omega (arith, other.1)) under in (found.0, has-later x writes found.0 found.1, found.2)
        ];
        least = λ w has le. at-place later.missing w has.0 has.1 le (λ h. later.least w h le) n later.above;
      }
  | inr gap ↦
      let same : x.number ≡ number = (let f = gap.1 in cc) in
      let ne = eqb-isn't x.number (before + 1) gap.0 in
      record {
        write = x;
        has = (zero, refl);
        is = same;
        missing = before + 1;
        above = omega arith;
        below = (let a = ascending.0 in omega (arith, ne));
        there = λ m above under. absurd (omega arith);
        least = λ w has le. all-above w has.0 has.1 same;
      }
]
  where
    all-above : (w : Journaled) (k : ℕ) → slice_get (x ∷ writes) k ≡ Some w → x.number ≡ number → number ≤ w.number
    all-above w zero found is = let same : x ≡ w = cc in subst (λ (v : Journaled). number ≤ v.number) same (omega arith)
    all-above w (suc k) found is = let later = above-all x.number writes ascending.1 w (k, found) in omega arith

    at-place : (missing : ℕ) (w : Journaled) (k : ℕ) → slice_get (x ∷ writes) k ≡ Some w → missing ≤ w.number → (HasWrite writes w → number ≤ w.number) → x.number ≡ before + 1 → before + 1 < missing →
        number ≤ w.number
    at-place missing w zero found le later n above = let same : x ≡ w = cc in absurd (let e = ap (λ (v : Journaled). v.number) same in omega arith)
    at-place missing w (suc k) found le later n above = later (k, found)
