-- The lease to be named, of those that a reading has reached.
use Rattle.std.proofs.Common.{◌≡◌, ℕ, ◌≤◌, ◌<◌, ◌⊎◌, List, [], ◌∷◌, Bool, true, false, Option, Some, None, refl, ap, sym, subst, ◌∙◌, arith, inl, inr}
use Rattle.std.specs.Prelude.{if◌then◌else◌, nat_le}
use Rattle.std.proofs.lemmas.Bool.Decides.{leb_tells, eqb_tells}
use Rattle.plx_base.proofs.Tests.{clash, lt-cases, nat_le-past, nat_le-tells}
use Rattle.plx_rules.specs.InUse.{InUse, IsNamedFirst, IsUse, is_before, earlier, first_reached}

-- one lease ends first, or both end together and it isn't after the other
abbrev pub NotAfter : InUse → InUse → Type 0
NotAfter one other = (one.until < other.until) ⊎ ((one.until ≡ other.until) × (one.lease ≤ other.lease))

-- the test whether one is to be named before another
before-cases : (one other : InUse) → ((is_before one other ≡ true) × NotAfter one other) ⊎ ((is_before one other ≡ false) × NotAfter other one)
before-cases one other = elim (lt-cases one.until other.until) [
  | inl less ↦ inl (rw less.0 refl, inl less.1)
  | inr more ↦ elim (eqb_tells one.until other.until) [
    | inl same ↦ elim (lt-cases one.lease other.lease) [
      | inl lower ↦ inl (rw (more.0, same.0, lower.0) refl, inr (same.1, omega (arith, lower.1)))
      | inr upper ↦ inr (rw (more.0, same.0, upper.0) refl, inr (sym same.1, upper.1))
    ]
    | inr apart ↦ inr (rw (more.0, apart.0) refl, inl (omega (arith, more.1, apart.1)))
  ]
]

-- the one to be named, by its end and its number
pub first-cases : (one other : InUse) → IsNamedFirst one other → NotAfter one other
first-cases one other first = elim (before-cases other one) [
  | inl before ↦ absurd (clash (is_before other one) before.0 first)
  | inr after ↦ after.1
]

pub named-first : (one other : InUse) → NotAfter one other → IsNamedFirst one other
named-first one other order = elim (lt-cases other.until one.until) [
  | inl less ↦ absurd (elim order [ inl earlier' ↦ let P : ⊥ = omega (arith, less.1, earlier') in P | inr same ↦ let P : ⊥ = omega (arith, less.1, same.0) in P ])
  | inr more ↦ elim (eqb_tells other.until one.until) [
    | inl same ↦ elim (lt-cases other.lease one.lease) [
      | inl lower ↦ absurd (elim order [ inl earlier' ↦ let P : ⊥ = omega (arith, same.1, earlier') in P | inr together ↦ let P : ⊥ = omega (arith, lower.1, together.1) in P ])
      | inr upper ↦ rw (more.0, same.0, upper.0) refl
    ]
    | inr apart ↦ rw (more.0, apart.0) refl
  ]
]

-- so is one of itself
pub same-first : (one other : InUse) → one.until ≡ other.until → one.lease ≡ other.lease → IsNamedFirst one other
same-first one other until lease = named-first one other (inr (until, omega (arith, lease)))

after-trans : (a b c : InUse) → IsNamedFirst a b → IsNamedFirst b c → IsNamedFirst a c
after-trans a b c first second = named-first a c (by-cases (first-cases a b first) (first-cases b c second))
  where
    by-cases : NotAfter a b → NotAfter b c → NotAfter a c
    by-cases (inl x) (inl y) = inl (omega arith)
    by-cases (inl x) (inr y) = inl (omega (arith, x, y.0))
    by-cases (inr x) (inl y) = inl (omega (arith, x.0, y))
    by-cases (inr x) (inr y) = inr (x.0 ∙ y.0, omega (arith, x.1, y.1))

-- it is the one to be named of those that the reading has reached
pub record IsFirstDue (uses : List InUse) (reading : ℕ) (due : InUse) : Type 0 where
  pub among : IsUse due uses
  pub past : due.until ≤ reading
  pub first : (other : InUse) → IsUse other uses → other.until ≤ reading → IsNamedFirst due other

-- what the reading says of them
abbrev pub TellsFirstDue : List InUse → ℕ → Option InUse → Type 0
TellsFirstDue uses reading None = (other : InUse) → IsUse other uses → reading < other.until
TellsFirstDue uses reading (Some due) = IsFirstDue uses reading due

by-earlier : (one : InUse) (others : List InUse) (reading : ℕ) (rest : Option InUse) → one.until ≤ reading → TellsFirstDue others reading rest → IsFirstDue (one ∷ others) reading (earlier one rest)
by-earlier one others reading None past tells = record {
  among = inl refl;
  past = past;
  first = go;
}
  where
    go : (other : InUse) → IsUse other (one ∷ others) → other.until ≤ reading → IsNamedFirst one other
    go other (inl same) late = same-first one other (sym (ap (λ (u : InUse). u.until) same)) (sym (ap (λ (u : InUse). u.lease) same))
    go other (inr there) late = absurd (let early = tells other there in omega arith)
by-earlier one others reading (Some due) past tells = elim (before-cases due one) [
  | inl first' ↦ rw first'.0 (record { among = inr tells.among; past = tells.past; first = λ other is late. due-first other is late (named-first due one first'.1) })
  | inr later ↦ rw later.0 (record { among = inl refl; past = past; first = λ other is late. one-first other is late later.0 })
]
  where
    due-first : (other : InUse) → IsUse other (one ∷ others) → other.until ≤ reading → IsNamedFirst due one → IsNamedFirst due other
    due-first other (inl same) late order = subst (λ (u : InUse). IsNamedFirst due u) (sym same) order
    due-first other (inr there) late order = tells.first other there late

    one-first : (other : InUse) → IsUse other (one ∷ others) → other.until ≤ reading → IsNamedFirst one due → IsNamedFirst one other
    one-first other (inl same) late order = same-first one other (sym (ap (λ (u : InUse). u.until) same)) (sym (ap (λ (u : InUse). u.lease) same))
    one-first other (inr there) late order = after-trans one due other order (tells.first other there late)

passes-by : (one : InUse) (others : List InUse) (reading : ℕ) (rest : Option InUse) → reading < one.until → TellsFirstDue others reading rest → TellsFirstDue (one ∷ others) reading rest
passes-by one others reading None early tells = go
  where
    go : (other : InUse) → IsUse other (one ∷ others) → reading < other.until
    go other (inl same) = (let e = ap (λ (u : InUse). u.until) same in omega arith)
    go other (inr there) = tells other there
passes-by one others reading (Some due) early tells = record { among = inr tells.among; past = tells.past; first = go }
  where
    go : (other : InUse) → IsUse other (one ∷ others) → other.until ≤ reading → IsNamedFirst due other
    go other (inl same) late = absurd (let e = ap (λ (u : InUse). u.until) same in omega arith)
    go other (inr there) late = tells.first other there late

pub first-tells : (uses : List InUse) (reading : ℕ) → TellsFirstDue uses reading (first_reached uses reading)
first-tells [] reading = λ other is. absurd is
first-tells (one ∷ others) reading = elim (leb_tells one.until reading) [
  | inl past ↦ rw past.0 (by-earlier one others reading (first_reached others reading) past.1 (first-tells others reading))
  | inr early ↦ rw early.0 (passes-by one others reading (first_reached others reading) (omega (arith, early.1)) (first-tells others reading))
]

-- ---- two leases in use

first-until : (one other : InUse) → IsNamedFirst one other → one.until ≤ other.until
first-until one other first = elim (first-cases one other first) [ inl less ↦ omega (arith, less) | inr same ↦ omega (arith, same.0) ]

before-first : (one other : InUse) → is_before one other ≡ true → IsNamedFirst one other
before-first one other before = elim (before-cases one other) [ inl is ↦ named-first one other is.1 | inr not ↦ absurd (clash (is_before one other) before not.0) ]

abbrev reached_by : (one other : InUse) (mine its : Bool) → Option InUse
reached_by one other mine its = if mine then Some (earlier one (if its then Some other else None)) else (if its then Some other else None)

by-tests : (one other : InUse) (reading : ℕ) (before mine its : Bool) → is_before other one ≡ before → nat_le one.until reading ≡ mine → nat_le other.until reading ≡ its →
    reached_by one other mine its ≡ (if before then (if its then Some other else None) else (if mine then Some one else None))
by-tests one other reading true true true before a b = ap (λ c. Some (if c then other else one)) before
by-tests one other reading true true false before a b =
    let h = first-until other one (before-first other one before) in
    let p = nat_le-tells one.until reading a in
    let q = nat_le-past other.until reading b in
    absurd (omega (arith, h, p, q))
by-tests one other reading true false true before a b = refl
by-tests one other reading true false false before a b = refl
by-tests one other reading false true true before a b = ap (λ c. Some (if c then other else one)) before
by-tests one other reading false true false before a b = refl
by-tests one other reading false false true before a b =
    let h = first-until one other before in
    let p = nat_le-past one.until reading a in
    let q = nat_le-tells other.until reading b in
    absurd (omega (arith, h, p, q))
by-tests one other reading false false false before a b = refl

-- a reading reaches of two leases the one to be named as it reaches both
pub reached-earlier : (one other : InUse) (reading : ℕ) → first_reached (one ∷ other ∷ []) reading ≡ first_reached (earlier one (Some other) ∷ []) reading
reached-earlier one other reading = go (is_before other one) refl
  where
    go : (before : Bool) → is_before other one ≡ before → first_reached (one ∷ other ∷ []) reading ≡ first_reached ((if before then other else one) ∷ []) reading
    go true before = by-tests one other reading true (nat_le one.until reading) (nat_le other.until reading) before refl refl
    go false before = by-tests one other reading false (nat_le one.until reading) (nat_le other.until reading) before refl refl
