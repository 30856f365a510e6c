-- What tests on numbers and flags answer.
use Rattle.std.proofs.Common.{◌≡◌, ◌≢◌, ℕ, suc, ◌≤◌, ◌<◌, Bool, true, false, refl, arith, inl, inr, ◌⊎◌, ◌+◌, Some}
use Rattle.std.specs.Prelude.{◌==◌, ◌&&◌, ◌||◌, nat_lt, nat_le, not}
use Rattle.std.proofs.lemmas.Bool.Decides.{eqb_tells, leb_tells, nat_tests}

-- two numbers are equal
pub eqb-true : (a b : ℕ) → a ≡ b → (a == b) ≡ true
eqb-true a b e = elim (eqb_tells a b) [ inl same ↦ same.0 | inr other ↦ absurd (other.1 e) ]

-- or they aren't
pub eqb-false : (a b : ℕ) → a ≢ b → (a == b) ≡ false
eqb-false a b e = elim (eqb_tells a b) [ inl same ↦ absurd (e same.1) | inr other ↦ other.0 ]

-- a number is below another
pub nat_lt-true : (a b : ℕ) → a < b → nat_lt a b ≡ true
nat_lt-true a b e = elim (leb_tells (suc a) b) [ inl below ↦ below.0 | inr above ↦ absurd (omega (arith, above.1)) ]

-- or it isn't
pub nat_lt-false : (a b : ℕ) → b ≤ a → nat_lt a b ≡ false
nat_lt-false a b e = elim (leb_tells (suc a) b) [ inl below ↦ absurd (omega (arith, below.1)) | inr above ↦ above.0 ]

-- a number is at most another
pub nat_le-true : (a b : ℕ) → a ≤ b → nat_le a b ≡ true
nat_le-true a b e = elim (leb_tells a b) [ inl below ↦ below.0 | inr above ↦ absurd (omega (arith, above.1)) ]

-- or it isn't
pub nat_le-false : (a b : ℕ) → b < a → nat_le a b ≡ false
nat_le-false a b e = elim (leb_tells a b) [ inl below ↦ absurd (omega (arith, below.1)) | inr above ↦ above.0 ]

-- a flag that isn't set
pub not-true : (b : Bool) → ¬ (b ≡ true) → b ≡ false
not-true true h = absurd (h refl)
not-true false h = refl

-- three tests that hold
pub all_three : (a b c : Bool) → a ≡ true → b ≡ true → c ≡ true → (a && (b && c)) ≡ true
all_three a b c x y z = rw (x, y, z) refl

-- a test that fails beside others
pub and-no : (a b : Bool) → b ≡ false → (a && b) ≡ false
and-no true b e = e
and-no false b e = refl

-- a flag is set, or it isn't
pub either : (b : Bool) → (b ≡ true) ⊎ (b ≡ false)
either true = inl refl
either false = inr refl

-- a number whose test says so is below the other
pub nat_lt-tells : (a b : ℕ) → nat_lt a b ≡ true → a < b
nat_lt-tells a b e = grind (arith, nat_tests)

-- or at most the other
pub nat_le-tells : (a b : ℕ) → nat_le a b ≡ true → a ≤ b
nat_le-tells a b e = grind (arith, nat_tests)

-- or past it
pub nat_le-past : (a b : ℕ) → nat_le a b ≡ false → b < a
nat_le-past a b e = grind (arith, nat_tests)

-- a flag whose opposite isn't set
pub not-false : (b : Bool) → not b ≡ false → b ≡ true
not-false true e = refl
not-false false e = absurd (let P : ⊥ = cc in P)

-- of two tests that hold the first holds
pub and-left : (a b : Bool) → (a && b) ≡ true → a ≡ true
and-left true b h = refl
and-left false b h = h

-- and the second
pub and-right : (a b : Bool) → (a && b) ≡ true → b ≡ true
and-right true b h = h
and-right false b h = absurd (let P : ⊥ = cc in P)

-- two values are the same where they are there as the same
pub same-some : {A : Type 0} (one other : A) → Some one ≡ Some other → one ≡ other
same-some one other same = cc

-- a number below the next one is that number, or below it
pub below-next : (k i : ℕ) → k < i + 1 → (k ≡ i) ⊎ (k < i)
below-next k i h = grind arith

-- a number is below another or isn't
pub below-or-past : (k n : ℕ) → (k < n) ⊎ (n ≤ k)
below-or-past k n = grind arith

-- a number is below another, or it isn't
pub lt-cases : (a b : ℕ) → ((nat_lt a b ≡ true) × (a < b)) ⊎ ((nat_lt a b ≡ false) × (b ≤ a))
lt-cases a b = elim (leb_tells (suc a) b) [ inl below ↦ inl below | inr above ↦ inr (above.0, omega (arith, above.1)) ]

-- a test has one outcome
pub clash : (test : Bool) → test ≡ true → test ≡ false → ⊥
clash test h e = cc

-- both of two tests hold
pub and-parts : (a b : Bool) → (a && b) ≡ true → (a ≡ true) × (b ≡ true)
and-parts true b e = (refl, e)
and-parts false b e = absurd (let P : ⊥ = cc in P)

-- neither of two tests holds
pub or-parts : (a b : Bool) → (a || b) ≡ false → (a ≡ false) × (b ≡ false)
or-parts true b e = absurd (let P : ⊥ = cc in P)
or-parts false b e = (refl, e)

-- what the outcome of a test on numbers tells
pub eqb-is : (a b : ℕ) → (a == b) ≡ true → a ≡ b
eqb-is a b e = elim (eqb_tells a b) [ inl same ↦ same.1 | inr other ↦ absurd (let f = other.0 in let P : ⊥ = cc in P) ]

pub eqb-isn't : (a b : ℕ) → (a == b) ≡ false → a ≢ b
eqb-isn't a b e = elim (eqb_tells a b) [ inl same ↦ absurd (let f = same.0 in let P : ⊥ = cc in P) | inr other ↦ other.1 ]

pub lt-isn't : (a b : ℕ) → nat_lt a b ≡ false → b ≤ a
lt-isn't a b e = elim (lt-cases a b) [ inl below ↦ absurd (clash (nat_lt a b) below.0 e) | inr above ↦ above.1 ]

-- a flag whose opposite is set
pub opposite-true : (b : Bool) → not b ≡ true → b ≡ false
opposite-true true e = cc
opposite-true false e = refl
