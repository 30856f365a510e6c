-- Journal slots of numbers that are close together.
use Rattle.std.proofs.Common.{◌≡◌, ℕ, suc, ◌+◌, ◌-◌, ◌*◌, ◌/◌, ◌%◌, ◌≤◌, ◌<◌, sym, arith, inl, inr}
use Rattle.std.proofs.Math.Nat.{mod-add-div, mod-lt, mul-suc, mul-le-mul_left}
use Rattle.std.proofs.lemmas.Bool.Decides.{leb_tells}
use Rattle.plx_rules.specs.Journal.{journal_slot}

-- two numbers with one remainder, less apart than the divisor, are one
close : (n a b : ℕ) → a ≤ b → b < a + n → a % n ≡ b % n → a ≡ b
close n a b le near same =
    let one = mod-add-div a n in
    let two = mod-add-div b n in
    elim (leb_tells (suc (a / n)) (b / n)) [
      | inl above ↦
          let more : n * suc (a / n) ≤ n * (b / n) = mul-le-mul_left n above.1 in
          let step = mul-suc n (a / n) in
          absurd (omega (arith, one, two, more, step, same, near))
      | inr below ↦
          let less : n * (b / n) ≤ n * (a / n) = mul-le-mul_left n (let P : b / n ≤ a / n = omega (arith, below.1) in P) in
          omega (arith, one, two, less, same, le)
    ]

-- writes that are less apart than there are slots have slots of their own
pub slot-apart : (slots n m : ℕ) → 1 ≤ n → 1 ≤ m → n < m + slots → m < n + slots → journal_slot slots n ≡ journal_slot slots m → n ≡ m
slot-apart slots n m low low' near near' same = elim (leb_tells n m) [
  | inl le ↦ (let e = close slots (n - 1) (m - 1) (omega (arith, le.1)) (omega arith) same in omega (arith, e))
  | inr above ↦ (let e = close slots (m - 1) (n - 1) (omega (arith, above.1)) (omega arith) (sym same) in omega (arith, e))
]

-- each slot is below their number
pub slot-below : (slots n : ℕ) → 1 ≤ slots → journal_slot slots n < slots
slot-below slots n some = mod-lt (n - 1) some
