use Rattle.std.proofs.Common.{◌≡◌, ℕ, ◌+◌, ◌*◌, ◌<◌, ◌≤◌, ◌/◌, ◌%◌, List, [], ◌∷◌, length, get_or, ap, arith}
use Rattle.plx_words.specs.Pieces.{hex_byte, hex_digit}
use Rattle.plx_words.proofs.data.read_byte.Goals as goal

-- two digits spell a byte
byte-of : (text : List ℕ) (high low : ℕ) → 2 ≤ length text → length text < 3 → high < 16 → low < 16 → get_or text 0 0 ≡ hex_digit high → get_or text 1 0 ≡ hex_digit low
    → (16 * high + low < 256) × (text ≡ hex_byte (16 * high + low))
byte-of [] high low least most above below first second = absurd (omega arith)
byte-of (glyph ∷ []) high low least most above below first second = absurd (omega arith)
byte-of (glyph ∷ other ∷ []) high low least most above below first second =
    let quotient : (16 * high + low) / 16 ≡ high = omega arith in
    let rest : (16 * high + low) % 16 ≡ low = omega arith in
    (omega arith, rw (quotient, rest, first, second))
byte-of (glyph ∷ other ∷ third ∷ more) high low least most above below first second = absurd (omega arith)

pub returns-in_err-read_digit-clause-none : goal.returns-in_err-read_digit-clause-none
returns-in_err-read_digit-clause-none c = rw c.from_residual.ensures (λ byte small same.
    c.in_err-read_digit.ensures.none (byte / 16) (omega arith) (ap (λ (text : List ℕ). get_or text 0 0) same))

pub returns-in_err-read_digit-2-clause-none : goal.returns-in_err-read_digit-2-clause-none
returns-in_err-read_digit-2-clause-none c = rw c.from_residual-in_err-read_digit-2.ensures (λ byte small same.
    c.in_err-read_digit-2.ensures.none (byte % 16) (omega arith) (ap (λ (text : List ℕ). get_or text 1 0) same))

pub returns-clause-some : goal.returns-clause-some
returns-clause-some c =
    let high = c.in_ok-read_digit.ensures.some in
    let low = c.in_ok-read_digit-2.ensures.some in
    byte-of c.args.text.now c.in_ok-read_digit.field-0 c.in_ok-read_digit-2.field-0 c.in-len2.len_at_least c.in-len2.len_below high.0 low.0 high.1 low.1
