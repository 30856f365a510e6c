use Rattle.std.proofs.Common.{◌≡◌, ◌<◌, ◌≤◌, ◌++◌, ℕ, List, [], Option, None, Some, IfSome, length, take, drop, min, ap, sym, subst, ◌∙◌, arith, length-append, length-drop, length-take, length-take-le}
use Rattle.std.proofs.Math.Seq.{take-append_seam}
use Rattle.std.proofs.BufReadLemmas.{Consumes_shown}
use Rattle.std.specs.Io.KnownBytes.{Consumes, IsAtEnd}
use Rattle.std.specs.Io.BufRead.{FillKeeps}
use Rattle.plx_port.proofs.input.take_front.Goals as goal

-- the bytes given stand in the front of the buffer
front_of : (n : ℕ) (shown front rest : List ℕ) → n ≤ length shown → front ≡ take n shown → take n (front ++ rest) ≡ take n shown
front_of n shown front rest short e =
    let len : length front ≡ n = ap length e ∙ length-take-le n shown short in
    ap (λ k. take k (front ++ rest)) (sym len) ∙ take-append_seam front rest ∙ e

-- no byte is given to a buffer that isn't empty only where none is shown
none_shown : (n : ℕ) (into shown front : List ℕ) → n ≡ min (length into) (length shown) → length front ≡ length (take n into)
    → n ≡ 0 → 0 < length (front ++ drop n into) → length shown ≡ 0
none_shown n into shown front count same none room =
    omega (arith, length-append front (drop n into), length-drop n into, length-take n into)

-- where none is shown, none is left
at_end : (left : Option (List ℕ)) (shown : ℕ) → IfSome left (λ xs. shown ≡ 0 → xs ≡ []) → shown ≡ 0 → IsAtEnd left
at_end None shown end none = tt
at_end (Some xs) shown end none = end none

pub returns-clause-given : goal.returns-clause-given
returns-clause-given g c =
    let rested = c.fill_buf.follows.lender-at-none in
    let filled = subst (FillKeeps _ (g.B.Read.remaining rested) (g.B.BufRead.consumable_len rested)) c.in_ok-shown.was c.fill_buf.follows.holds-at-none in
    let shown = c.in_ok-shown.shown.now in
    let n = c.min-count.result in
    let count = c.min-count.ensures in
    let moved = Consumes_shown _ _ _ _ shown n (omega (arith, count)) c.in_ok-shown.ensures.front c.in_ok-shown.ensures.end filled.0 filled.1 c.consume.ensures.bytes in
    let copied = c.copy_from_slice.ensures in (
      subst (Consumes _ _) (sym (front_of n shown c.copy_from_slice.new.self _ (omega (arith, count)) copied.after)) moved.0,
      λ none room. at_end _ _ c.in_ok-shown.ensures.end (none_shown n c.args.into.now shown c.copy_from_slice.new.self count copied.len none room),
    )
