use Rattle.std.proofs.Common.{◌≡◌, ◌<◌, ◌≤◌, ◌++◌, ◌+◌, ◌-◌, ℕ, List, [], length, take, drop, min, ap, sym, ◌∙◌, arith, take-append-drop, length-append, length-drop, length-take, length-take-le, drop_of_length-le}
use Rattle.std.proofs.Math.Seq.{take-append_seam}
use Rattle.std.proofs.lemmas.List.{drop-drop, drop_at, take_rest}
use Rattle.plx_port.proofs.incoming.MemSourceSource.read.Goals as goal

-- what is left is the bytes given, and what is behind them
given-rest : (at n : ℕ) (bytes front rest : List ℕ) → n ≤ length (drop at bytes) → front ≡ take n (drop at bytes)
    → drop at bytes ≡ take n (front ++ rest) ++ drop (at + n) bytes
given-rest at n bytes front rest short e =
    let left = drop at bytes in
    let len : length front ≡ n = ap length e ∙ length-take-le n left short in
    let same : take n (front ++ rest) ≡ take n left = ap (λ k. take k (front ++ rest)) (sym len) ∙ take-append_seam front rest ∙ e in
    sym (take-append-drop n left) ∙ ap (λ x. x ++ drop n left) (sym same) ∙ ap (λ x. take n (front ++ rest) ++ x) (drop-drop n at bytes)

-- no byte is given to a buffer that isn't empty only where none is left
at_end : (at n piece least : ℕ) (into front bytes : List ℕ) → n ≡ min (length into) least → least ≡ min piece (length (drop at bytes)) → 0 < piece
    → length front ≡ length (take n into) → n ≡ 0 → 0 < length (front ++ drop n into) → drop at bytes ≡ []
at_end at n piece least into front bytes count less some same none room =
    let within : 0 < length into = omega (arith, length-append front (drop n into), length-drop n into, length-take n into) in
    drop_of_length-le bytes (omega (arith, length-drop at bytes))

pub returns-clause-given : goal.returns-clause-given
returns-clause-given c =
    let at = c.self.inside.at in
    let n = c.min-count.result in
    let bytes = c.self.inside.bytes.items in
    let left = λ (l : List ℕ). take (length l - at) (drop at l) in
    let part : left c.deref-2.result.now ≡ drop at bytes = ap left c.deref-2.ensures.value ∙ take_rest bytes at in
    let front : c.copy_from_slice.new.self ≡ take n (drop at bytes) = c.copy_from_slice.ensures.after ∙ ap (take n) part in
    let least = c.min.ensures ∙ ap (λ l. min c.self.inside.piece (length l)) part in
    let count = c.min-count.ensures in
    rw (← c.self.view_is) (
      given-rest at n bytes c.copy_from_slice.new.self _ (omega (arith, least, count)) front,
      at_end at n _ _ c.args.into.now c.copy_from_slice.new.self bytes count least c.self.invariant.1 c.copy_from_slice.ensures.len,
    )

pub returns-clause-length : goal.returns-clause-length
returns-clause-length c =
    let at = c.self.inside.at in
    let bytes = c.self.inside.bytes.items in
    let left = λ (l : List ℕ). take (length l - at) (drop at l) in
    let part : left c.deref-2.result.now ≡ drop at bytes = ap left c.deref-2.ensures.value ∙ take_rest bytes at in
    let least = c.min.ensures ∙ ap (λ l. min c.self.inside.piece (length l)) part in
    rw (← c.self.view_is) (c.min-count.ensures ∙ ap (min (length c.args.into.now)) least)

pub returns-clause-bytes : goal.returns-clause-bytes
returns-clause-bytes c =
    let at = c.self.inside.at in
    let n = c.min-count.result in
    let bytes = c.self.inside.bytes.items in
    let left = λ (l : List ℕ). take (length l - at) (drop at l) in
    let part : left c.deref-2.result.now ≡ drop at bytes = ap left c.deref-2.ensures.value ∙ take_rest bytes at in
    let front : c.copy_from_slice.new.self ≡ take n (drop at bytes) = c.copy_from_slice.ensures.after ∙ ap (take n) part in
    rw (← c.self.view_is) (ap (λ l. l ++ drop n c.args.into.now) front)

pub returns-clause-rest : goal.returns-clause-rest
returns-clause-rest c =
    let at = c.self.inside.at in
    let n = c.min-count.result in
    let bytes = c.self.inside.bytes.items in
    let left = λ (l : List ℕ). take (length l - at) (drop at l) in
    let part : left c.deref-2.result.now ≡ drop at bytes = ap left c.deref-2.ensures.value ∙ take_rest bytes at in
    let front : c.copy_from_slice.new.self ≡ take n (drop at bytes) = c.copy_from_slice.ensures.after ∙ ap (take n) part in
    let least = c.min.ensures ∙ ap (λ l. min c.self.inside.piece (length l)) part in
    let short : n ≤ length (drop at bytes) = omega (arith, least, c.min-count.ensures) in
    drop_at c.copy_from_slice.new.self (drop n c.args.into.now) n (ap length front ∙ length-take-le n (drop at bytes) short)
