-- What is taken of a source, from one read to the next and at the end.
use Rattle.std.proofs.Common.{◌≡◌, ◌≢◌, ℕ, ◌+◌, ◌≤◌, List, [], ◌++◌, Option, Some, None, Result, Ok, Err, length, take, drop, sym, ap, subst, ◌∙◌, append-nil, arith, length-append, length-take-le}
use Rattle.std.proofs.Math.Seq.{take-add}
use Rattle.std.proofs.KnownBytes.{Consumes-trans}
use Rattle.std.proofs.lemmas.List.{drop_at}
use Rattle.std.specs.Io.KnownBytes.{Consumes, IsAtEnd}
use Rattle.std.specs.Prelude.{IfErr}
use Rattle.plx_port.specs.Faults.{Rose}
use Rattle.plx_port.specs.Streams.{ReadsToEnd, TakesCount}
use Rattle.plx_port.specs.declared.reading.ReadError.{ReadError}
use Rattle.plx_port.specs.declared.reading.ReadError.TheVariants.{TooLong}

-- the filled front of a buffer was taken, and then what stands behind it
pub Consumes-more : (a b c : Option (List ℕ)) (xs ys : List ℕ) (filled n : ℕ) → take filled ys ≡ take filled xs
    → Consumes a b (take filled xs) → Consumes b c (take n (drop filled ys)) → Consumes a c (take (filled + n) ys)
Consumes-more a b c xs ys filled n same before more =
    let joined : take (filled + n) ys ≡ take filled xs ++ take n (drop filled ys) =
    take-add filled n ys ∙ ap (λ l. l ++ take n (drop filled ys)) same in
    subst (Consumes a c) (sym joined) (Consumes-trans a b c _ _ before more)

-- so many bytes were taken as stand in the filled front
pub TakesCount-front : (a b : Option (List ℕ)) (xs : List ℕ) (filled : ℕ) → filled ≤ length xs → Consumes a b (take filled xs) → TakesCount a b filled
TakesCount-front None b xs filled within taken = tt
TakesCount-front (Some left) None xs filled within taken = absurd taken
TakesCount-front (Some left) (Some rest) xs filled within taken =
    let front : length (take filled xs) ≡ filled = length-take-le filled xs within in (
      omega (arith, ap length taken, length-append (take filled xs) rest),
      ap (λ (l : List ℕ). Some l) (sym (ap (drop filled) taken ∙ drop_at (take filled xs) rest filled front)),
    )

-- where none is left, what was taken is all
pub ReadsToEnd-front : (a b c : Option (List ℕ)) (bs new : List ℕ) → Consumes a b bs → IsAtEnd b → Consumes b c [] → new ≡ bs → ReadsToEnd a c new
ReadsToEnd-front None b c bs new taken end none same = tt
ReadsToEnd-front (Some left) None c bs new taken end none same = absurd taken
ReadsToEnd-front (Some left) (Some rest) None bs new taken end none same = absurd none
ReadsToEnd-front (Some left) (Some rest) (Some after) bs new taken end none same =
    (same ∙ sym (taken ∙ ap (λ l. bs ++ l) end ∙ append-nil bs), ap (λ (l : List ℕ). Some l) (sym none ∙ end))

-- a failure after so many bytes were taken
pub stopped-at : {T : Type 0} (result : Result T ReadError) (a b : Option (List ℕ)) (limit filled : ℕ) → filled ≤ limit → TakesCount a b filled
    → IfErr result (λ e. e ≢ TooLong → (n : ℕ) × (n ≤ limit) × TakesCount a b n)
stopped-at (Ok value) a b limit filled within taken = tt
stopped-at (Err error) a b limit filled within taken = λ other. (filled, within, taken)

-- a count that rose rose from any earlier one
pub Rose-before : (before between after : ℕ) → before ≤ between → between ≤ after → Rose between after → Rose before after
Rose-before before between after lower upper rose = grind (arith, rose)
