-- Bytes after others were written over them at a place.
use Rattle.std.proofs.Common.{◌≡◌, ℕ, ◌+◌, ◌-◌, ◌≤◌, ◌<◌, List, [], ◌++◌, length, take, drop, get_or, refl, ap, sym, ◌∙◌, arith, append_assoc, length-append, length-drop}
use Rattle.std.proofs.lemmas.List.{append-nil, length-take-le, drop_all, drop_at, take_at, drop-take, drop-append-le, take-append-le, take-take, get_or_append_left, get_or-append_right, get_or-take, get_or-drop, take-append-drop, drop-drop}
use Rattle.std.proofs.Math.Seq.{take-add}
use Rattle.std.specs.Prelude.{slice_index}
use Rattle.plx_base.specs.Blocks.{with_bytes_at}

-- the parts of a write
pub written-parts : (at : ℕ) (new old : List ℕ) → with_bytes_at at new old ≡ take at old ++ (new ++ drop (at + length new) old)
unfolding with_bytes_at
written-parts at new old = append_assoc (take at old) new (drop (at + length new) old)

-- the length stays
pub length-written : (at : ℕ) (new old : List ℕ) → at + length new ≤ length old → length (with_bytes_at at new old) ≡ length old
length-written at new old h =
    rw (written-parts at new old, length-append, length-append, length-take-le at old (omega arith), length-drop) (omega arith)

-- what stands before the place stays
pub written-before : (at : ℕ) (new old : List ℕ) (k : ℕ) → at ≤ length old → k < at → slice_index (with_bytes_at at new old) k ≡ slice_index old k
written-before at new old k h below =
    let k' : k < length (take at old) = omega (arith, length-take-le at old h) in
    rw (written-parts at new old)
    (get_or_append_left (take at old) (new ++ drop (at + length new) old) 0 k k' ∙ get_or-take at old k 0 below)

-- the new bytes stand at the place
pub written-inside : (at : ℕ) (new old : List ℕ) (k : ℕ) → at ≤ length old → k < length new → slice_index (with_bytes_at at new old) (at + k) ≡ slice_index new k
written-inside at new old k h below =
    let e : at + k - at ≡ k = omega arith in
    rw (written-parts at new old)
    (get_or-append_right (take at old) (new ++ drop (at + length new) old) at (at + k) 0 (length-take-le at old h) (omega arith)
    ∙ (ap (λ j. get_or (new ++ drop (at + length new) old) j 0) e ∙ get_or_append_left new (drop (at + length new) old) 0 k below))

-- what stands after the new bytes stays
pub written-after : (at : ℕ) (new old : List ℕ) (k : ℕ) → at ≤ length old → at + length new ≤ k → slice_index (with_bytes_at at new old) k ≡ slice_index old k
written-after at new old k h above =
    let e : (at + length new) + ((k - at) - length new) ≡ k = omega arith in
    rw (written-parts at new old)
    (get_or-append_right (take at old) (new ++ drop (at + length new) old) at k 0 (length-take-le at old h) (omega arith)
    ∙ (get_or-append_right new (drop (at + length new) old) (length new) (k - at) 0 refl (omega arith)
    ∙ (get_or-drop (at + length new) old ((k - at) - length new) 0 ∙ ap (λ x. get_or old x 0) e)))

-- writing what stands there changes nothing
pub written-again : (at n : ℕ) (old : List ℕ) → at + n ≤ length old → with_bytes_at at (take n (drop at old)) old ≡ old
written-again at n old h =
    let long : length (take n (drop at old)) ≡ n = length-take-le n (drop at old) (rw (length-drop at old) (omega arith)) in
    rw (written-parts at (take n (drop at old)) old, long, ← drop-drop n at old, take-append-drop n (drop at old), take-append-drop at old) refl

-- the new bytes are those at the place
pub part-written : (at : ℕ) (new old : List ℕ) → at ≤ length old → take (length new) (drop at (with_bytes_at at new old)) ≡ new
part-written at new old h =
    rw (written-parts at new old, drop_at (take at old) (new ++ drop (at + length new) old) at (length-take-le at old h))
    (take_at new (drop (at + length new) old) (length new) refl)

-- a part before the place stays
pub part-before : (at : ℕ) (new old : List ℕ) (place n : ℕ) → at ≤ length old → place + n ≤ at → take n (drop place (with_bytes_at at new old)) ≡ take n (drop place old)
part-before at new old place n h before =
    let long = length-take-le at old h in
    let rest = new ++ drop (at + length new) old in
    let e : place + (at - place) ≡ at = omega (arith, before) in
    let cut : drop place (take at old) ≡ take (at - place) (drop place old) = ap (λ m. drop place (take m old)) (sym e) ∙ drop-take place (at - place) old in
    let short : length (drop place (take at old)) ≡ at - place = length-drop place (take at old) ∙ ap (λ m. m - place) long in
    rw (written-parts at new old, drop-append-le place (take at old) rest (omega (arith, long, before)), take-append-le n (drop place (take at old)) rest (omega (arith, short, before)), cut)
    (take-take n (at - place) (drop place old) (omega (arith, before)))

-- all that stands after the new bytes stays
pub drop-written : (at : ℕ) (new old : List ℕ) (place : ℕ) → at ≤ length old → at + length new ≤ place → drop place (with_bytes_at at new old) ≡ drop place old
drop-written at new old place h after =
    let front = take at old ++ new in
    let m = at + length new in
    let long : length front ≡ m = let a = length-append (take at old) new in let b = length-take-le at old h in omega (arith, a, b) in
    let e : m + (place - m) ≡ place = omega (arith, after) in
    let parts : with_bytes_at at new old ≡ front ++ drop m old = written-parts at new old ∙ sym (append_assoc (take at old) new (drop m old)) in
    ap (λ n. drop n (with_bytes_at at new old)) (sym e)
    ∙ (ap (drop (m + (place - m))) parts
    ∙ (sym (drop-drop (place - m) m (front ++ drop m old)) ∙ (ap (drop (place - m)) (drop_at front (drop m old) m long) ∙ (drop-drop (place - m) m old ∙ ap (λ n. drop n old) e))))

-- a part after the new bytes stays
pub part-after : (at : ℕ) (new old : List ℕ) (place n : ℕ) → at ≤ length old → at + length new ≤ place → take n (drop place (with_bytes_at at new old)) ≡ take n (drop place old)
part-after at new old place n h after = ap (take n) (drop-written at new old place h after)

-- a write past some first bytes
pub written-past : (n at : ℕ) (new old : List ℕ) → n ≤ length old → with_bytes_at (n + at) new old ≡ take n old ++ with_bytes_at at new (drop n old)
written-past n at new old h =
    let e : n + at + length new ≡ n + (at + length new) = omega arith in
    let f : n + (at + length new) ≡ at + length new + n = omega arith in
    let back : drop (at + length new) (drop n old) ≡ drop (n + at + length new) old = drop-drop (at + length new) n old ∙ ap (λ m. drop m old) (omega arith) in
    rw (written-parts (n + at) new old, written-parts at new (drop n old), take-add n at old, back) (append_assoc (take n old) (take at (drop n old)) (new ++ drop (n + at + length new) old))

-- a write over all
pub written-whole : (new old : List ℕ) → length new ≡ length old → with_bytes_at 0 new old ≡ new
written-whole new old long =
    let none : drop (0 + length new) old ≡ [] = drop_all (0 + length new) old (omega (arith, long)) in
    written-parts 0 new old ∙ (ap (λ rest. take 0 old ++ (new ++ rest)) none ∙ append-nil new)
