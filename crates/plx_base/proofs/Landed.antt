-- A sector that lands, as a write of its bytes at its place.
use Rattle.std.proofs.Common.{◌≡◌, ℕ, ◌+◌, ◌-◌, ◌*◌, ◌≤◌, ◌<◌, List, [], ◌∷◌, ◌++◌, length, take, drop, zero, suc, refl, ap, sym, ◌∙◌, arith, append_assoc, zero-add, suc-add, length-drop}
use Rattle.std.proofs.lemmas.List.{drop-drop, length-take-le, get_or-take, get_or-drop}
use Rattle.std.specs.Prelude.{slice_index}
use Rattle.plx_base.proofs.Written.{length-written, written-before, written-inside, written-after}
use Rattle.plx_base.specs.Blocks.{with_bytes_at}
use Rattle.plx_base.specs.Sectors.{with_landed_sector}

-- no byte of nothing
take-nil : (n : ℕ) → take n (let xs : List ℕ = [] in xs) ≡ []
take-nil zero = refl
take-nil (suc n) = refl

-- two takes, one after the other
take-split : (m n : ℕ) (xs : List ℕ) → take (m + n) xs ≡ take m xs ++ take n (drop m xs)
take-split zero n xs = rw zero-add refl
take-split (suc m) n [] = rw suc-add (sym (take-nil n))
take-split (suc m) n (x ∷ xs) = rw suc-add (ap (λ rest. x ∷ rest) (take-split m n xs))

-- a landing, written out
pub landed-eq : (sector : ℕ) (new old : List ℕ) →
    take (512 * sector) old ++ (take 512 (drop (512 * sector) new) ++ drop 512 (drop (512 * sector) old)) ≡ with_landed_sector sector new old
landed-eq zero new old = refl
landed-eq (suc sector) new old =
    let e : 512 * suc sector ≡ 512 + 512 * sector = omega arith in
    rw (e, take-split 512 (512 * sector) old, append_assoc, ← drop-drop (512 * sector) 512 new, ← drop-drop (512 * sector) 512 old)
    (ap (λ rest. take 512 old ++ rest) (landed-eq sector (drop 512 new) (drop 512 old)))

-- a write at a place, written out
pub written-eq : (at : ℕ) (new old : List ℕ) → take at old ++ (new ++ drop (length new) (drop at old)) ≡ with_bytes_at at new old
unfolding with_bytes_at
written-eq at new old = rw (append_assoc, drop-drop (length new) at old) refl

-- a landing is a write of the sector's bytes at its place
pub landed-written : (sector : ℕ) (new old : List ℕ) → 512 * sector + 512 ≤ length new →
    with_landed_sector sector new old ≡ with_bytes_at (512 * sector) (take 512 (drop (512 * sector) new)) old
landed-written sector new old h =
    let long : length (take 512 (drop (512 * sector) new)) ≡ 512 = length-take-le 512 (drop (512 * sector) new) (rw (length-drop (512 * sector) new) (omega arith)) in
    sym (landed-eq sector new old)
    ∙ (ap (λ n. take (512 * sector) old ++ (take 512 (drop (512 * sector) new) ++ drop n (drop (512 * sector) old))) (sym long)
    ∙ written-eq (512 * sector) (take 512 (drop (512 * sector) new)) old)

-- the length of a sector of a block
length-sector : (sector : ℕ) (new : List ℕ) → 512 * sector + 512 ≤ length new → length (take 512 (drop (512 * sector) new)) ≡ 512
length-sector sector new h = length-take-le 512 (drop (512 * sector) new) (rw (length-drop (512 * sector) new) (omega arith))

-- the length stays
pub length-landed : (sector : ℕ) (new old : List ℕ) → 512 * sector + 512 ≤ length new → 512 * sector + 512 ≤ length old →
    length (with_landed_sector sector new old) ≡ length old
length-landed sector new old hn ho =
    rw (landed-written sector new old hn)
    (length-written (512 * sector) (take 512 (drop (512 * sector) new)) old (rw (length-sector sector new hn) ho))

-- a byte of the sector is the new one
pub landed-inside : (sector : ℕ) (new old : List ℕ) (k : ℕ) → 512 * sector + 512 ≤ length new → 512 * sector ≤ length old →
    512 * sector ≤ k → k < 512 * sector + 512 → slice_index (with_landed_sector sector new old) k ≡ slice_index new k
landed-inside sector new old k hn ho low high =
    let start = 512 * sector in
    let e : start + (k - start) ≡ k = omega arith in
    let part = take 512 (drop start new) in
    rw (landed-written sector new old hn)
    (ap (λ j. slice_index (with_bytes_at start part old) j) (sym e)
    ∙ (written-inside start part old (k - start) ho (rw (length-sector sector new hn) (omega arith))
    ∙ (get_or-take 512 (drop start new) (k - start) 0 (omega arith)
    ∙ (get_or-drop start new (k - start) 0 ∙ ap (λ j. slice_index new j) e))))

-- a byte before it is the old one
pub landed-before : (sector : ℕ) (new old : List ℕ) (k : ℕ) → 512 * sector + 512 ≤ length new → 512 * sector ≤ length old →
    k < 512 * sector → slice_index (with_landed_sector sector new old) k ≡ slice_index old k
landed-before sector new old k hn ho below =
    rw (landed-written sector new old hn) (written-before (512 * sector) (take 512 (drop (512 * sector) new)) old k ho below)

-- a byte after it is the old one
pub landed-after : (sector : ℕ) (new old : List ℕ) (k : ℕ) → 512 * sector + 512 ≤ length new → 512 * sector ≤ length old →
    512 * sector + 512 ≤ k → slice_index (with_landed_sector sector new old) k ≡ slice_index old k
landed-after sector new old k hn ho above =
    rw (landed-written sector new old hn)
    (written-after (512 * sector) (take 512 (drop (512 * sector) new)) old k ho (rw (length-sector sector new hn) above))
