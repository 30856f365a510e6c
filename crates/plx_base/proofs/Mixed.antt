-- Writes that land sector by sector, as the bytes of a block on which some sectors have landed.
use Rattle.std.proofs.Common.{◌≡◌, ℕ, ◌+◌, ◌-◌, ◌*◌, ◌≤◌, ◌<◌, List, [], ◌∷◌, ◌++◌, length, take, drop, zero, suc, refl, ap, sym, ◌∙◌, Bool, true, false, Some, slice_set, arith, length-append, replicate, inl, inr, ◌⊎◌}
use Rattle.std.specs.Prelude.{slice_get, slice_index, if◌then◌else◌}
use Rattle.std.proofs.lemmas.List.{length-take, length-drop, take-append-drop, take_at, drop_at, nil_from_length, get_or-drop, get_or-take, get_or_append_left, get_or-append_right}
use Rattle.plx_base.specs.Sectors.{with_landed_sector, with_landed_sectors}

-- the first sector
length-front : (xs : List ℕ) (n : ℕ) → length xs ≡ 512 * suc n → length (take 512 xs) ≡ 512
length-front xs n h = simp length-take (omega arith)

-- the sectors after it
length-back : (xs : List ℕ) (n : ℕ) → length xs ≡ 512 * suc n → length (drop 512 xs) ≡ 512 * n
length-back xs n h = simp length-drop (omega arith)

-- either of two blocks of one length
length-picked : (flag : Bool) (new old : List ℕ) (n : ℕ) → length new ≡ n → length old ≡ n → length (if flag then new else old) ≡ n
length-picked true new old n hn ho = hn
length-picked false new old n hn ho = ho

-- the first sector of either
picked-front : (flag : Bool) (new old : List ℕ) (n : ℕ) → length new ≡ 512 * suc n → length old ≡ 512 * suc n → length (take 512 (if flag then new else old)) ≡ 512
picked-front flag new old n hn ho = length-front (if flag then new else old) n (length-picked flag new old (512 * suc n) hn ho)

-- a byte after the first sector of either
picked-drop : (flag : Bool) (new old : List ℕ) (k : ℕ) →
    slice_index (if flag then (drop 512 new) else (drop 512 old)) k ≡ slice_index (if flag then new else old) (512 + k)
picked-drop true new old k = get_or-drop 512 new k 0
picked-drop false new old k = get_or-drop 512 old k 0

-- a block keeps its length
pub length-mixed : (flags : List Bool) (new old : List ℕ) → length new ≡ 512 * length flags → length old ≡ 512 * length flags →
    length (with_landed_sectors flags new old) ≡ 512 * length flags
length-mixed [] new old hn ho = ho
length-mixed (flag ∷ flags) new old hn ho =
    let back = length-mixed flags (drop 512 new) (drop 512 old) (length-back new (length flags) hn) (length-back old (length flags) ho) in
    simp length-append (omega (arith, back, picked-front flag new old (length flags) hn ho))

-- the landing of one more sector sets its flag
pub mixed-landed : (flags : List Bool) (new old : List ℕ) (sector : ℕ) (flag : Bool) → slice_get flags sector ≡ Some flag →
    length new ≡ 512 * length flags → length old ≡ 512 * length flags →
    with_landed_sector sector new (with_landed_sectors flags new old) ≡ with_landed_sectors (slice_set flags sector true) new old
mixed-landed [] new old sector flag at hn ho = cc
mixed-landed (f ∷ flags) new old zero flag at hn ho =
    ap (λ rest. take 512 new ++ rest)
    (drop_at (take 512 (if f then new else old)) (with_landed_sectors flags (drop 512 new) (drop 512 old)) 512 (picked-front f new old (length flags) hn ho))
mixed-landed (f ∷ flags) new old (suc sector) flag at hn ho =
    let front = take 512 (if f then new else old) in
    let back = with_landed_sectors flags (drop 512 new) (drop 512 old) in
    let long = picked-front f new old (length flags) hn ho in
    let ih = mixed-landed flags (drop 512 new) (drop 512 old) sector flag at (length-back new (length flags) hn) (length-back old (length flags) ho) in
    rw (take_at front back 512 long, drop_at front back 512 long) (ap (λ rest. front ++ rest) ih)

-- once all have landed, the new bytes stand
pub mixed-all : (n : ℕ) (new old : List ℕ) → length new ≡ 512 * n → length old ≡ 512 * n → with_landed_sectors (replicate n true) new old ≡ new
mixed-all zero new old h ho = nil_from_length old (omega arith) ∙ sym (nil_from_length new (omega arith))
mixed-all (suc n) new old h ho =
    ap (λ rest. take 512 new ++ rest) (mixed-all n (drop 512 new) (drop 512 old) (length-back new n h) (length-back old n ho)) ∙ take-append-drop 512 new

-- a block that lands on itself stays
pub mixed-same : (flags : List Bool) (bytes : List ℕ) → with_landed_sectors flags bytes bytes ≡ bytes
mixed-same [] bytes = refl
mixed-same (true ∷ flags) bytes = ap (λ rest. take 512 bytes ++ rest) (mixed-same flags (drop 512 bytes)) ∙ take-append-drop 512 bytes
mixed-same (false ∷ flags) bytes = ap (λ rest. take 512 bytes ++ rest) (mixed-same flags (drop 512 bytes)) ∙ take-append-drop 512 bytes

-- a write that changes nothing past the first sector takes effect whole or not at all
pub mixed-first_sector : (flags : List Bool) (new old : List ℕ) → drop 512 new ≡ drop 512 old →
    (with_landed_sectors flags new old ≡ new) ⊎ (with_landed_sectors flags new old ≡ old)
mixed-first_sector [] new old h = inr refl
mixed-first_sector (true ∷ flags) new old h =
    inl (rw (← h) (ap (λ rest. take 512 new ++ rest) (mixed-same flags (drop 512 new)) ∙ take-append-drop 512 new))
mixed-first_sector (false ∷ flags) new old h =
    inr (rw h (ap (λ rest. take 512 old ++ rest) (mixed-same flags (drop 512 old)) ∙ take-append-drop 512 old))

-- with no sector landed, the old bytes stand
pub mixed-none : (n : ℕ) (new old : List ℕ) → with_landed_sectors (replicate n false) new old ≡ old
mixed-none zero new old = refl
mixed-none (suc n) new old = ap (λ rest. take 512 old ++ rest) (mixed-none n (drop 512 new) (drop 512 old)) ∙ take-append-drop 512 old

-- a byte of a mix, by the flag of its sector
pub mixed-byte : (flags : List Bool) (new old : List ℕ) (sector k : ℕ) (flag : Bool) → slice_get flags sector ≡ Some flag →
    length new ≡ 512 * length flags → length old ≡ 512 * length flags → 512 * sector ≤ k → k < 512 * sector + 512 →
    slice_index (with_landed_sectors flags new old) k ≡ slice_index (if flag then new else old) k
mixed-byte [] new old sector k flag at hn ho low high = cc
mixed-byte (f ∷ flags) new old zero k flag at hn ho low high =
    let same : f ≡ flag = cc in
    let front = picked-front f new old (length flags) hn ho in
    rw (← same)
    (get_or_append_left (take 512 (if f then new else old)) (with_landed_sectors flags (drop 512 new) (drop 512 old)) 0 k (omega (arith, front))
    ∙ get_or-take 512 (if f then new else old) k 0 (omega arith))
mixed-byte (f ∷ flags) new old (suc sector) k flag at hn ho low high =
    let front = picked-front f new old (length flags) hn ho in
    let e : 512 + (k - 512) ≡ k = omega arith in
    get_or-append_right (take 512 (if f then new else old)) (with_landed_sectors flags (drop 512 new) (drop 512 old)) 512 k 0 front (omega arith)
    ∙ (mixed-byte flags (drop 512 new) (drop 512 old) sector (k - 512) flag at (length-back new (length flags) hn) (length-back old (length flags) ho) (omega arith) (omega arith)
    ∙ (picked-drop flag new old (k - 512) ∙ ap (λ j. slice_index (if flag then new else old) j) e))
