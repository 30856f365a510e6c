-- Records as blocks: each is read back as itself, is spelled in one way, and differs from another in its first sector alone.
use Rattle.std.proofs.Common.{◌≡◌, ◌≢◌, ℕ, zero, suc, ◌+◌, ◌-◌, ◌*◌, ◌^◌, ◌<◌, ◌≤◌, List, [], ◌∷◌, ◌++◌, length, take, drop, replicate, get_or, refl, ap, sym, ◌∙◌, arith, inl, inr, subst, append_assoc, length-append, Bool, true, false, Option, Some, None}
use Rattle.std.proofs.Math.Seq.{take-add}
use Rattle.std.proofs.lemmas.List.{drop-drop, drop_at, take_at, drop-replicate, length-replicate, length-drop, length-take-le, take-append-drop, append-nil, drop_all, get_or_append_left, get_or-append_right, replicate-append-replicate}
use Rattle.std.proofs.lemmas.Slice.Eq.{bytes_eq-Decides}
use Rattle.std.specs.Prelude.{slice_index, slice_index_or, ◌&&◌, if◌then◌else◌}
use Rattle.std.specs.List.{All}
use Rattle.std.specs.Str.{bytes_eq}
use Rattle.plx_base.specs.Blocks.{zeros, with_bytes_at}
use Rattle.plx_base.specs.Fields.{little, number_at}
use Rattle.plx_base.specs.Sectors.{with_landed_sector}
use Rattle.plx_base.specs.declared.stored.Field.{Field}
use Rattle.plx_base.specs.declared.stored.Field.TheVariants.{U32, U64, U128}
use Rattle.plx_base.specs.Spelling.{width_of, field_number, with_number, fields_width, fields_bytes, fields_at, head_of, padded_bytes, block_of_fields, read_by, IsReading, OnlySector}
use Rattle.plx_base.proofs.Written.{length-written, drop-written, written-past}
use Rattle.plx_base.proofs.Uniform.{All-replicate, replicate-All}
use Rattle.plx_base.proofs.Fields.{length-little, number_at-along, number_at-little, little-number_at}
use Rattle.plx_base.proofs.Tests.{either, and-left, and-right}

-- each field is a number of its width
abbrev pub AreFields : List Field → Type 0
AreFields [] = Unit {0}
AreFields (field ∷ fields) = (field_number field < 256 ^ width_of field) × AreFields fields

-- a field with its own number is the same
with-same : (field : Field) → with_number field (field_number field) ≡ field
with-same (U32 number) = refl
with-same (U64 number) = refl
with-same (U128 number) = refl

-- with a number it keeps its width
width-with : (field : Field) (n : ℕ) → width_of (with_number field n) ≡ width_of field
width-with (U32 number) n = refl
width-with (U64 number) n = refl
width-with (U128 number) n = refl

-- and has that number
number-with : (field : Field) (n : ℕ) → field_number (with_number field n) ≡ n
number-with (U32 number) n = refl
number-with (U64 number) n = refl
number-with (U128 number) n = refl

-- fields have as many bytes as their widths say
pub length-fields : (fields : List Field) → length (fields_bytes fields) ≡ fields_width fields
length-fields [] = refl
length-fields (field ∷ fields) =
    length-append (little (width_of field) (field_number field)) (fields_bytes fields)
    ∙ (ap (λ n. n + length (fields_bytes fields)) (length-little (width_of field) (field_number field)) ∙ ap (λ n. width_of field + n) (length-fields fields))

-- a number that stands between other bytes
pub number_at-between : (width number place : ℕ) (front back : List ℕ) → length front ≡ place → number < 256 ^ width →
    number_at width place (front ++ (little width number ++ back)) ≡ number
number_at-between width number place front back long small =
    number_at-along width place 0 (front ++ (little width number ++ back)) (little width number)
    (λ k below.
    let wide = length-little width number in
    let e : place + k - place ≡ k = omega arith in
    let a : 0 + k ≡ k = omega arith in
    rw a
    (get_or-append_right front (little width number ++ back) place (place + k) 0 long (omega arith)
    ∙ (ap (λ j. get_or (little width number ++ back) j 0) e ∙ get_or_append_left (little width number) back 0 k (omega (arith, wide, below)))))
    ∙ number_at-little width number small

-- fields that stand between other bytes are read back
pub fields-back : (fields : List Field) (place : ℕ) (front back : List ℕ) → length front ≡ place → AreFields fields →
    fields_at fields place (front ++ (fields_bytes fields ++ back)) ≡ fields
fields-back [] place front back long small = refl
fields-back (field ∷ fields) place front back long small =
    let here = little (width_of field) (field_number field) in
    let bytes = front ++ ((here ++ fields_bytes fields) ++ back) in
    let first : number_at (width_of field) place bytes ≡ field_number field =
    ap (λ xs. number_at (width_of field) place (front ++ xs)) (append_assoc here (fields_bytes fields) back)
    ∙ number_at-between (width_of field) (field_number field) place front (fields_bytes fields ++ back) long small.0 in
    let longer : length (front ++ here) ≡ place + width_of field =
    let a = length-append front here in let b = length-little (width_of field) (field_number field) in omega (arith, a, b, long) in
    let regrouped : bytes ≡ (front ++ here) ++ (fields_bytes fields ++ back) =
    ap (λ xs. front ++ xs) (append_assoc here (fields_bytes fields) back) ∙ sym (append_assoc front here (fields_bytes fields ++ back)) in
    let rest : fields_at fields (place + width_of field) bytes ≡ fields =
    ap (fields_at fields (place + width_of field)) regrouped ∙ fields-back fields (place + width_of field) (front ++ here) back longer small.1 in
    let same : with_number field (number_at (width_of field) place bytes) ≡ field = ap (with_number field) first ∙ with-same field in
    λ i. same i ∷ rest i

-- the bytes of the fields that stand at a place are the bytes there
pub fields-bytes : (kinds : List Field) (place : ℕ) (bytes : List ℕ) → ((k : ℕ) → slice_index bytes k < 256) → place + fields_width kinds ≤ length bytes →
    fields_bytes (fields_at kinds place bytes) ≡ take (fields_width kinds) (drop place bytes)
fields-bytes [] place bytes small within = refl
fields-bytes (field ∷ fields) place bytes small within =
    let width = width_of field in
    let first = little-number_at width place bytes small (omega (arith, within)) in
    let rest = fields-bytes fields (place + width) bytes small (omega (arith, within)) in
    rw (width-with field (number_at width place bytes), number-with field (number_at width place bytes), first, rest, ← drop-drop width place bytes)
    (sym (take-add width (fields_width fields) (drop place bytes)))

-- two writes, the second at the end of the first, are one
pub written-next : (at : ℕ) (one other old : List ℕ) → at + length one ≤ length old →
    with_bytes_at (at + length one) other (with_bytes_at at one old) ≡ with_bytes_at at (one ++ other) old
unfolding with_bytes_at
written-next at one other old within =
    let front = take at old ++ one in
    let long : length front ≡ at + length one = let a = length-append (take at old) one in let b = length-take-le at old (omega (arith, within)) in omega (arith, a, b) in
    let m = at + length one in
    let cut : take m (front ++ drop m old) ≡ front = take_at front (drop m old) m long in
    let past : drop (m + length other) (front ++ drop m old) ≡ drop (length other) (drop m old) =
    ap (λ n. drop n (front ++ drop m old)) (let e : m + length other ≡ length other + m = omega arith in e)
    ∙ (ap (λ n. drop n (front ++ drop m old)) (let e : length other + m ≡ m + length other = omega arith in e)
    ∙ (sym (drop-drop (length other) m (front ++ drop m old)) ∙ ap (drop (length other)) (drop_at front (drop m old) m long))) in
    let far : drop (length other) (drop m old) ≡ drop (at + length (one ++ other)) old =
    drop-drop (length other) m old ∙ ap (λ n. drop n old) (let e : m + length other ≡ at + length (one ++ other) = let a = length-append one other in omega (arith, a) in e) in
    rw (cut, past, far, append_assoc (take at old) one other) refl

-- a write over a block of zeros, from its begin on
pub written-zeros : (bytes : List ℕ) → with_bytes_at 0 bytes zeros ≡ padded_bytes bytes
unfolding with_bytes_at padded_bytes zeros
written-zeros bytes = ap (λ rest. bytes ++ rest) (let e : 0 + length bytes ≡ length bytes = omega arith in ap (λ n. drop n (replicate 4096 0)) e ∙ drop-replicate (length bytes) 4096 0)

-- a padded list fills a block
pub length-padded : (bytes : List ℕ) → length bytes ≤ 4096 → length (padded_bytes bytes) ≡ 4096
unfolding padded_bytes
length-padded bytes short =
    let a = length-append bytes (replicate (4096 - length bytes) 0) in
    let b = length-replicate {A = ℕ} (4096 - length bytes) 0 in
    omega (arith, a, b, short)

-- nothing, padded, is a block of zeros
pub padded-nil : padded_bytes [] ≡ zeros
unfolding padded_bytes zeros
padded-nil = refl

-- past its bytes a padded list is zeros
pub drop-padded : (place : ℕ) (bytes : List ℕ) → length bytes ≤ place → drop place (padded_bytes bytes) ≡ replicate (4096 - place) 0
unfolding padded_bytes
drop-padded place bytes short =
    let n = length bytes in
    let e : place - n + n ≡ place = omega (arith, short) in
    let f : (4096 - n) - (place - n) ≡ 4096 - place = omega (arith, short) in
    ap (λ p. drop p (bytes ++ replicate (4096 - n) 0)) (sym (let x : n + (place - n) ≡ place = omega (arith, short) in x))
    ∙ (sym (drop-drop (place - n) n (bytes ++ replicate (4096 - n) 0))
    ∙ (ap (drop (place - n)) (drop_at bytes (replicate (4096 - n) 0) n refl) ∙ (drop-replicate (place - n) (4096 - n) 0 ∙ ap (λ m. replicate m 0) f)))

-- up to its end a padded list is the list
pub take-padded : (bytes : List ℕ) → take (length bytes) (padded_bytes bytes) ≡ bytes
unfolding padded_bytes
take-padded bytes = take_at bytes (replicate (4096 - length bytes) 0) (length bytes) refl

-- a record, written out
pub spelled-eq : (magic : List ℕ) (fields : List Field) (last : List ℕ) →
    block_of_fields magic fields last ≡ magic ++ (fields_bytes fields ++ (last ++ replicate (4096 - length (magic ++ (fields_bytes fields ++ last))) 0))
unfolding block_of_fields padded_bytes
spelled-eq magic fields last =
    let rest = replicate (4096 - length (magic ++ (fields_bytes fields ++ last))) 0 in
    append_assoc magic (fields_bytes fields ++ last) rest ∙ ap (λ xs. magic ++ xs) (append_assoc (fields_bytes fields) last rest)

-- the bytes of a record before its zeros
pub length-spelled_head : (magic : List ℕ) (fields : List Field) (last : List ℕ) →
    length (magic ++ (fields_bytes fields ++ last)) ≡ length magic + (fields_width fields + length last)
length-spelled_head magic fields last =
    let a = length-append magic (fields_bytes fields ++ last) in
    let b = length-append (fields_bytes fields) last in
    let c = length-fields fields in
    omega (arith, a, b, c)

-- a record fills a block
pub length-spelled : (magic : List ℕ) (fields : List Field) (last : List ℕ) → length magic + (fields_width fields + length last) ≤ 4096 →
    length (block_of_fields magic fields last) ≡ 4096
unfolding block_of_fields
length-spelled magic fields last short =
    let a = length-spelled_head magic fields last in
    length-padded (magic ++ (fields_bytes fields ++ last)) (omega (arith, a, short))

-- the fields of a record are read back
pub spelled-fields : (magic : List ℕ) (fields : List Field) (last : List ℕ) → AreFields fields → fields_at fields (length magic) (block_of_fields magic fields last) ≡ fields
spelled-fields magic fields last small =
    ap (fields_at fields (length magic)) (spelled-eq magic fields last)
    ∙ fields-back fields (length magic) magic (last ++ replicate (4096 - length (magic ++ (fields_bytes fields ++ last))) 0) refl small

-- and so are its last bytes
pub spelled-last : (magic : List ℕ) (fields : List Field) (last : List ℕ) (place : ℕ) → length magic + fields_width fields ≡ place →
    take (length last) (drop place (block_of_fields magic fields last)) ≡ last
spelled-last magic fields last place here =
    let rest : List ℕ = replicate (4096 - length (magic ++ (fields_bytes fields ++ last))) 0 in
    let a = length-append magic (fields_bytes fields) in
    let b = length-fields fields in
    ap (λ xs. take (length last) (drop place xs)) (spelled-eq magic fields last ∙ sym (append_assoc magic (fields_bytes fields) (last ++ rest)))
    ∙ (ap (take (length last)) (drop_at (magic ++ fields_bytes fields) (last ++ rest) place (omega (arith, a, b, here))) ∙ take_at last rest (length last) refl)

-- one sector tells all

-- a block that lands on itself stays
pub landed-same : (sector : ℕ) (bytes : List ℕ) → with_landed_sector sector bytes bytes ≡ bytes
landed-same zero bytes = take-append-drop 512 bytes
landed-same (suc sector) bytes = ap (λ rest. take 512 bytes ++ rest) (landed-same sector (drop 512 bytes)) ∙ take-append-drop 512 bytes

-- two blocks that differ in their first sector alone
pub only-first : (new old : List ℕ) → drop 512 new ≡ drop 512 old → OnlySector 0 new old
only-first new old same = record {
  own = ap (λ rest. take 512 new ++ rest) (sym same) ∙ take-append-drop 512 new;
  others = past;
}
  where
    past : (other : ℕ) → other ≢ 0 → with_landed_sector other new old ≡ old
    past zero not_first = absurd (not_first refl)
    past (suc other) not_first =
        ap (λ rest. take 512 old ++ with_landed_sector other rest (drop 512 old)) same
        ∙ (ap (λ rest. take 512 old ++ rest) (landed-same other (drop 512 old)) ∙ take-append-drop 512 old)

-- records within the first sector
pub only-padded : (new old : List ℕ) → length new ≤ 512 → length old ≤ 512 → OnlySector 0 (padded_bytes new) (padded_bytes old)
only-padded new old short short_old = only-first (padded_bytes new) (padded_bytes old) (drop-padded 512 new short ∙ sym (drop-padded 512 old short_old))

-- so two records differ in their first sector alone
pub only-spelled : (magic : List ℕ) (fields : List Field) (last : List ℕ) (old_magic : List ℕ) (old_fields : List Field) (old_last : List ℕ) →
    length magic + (fields_width fields + length last) ≤ 512 → length old_magic + (fields_width old_fields + length old_last) ≤ 512 →
    OnlySector 0 (block_of_fields magic fields last) (block_of_fields old_magic old_fields old_last)
unfolding block_of_fields
only-spelled magic fields last old_magic old_fields old_last short short_old =
    let a = length-spelled_head magic fields last in
    let b = length-spelled_head old_magic old_fields old_last in
    only-padded (magic ++ (fields_bytes fields ++ last)) (old_magic ++ (fields_bytes old_fields ++ old_last)) (omega (arith, a, short)) (omega (arith, b, short_old))

-- a record and an empty block
pub only-zeros : (new : List ℕ) → length new ≤ 512 → OnlySector 0 (padded_bytes new) zeros
only-zeros new short = subst (OnlySector 0 (padded_bytes new)) padded-nil (only-padded new [] short (omega arith))

-- and the other way round
pub zeros-only : (old : List ℕ) → length old ≤ 512 → OnlySector 0 zeros (padded_bytes old)
zeros-only old short = subst (λ x. OnlySector 0 x (padded_bytes old)) padded-nil (only-padded [] old (omega arith) short)

-- after a sector that both have, the next one tells all
only-next : (front : List ℕ) (sector : ℕ) (new old : List ℕ) → length front ≡ 512 → OnlySector sector new old → OnlySector (suc sector) (front ++ new) (front ++ old)
only-next front sector new old long h = record {
  own = next sector ∙ ap (λ rest. front ++ rest) h.own;
  others = past;
}
  where
    next : (k : ℕ) → with_landed_sector (suc k) (front ++ new) (front ++ old) ≡ front ++ with_landed_sector k new old
    next k = rw (take_at front old 512 long, drop_at front new 512 long, drop_at front old 512 long) refl

    past : (other : ℕ) → other ≢ suc sector → with_landed_sector other (front ++ new) (front ++ old) ≡ front ++ old
    past zero not_here = rw (take_at front new 512 long, drop_at front old 512 long) refl
    past (suc other) not_here = next other ∙ ap (λ rest. front ++ rest) (h.others other (λ e. not_here (ap suc e)))

-- a write within one sector
pub only-written : (sector at : ℕ) (new old : List ℕ) → 512 * sector ≤ at → at + length new ≤ 512 * sector + 512 → 512 * sector + 512 ≤ length old →
    OnlySector sector (with_bytes_at at new old) old
only-written zero at new old low high within = only-first (with_bytes_at at new old) old (drop-written at new old 512 (omega (arith, high, within)) (omega (arith, high)))
only-written (suc sector) at new old low high within =
    let e : 512 + (at - 512) ≡ at = omega (arith, low) in
    let rest = drop 512 old in
    let ih = only-written sector (at - 512) new rest (omega (arith, low)) (omega (arith, low, high)) (rw (length-drop 512 old) (omega (arith, within))) in
    let both = only-next (take 512 old) sector (with_bytes_at (at - 512) new rest) rest (length-take-le 512 old (omega (arith, within))) ih in
    let new_is : take 512 old ++ with_bytes_at (at - 512) new rest ≡ with_bytes_at at new old =
    sym (written-past 512 (at - 512) new old (omega (arith, within))) ∙ ap (λ n. with_bytes_at n new old) e in
    subst (λ x. OnlySector (suc sector) x old) new_is (subst (OnlySector (suc sector) (take 512 old ++ with_bytes_at (at - 512) new rest)) (take-append-drop 512 old) both)

-- readings are exact

-- a value within its limits is read back from its spelling
pub read-back : {A : Type 0} (is_within : A → Bool) (spelling : A → List ℕ) (found a : A) → is_within a ≡ true → found ≡ a →
    read_by is_within spelling found (spelling a) ≡ Some a
read-back is_within spelling found a within same =
    rw (same, within, (bytes_eq-Decides (spelling a) (spelling a)).1 refl) refl

-- bytes that spell what was found
pub read-some : {A : Type 0} (is_within : A → Bool) (spelling : A → List ℕ) (found : A) (bytes : List ℕ) → is_within found ≡ true → bytes ≡ spelling found →
    read_by is_within spelling found bytes ≡ Some found
read-some is_within spelling found bytes within is = rw (within, (bytes_eq-Decides bytes (spelling found)).1 is) refl

-- what was found is past its limits
pub read-past : {A : Type 0} (is_within : A → Bool) (spelling : A → List ℕ) (found : A) (bytes : List ℕ) → is_within found ≡ false →
    read_by is_within spelling found bytes ≡ None
read-past is_within spelling found bytes past = rw past refl

-- other bytes spell what was found
pub read-unspelled : {A : Type 0} (is_within : A → Bool) (spelling : A → List ℕ) (found : A) (bytes : List ℕ) → bytes ≢ spelling found →
    read_by is_within spelling found bytes ≡ None
read-unspelled is_within spelling found bytes other =
    go (is_within found) (bytes_eq bytes (spelling found)) (λ e. other ((bytes_eq-Decides bytes (spelling found)).0 e))
  where
    go : (a b : Bool) → ¬ (b ≡ true) → (if a && b then Some found else None) ≡ None
    go false b h = refl
    go true true h = absurd (h refl)
    go true false h = refl

-- what is read is within its limits and spelled by the bytes
pub read-only : {A : Type 0} (is_within : A → Bool) (spelling : A → List ℕ) (found a : A) (bytes : List ℕ) → read_by is_within spelling found bytes ≡ Some a →
    (is_within a ≡ true) × (bytes ≡ spelling a) × (found ≡ a)
read-only is_within spelling found a bytes h = elim (either (is_within found && bytes_eq bytes (spelling found))) [
  | inl taken ↦
      let same : found ≡ a = some-same (read-by-true found _ taken ∙ h) in
      let within = and-left (is_within found) (bytes_eq bytes (spelling found)) taken in
      let here = (bytes_eq-Decides bytes (spelling found)).0 (and-right (is_within found) (bytes_eq bytes (spelling found)) taken) in
      (ap is_within (sym same) ∙ within, here ∙ ap spelling same, same)
  | inr refused ↦ let bad : None ≡ Some a = sym (read-by-false found _ refused) ∙ h in absurd (cc)
]
  where
    read-by-true : {A : Type 0} (x : A) (b : Bool) → b ≡ true → Some x ≡ (if b then Some x else None)
    read-by-true x b e = rw e refl

    read-by-false : {A : Type 0} (x : A) (b : Bool) → b ≡ false → (if b then Some x else None) ≡ None
    read-by-false x b e = rw e refl

    some-same : {A : Type 0} {x y : A} → Some x ≡ Some y → x ≡ y
    some-same e = cc

-- so the reading is exact, where values within the limits are found in their spelling
pub read-exact : {A : Type 0} (Is : A → Type 0) (is_within : A → Bool) (spelling : A → List ℕ) (found : List ℕ → A) →
    ((a : A) → Is a → is_within a ≡ true) → ((a : A) → is_within a ≡ true → Is a) → ((a : A) → Is a → found (spelling a) ≡ a) →
    (bytes : List ℕ) → IsReading Is spelling bytes (read_by is_within spelling (found bytes) bytes)
read-exact Is is_within spelling found tests told back bytes =
    by_result (read_by is_within spelling (found bytes) bytes)
    (λ a h. let x = read-only is_within spelling (found bytes) a bytes h in (told a x.0, x.1))
    (λ a is same.
    ap (λ xs. read_by is_within spelling (found xs) xs) same ∙ read-back is_within spelling (found (spelling a)) a (tests a is) (back a is))
  where
    by_result : (result : Option _) → ((a : _) → result ≡ Some a → Is a × (bytes ≡ spelling a)) → ((a : _) → Is a → bytes ≡ spelling a → result ≡ Some a) →
        IsReading Is spelling bytes result
    by_result (Some a) one other = one a refl
    by_result None one other = λ a is same. let bad = other a is same in absurd (cc)

-- the fields that are left, the first of them and the others
fields-left : (fields : List Field) (index : ℕ) (other : Field) → index < length fields → drop index fields ≡ slice_index_or fields index other ∷ drop (index + 1) fields
fields-left [] index other below = absurd (omega (arith, below))
fields-left (field ∷ fields) zero other below = refl
fields-left (field ∷ fields) (suc index) other below =
    let e : suc index + 1 ≡ suc (index + 1) = omega arith in
    fields-left fields index other (omega (arith, below)) ∙ ap (λ n. slice_index_or fields index other ∷ drop n (field ∷ fields)) (sym e)

-- what is still to be written makes the whole, also after one more field was written
pub put-next : (fields : List Field) (index place end : ℕ) (other : Field) (bytes new whole : List ℕ) → index < length fields → end ≤ length bytes →
    place + fields_width (drop index fields) ≡ end → with_bytes_at place (fields_bytes (drop index fields)) bytes ≡ whole →
    new ≡ with_bytes_at place (little (width_of (slice_index_or fields index other)) (field_number (slice_index_or fields index other))) bytes →
    (length new ≡ length bytes)
    × (place + width_of (slice_index_or fields index other) + fields_width (drop (index + 1) fields) ≡ end)
    × (with_bytes_at (place + width_of (slice_index_or fields index other)) (fields_bytes (drop (index + 1) fields)) new ≡ whole)
put-next fields index place end other bytes new whole below within width is made =
    go (slice_index_or fields index other) (drop index fields) (drop (index + 1) fields) (fields-left fields index other below) width is made
  where
    go : (field : Field) (left rest : List Field) → left ≡ field ∷ rest → place + fields_width left ≡ end → with_bytes_at place (fields_bytes left) bytes ≡ whole →
        new ≡ with_bytes_at place (little (width_of field) (field_number field)) bytes →
        (length new ≡ length bytes) × (place + width_of field + fields_width rest ≡ end) × (with_bytes_at (place + width_of field) (fields_bytes rest) new ≡ whole)
    go field left rest same width is made =
        let long = length-little (width_of field) (field_number field) in
        let wide : place + (width_of field + fields_width rest) ≡ end = ap (λ xs. place + fields_width xs) (sym same) ∙ width in
        let here : place + length (little (width_of field) (field_number field)) ≤ length bytes = omega (arith, long, wide, within) in (
          ap length made ∙ length-written place (little (width_of field) (field_number field)) bytes here,
          omega (arith, wide),
          ap (λ n. with_bytes_at (place + n) (fields_bytes rest) new) (sym long)
              ∙ (ap (with_bytes_at (place + length (little (width_of field) (field_number field))) (fields_bytes rest)) made
              ∙ (written-next place (little (width_of field) (field_number field)) (fields_bytes rest) bytes here
              ∙ (ap (λ xs. with_bytes_at place (fields_bytes xs) bytes) (sym same) ∙ is))),
        )

-- a write of nothing changes nothing
pub written-nil : (at : ℕ) (bytes : List ℕ) → with_bytes_at at [] bytes ≡ bytes
unfolding with_bytes_at
written-nil at bytes = let e : at + 0 ≡ at = omega arith in rw (append-nil (take at bytes), e) (take-append-drop at bytes)

-- where nothing is left, all is written
pub put-end : (fields : List Field) (index place : ℕ) (bytes whole : List ℕ) → length fields ≤ index → with_bytes_at place (fields_bytes (drop index fields)) bytes ≡ whole → bytes ≡ whole
put-end fields index place bytes whole past is =
    sym (written-nil place bytes) ∙ (ap (λ xs. with_bytes_at place (fields_bytes xs) bytes) (sym (drop_all index fields past)) ∙ is)

-- a block of zeros is full
pub length-zeros : length zeros ≡ 4096
unfolding zeros
length-zeros = length-replicate {A = ℕ} 4096 0

-- as many zeros as a block has bytes
pub zeros-is : (bytes : List ℕ) (n : ℕ) → n ≡ 4096 → bytes ≡ replicate n 0 → bytes ≡ zeros
unfolding zeros
zeros-is bytes n full is = is ∙ ap (λ m. replicate m 0) full

-- the magic, the fields and the last bytes are written, each after the one before
pub head-written : (magic : List ℕ) (fields : List Field) (last old : List ℕ) (end : ℕ) → length magic + (fields_width fields + length last) ≤ length old →
    length magic + fields_width fields ≡ end →
    with_bytes_at end last (with_bytes_at (length magic) (fields_bytes fields) (with_bytes_at 0 magic old)) ≡ with_bytes_at 0 (head_of magic fields last) old
head-written magic fields last old end short here =
    let long = length-fields fields in
    let both = length-append magic (fields_bytes fields) in
    let a : 0 + length magic ≡ length magic = omega arith in
    let b : 0 + length (magic ++ fields_bytes fields) ≡ end = omega (arith, both, long, here) in
    let one : with_bytes_at (length magic) (fields_bytes fields) (with_bytes_at 0 magic old) ≡ with_bytes_at 0 (magic ++ fields_bytes fields) old =
    ap (λ n. with_bytes_at n (fields_bytes fields) (with_bytes_at 0 magic old)) (sym a) ∙ written-next 0 magic (fields_bytes fields) old (omega (arith, short)) in
    ap (with_bytes_at end last) one
    ∙ (ap (λ n. with_bytes_at n last (with_bytes_at 0 (magic ++ fields_bytes fields) old)) (sym b)
    ∙ (written-next 0 (magic ++ fields_bytes fields) last old (omega (arith, short, both, long))
    ∙ ap (λ xs. with_bytes_at 0 xs old) (append_assoc magic (fields_bytes fields) last)))

-- a record is its head, and zeros
pub spelled-head : (magic : List ℕ) (fields : List Field) (last : List ℕ) → block_of_fields magic fields last ≡ padded_bytes (head_of magic fields last)
unfolding block_of_fields
spelled-head magic fields last = refl

-- over zeros that makes a record
pub record-written : (magic : List ℕ) (fields : List Field) (last : List ℕ) → with_bytes_at 0 (head_of magic fields last) zeros ≡ block_of_fields magic fields last
unfolding block_of_fields
record-written magic fields last = written-zeros (head_of magic fields last)

-- a short head over a sector of zeros, and the zeros of all other sectors, are the whole record
padded-sectors : (head : List ℕ) → length head ≤ 512 → padded_bytes head ≡ with_bytes_at 0 head (replicate 512 0) ++ replicate 3584 0
unfolding padded_bytes with_bytes_at
padded-sectors head short =
    let n = length head in
    let e : 0 + n ≡ n = omega arith in
    let cut : drop (0 + n) (replicate 512 0) ≡ replicate (512 - n) 0 = ap (λ m. drop m (replicate 512 0)) e ∙ drop-replicate n 512 0 in
    let all : replicate (512 - n) 0 ++ replicate 3584 0 ≡ replicate (4096 - n) 0 =
    replicate-append-replicate (512 - n) 3584 0 ∙ ap (λ m. replicate m 0) (let x : 512 - n + 3584 ≡ 4096 - n = omega (arith, short) in x) in
    ap (λ xs. head ++ xs) (sym all)
    ∙ (sym (append_assoc head (replicate (512 - n) 0) (replicate 3584 0)) ∙ ap (λ xs. (head ++ xs) ++ replicate 3584 0) (sym cut))

-- so a block whose first sector is that, and whose others are zeros, is the record
pub sectors-record : (bytes head sector : List ℕ) → length bytes ≡ 4096 → length head ≤ 512 → sector ≡ with_bytes_at 0 head (replicate 512 0) → take 512 bytes ≡ sector →
    All (λ b. b ≡ 0) (drop 512 bytes) → bytes ≡ padded_bytes head
sectors-record bytes head sector long short is first others =
    let rest : drop 512 bytes ≡ replicate 3584 0 = replicate-All 0 3584 (drop 512 bytes) (length-drop 512 bytes ∙ (let x : length bytes - 512 ≡ 3584 = omega (arith, long) in x)) others in
    sym (take-append-drop 512 bytes) ∙ (ap (λ xs. xs ++ drop 512 bytes) (first ∙ is) ∙ (ap (λ xs. with_bytes_at 0 head (replicate 512 0) ++ xs) rest ∙ sym (padded-sectors head short)))

-- and the other way round
pub record-sectors : (bytes head sector : List ℕ) → length head ≤ 512 → sector ≡ with_bytes_at 0 head (replicate 512 0) → bytes ≡ padded_bytes head →
    (take 512 bytes ≡ sector) × All (λ b. b ≡ 0) (drop 512 bytes)
record-sectors bytes head sector short is same =
    let zeros' : List ℕ = replicate 512 0 in
    let full : length zeros' ≡ 512 = length-replicate {A = ℕ} 512 0 in
    let long : length sector ≡ 512 = ap length is ∙ (length-written 0 head zeros' (omega (arith, short, full)) ∙ full) in
    let parts : bytes ≡ sector ++ replicate 3584 0 = same ∙ (padded-sectors head short ∙ ap (λ xs. xs ++ replicate 3584 0) (sym is)) in
    let rest : drop 512 bytes ≡ replicate 3584 0 = ap (drop 512) parts ∙ drop_at sector (replicate 3584 0) 512 long in
    (ap (take 512) parts ∙ take_at sector (replicate 3584 0) 512 long, subst (All (λ b. b ≡ 0)) (sym rest) (All-replicate 0 3584))

-- the same of equal blocks
pub only-of : (sector : ℕ) (new old other other_old : List ℕ) → new ≡ other → old ≡ other_old → OnlySector sector other other_old → OnlySector sector new old
only-of sector new old other other_old same same_old only =
    subst (λ x. OnlySector sector x old) (sym same) (subst (λ x. OnlySector sector other x) (sym same_old) only)
