-- The numbers of an appliance's writes, and how many newer ones a write has.
use Rattle.std.proofs.Common.{◌≡◌, ◌+◌, ◌-◌, ◌<◌, ℕ, zero, suc, List, [], ◌∷◌, ◌++◌, length, Some, Bool, true, false, refl, ap, sym, subst, ◌∙◌, arith, add-one}
use Rattle.std.specs.Prelude.{drop, slice_get, slice_set, if◌then◌else◌}
use Rattle.plx_disk.proofs.Lists.{push-last}
use Rattle.plx_disk.specs.Writes.{Issued}
use Rattle.plx_rules.specs.World.{IsBack, is_boot_of, issued_by}
use Rattle.plx_world.specs.Backs.{IsNth}
use Rattle.plx_world.specs.Numbers.{WaitsForNewest, with_number_if, own_numbers}

-- ---- what an event leaves of them

-- a write that keeps its owner
pub own-numbers-set : (a first : ℕ) (writes : List Issued) (n : ℕ) (w x : Issued) → slice_get writes n ≡ Some w → x.owner ≡ w.owner →
    own_numbers a first (slice_set writes n x) ≡ own_numbers a first writes
own-numbers-set a first [] n w x found same = refl
own-numbers-set a first (y ∷ writes) zero w x found same =
    let is : y ≡ w = cc in
    let owner : x.owner ≡ y.owner = same ∙ ap (λ (z : Issued). z.owner) (sym is) in
    ap (λ (o : ℕ). with_number_if (is_boot_of a o) first (own_numbers a (first + 1) writes)) owner
own-numbers-set a first (y ∷ writes) (suc n) w x found same = ap (with_number_if (is_boot_of a y.owner) first) (own-numbers-set a (first + 1) writes n w x found same)

-- one more write
counted-push : (own : Bool) (first : ℕ) (numbers more : List ℕ) → with_number_if own first (numbers ++ more) ≡ with_number_if own first numbers ++ more
counted-push true first numbers more = refl
counted-push false first numbers more = refl

pub own-push : (a first : ℕ) (writes : List Issued) (x : Issued) →
    own_numbers a first (writes ++ x ∷ []) ≡ own_numbers a first writes ++ with_number_if (is_boot_of a x.owner) (first + length writes) []
own-push a first [] x = let zero-more : first ≡ first + 0 = omega arith in ap (λ (n : ℕ). with_number_if (is_boot_of a x.owner) n []) zero-more
own-push a first (y ∷ writes) x =
    let rest : own_numbers a (first + 1) (writes ++ x ∷ []) ≡ own_numbers a (first + 1) writes ++ with_number_if (is_boot_of a x.owner) ((first + 1) + length writes) [] =
    own-push a (first + 1) writes x in
    let sum : (first + 1) + length writes ≡ first + suc (length writes) = omega arith in
    ap (with_number_if (is_boot_of a y.owner) first) (rest ∙ ap (λ (n : ℕ). own_numbers a (first + 1) writes ++ with_number_if (is_boot_of a x.owner) n []) sum)
    ∙ counted-push (is_boot_of a y.owner) first (own_numbers a (first + 1) writes) (with_number_if (is_boot_of a x.owner) (first + suc (length writes)) [])

-- ---- how many there are

counted-length : (own : Bool) (first count : ℕ) (numbers : List ℕ) → length numbers ≡ count → length (with_number_if own first numbers) ≡ (if own then 1 else 0) + count
counted-length true first count numbers e = omega (arith, e)
counted-length false first count numbers e = omega (arith, e)

pub own-length : (a first : ℕ) (writes : List Issued) → length (own_numbers a first writes) ≡ issued_by a writes
own-length a first [] = refl
own-length a first (x ∷ writes) = counted-length (is_boot_of a x.owner) first (issued_by a writes) (own_numbers a (first + 1) writes) (own-length a (first + 1) writes)

-- ---- a write with so many newer ones

-- a number among others, where the first one counts or doesn't
own-first : (a first : ℕ) (own : Bool) (writes : List Issued) (i : ℕ) → own ≡ true → i + 1 + issued_by a writes ≡ length (with_number_if own first (own_numbers a (first + 1) writes)) →
    slice_get (with_number_if own first (own_numbers a (first + 1) writes)) i ≡ Some first
own-first a first true writes zero is e = refl
own-first a first true writes (suc i) is e = let l = own-length a (first + 1) writes in absurd (omega (arith, e, l))
own-first a first false writes i is e = cc

own-later : (a first number : ℕ) (own : Bool) (writes : List Issued) (back : ℕ) → back < issued_by a writes →
    ((i : ℕ) → i + 1 + back ≡ length (own_numbers a (first + 1) writes) → slice_get (own_numbers a (first + 1) writes) i ≡ Some number) →
    (i : ℕ) → i + 1 + back ≡ length (with_number_if own first (own_numbers a (first + 1) writes)) → slice_get (with_number_if own first (own_numbers a (first + 1) writes)) i ≡ Some number
own-later a first number true writes back few rest zero e = let l = own-length a (first + 1) writes in absurd (omega (arith, e, l, few))
own-later a first number true writes back few rest (suc i) e = rest i (omega (arith, e))
own-later a first number false writes back few rest i e = rest i e

-- a write of the appliance counts among those from it on
counts-one : (own : Bool) (count : ℕ) → own ≡ true → count < (if own then 1 else 0) + count
counts-one true count e = omega arith
counts-one false count e = cc

newer-fewer : (a : ℕ) (writes : List Issued) (n : ℕ) (write : Issued) → slice_get writes n ≡ Some write → is_boot_of a write.owner ≡ true →
    issued_by a (drop (suc n) writes) < issued_by a writes
newer-fewer a [] n write found own = cc
newer-fewer a (x ∷ writes) zero write found own =
    let same : x ≡ write = cc in
    counts-one (is_boot_of a x.owner) (issued_by a writes) (ap (λ (z : Issued). is_boot_of a z.owner) same ∙ own)
newer-fewer a (x ∷ writes) (suc n) write found own = let rest = newer-fewer a writes n write found own in omega (arith, rest)

-- its number stands so far from the end
own-get : (a first : ℕ) (writes : List Issued) (n : ℕ) (write : Issued) → slice_get writes n ≡ Some write → is_boot_of a write.owner ≡ true →
    (i : ℕ) → i + 1 + issued_by a (drop (suc n) writes) ≡ length (own_numbers a first writes) → slice_get (own_numbers a first writes) i ≡ Some (first + n)
own-get a first [] n write found own i e = cc
own-get a first (x ∷ writes) zero write found own i e =
    let same : x ≡ write = cc in
    own-first a first (is_boot_of a x.owner) writes i (ap (λ (z : Issued). is_boot_of a z.owner) same ∙ own) e ∙ ap (λ (m : ℕ). Some m) (let z : first ≡ first + 0 = omega arith in z)
own-get a first (x ∷ writes) (suc n) write found own i e =
    let sum : (first + 1) + n ≡ first + suc n = omega arith in
    own-later a first ((first + 1) + n) (is_boot_of a x.owner) writes (issued_by a (drop (suc n) writes)) (newer-fewer a writes n write found own)
    (own-get a (first + 1) writes n write found own) i e
    ∙ ap (λ (m : ℕ). Some m) sum

-- the number that stands there is that of such a write
pub record IsOwn (a first : ℕ) (writes : List Issued) (i number : ℕ) : Type 0 where
  pub place : ℕ
  pub number_is : number ≡ first + place
  pub write : Issued
  pub found : slice_get writes place ≡ Some write
  pub owner : is_boot_of a write.owner ≡ true
  pub newer : i + 1 + issued_by a (drop (suc place) writes) ≡ length (own_numbers a first writes)

own-more : (a first : ℕ) (x : Issued) (writes : List Issued) (i j number : ℕ) → IsOwn a (first + 1) writes i number →
    j + 1 + issued_by a (drop (suc zero) (x ∷ writes)) ≡ j + 1 + issued_by a writes →
    length (own_numbers a first (x ∷ writes)) + i ≡ length (own_numbers a (first + 1) writes) + j → IsOwn a first (x ∷ writes) j number
own-more a first x writes i j number is e longer =
    let number-is = is.number_is in
    let newer = is.newer in
    record {
      place = suc is.place;
      number_is = omega (arith, number-is);
      write = is.write;
      found = is.found;
      owner = is.owner;
      newer = omega (arith, newer, longer);
    }

own-at : (a first : ℕ) (x : Issued) (writes : List Issued) (own : Bool) (i number : ℕ) → is_boot_of a x.owner ≡ own →
    ((j : ℕ) → slice_get (own_numbers a (first + 1) writes) j ≡ Some number → IsOwn a (first + 1) writes j number) →
    slice_get (with_number_if own first (own_numbers a (first + 1) writes)) i ≡ Some number → IsOwn a first (x ∷ writes) i number
own-at a first x writes true zero number is rest found =
    let same : first ≡ number = cc in
    let l = own-length a (first + 1) writes in
    let longer : length (own_numbers a first (x ∷ writes)) ≡ suc (length (own_numbers a (first + 1) writes)) = ap (λ (b : Bool). length (with_number_if b first (own_numbers a (first + 1) writes))) is in
    record { place = 0; number_is = omega (arith, same); write = x; found = refl; owner = is; newer = omega (arith, l, longer) }
own-at a first x writes true (suc i) number is rest found =
    let longer : length (own_numbers a first (x ∷ writes)) ≡ suc (length (own_numbers a (first + 1) writes)) = ap (λ (b : Bool). length (with_number_if b first (own_numbers a (first + 1) writes))) is in
    own-more a first x writes i (suc i) number (rest i found) refl (omega (arith, longer))
own-at a first x writes false i number is rest found =
    let longer : length (own_numbers a first (x ∷ writes)) ≡ length (own_numbers a (first + 1) writes) = ap (λ (b : Bool). length (with_number_if b first (own_numbers a (first + 1) writes))) is in
    own-more a first x writes i i number (rest i found) refl (omega (arith, longer))

own-number-is : (a first : ℕ) (writes : List Issued) (i number : ℕ) → slice_get (own_numbers a first writes) i ≡ Some number → IsOwn a first writes i number
own-number-is a first [] i number found = cc
own-number-is a first (x ∷ writes) i number found = own-at a first x writes (is_boot_of a x.owner) i number refl (λ j there. own-number-is a (first + 1) writes j number there) found

-- ---- by how many newer ones

past-one : (a : ℕ) (writes : List Issued) (n : ℕ) → issued_by a (drop (n + 1) writes) ≡ issued_by a (drop (suc n) writes)
past-one a writes n = ap (λ (m : ℕ). issued_by a (drop m writes)) (add-one n)

pub back-few : (a first : ℕ) (writes : List Issued) (back n : ℕ) (w : Issued) → IsBack writes a back n w → back < length (own_numbers a first writes)
back-few a first writes back n w is =
    let few = newer-fewer a writes n w is.found is.owner in
    let l = own-length a first writes in
    let newer : issued_by a (drop (suc n) writes) ≡ back = sym (past-one a writes n) ∙ is.newer in
    omega (arith, few, l, newer)

back-get : (a : ℕ) (writes : List Issued) (back n : ℕ) (w : Issued) → IsBack writes a back n w →
    slice_get (own_numbers a 0 writes) (length (own_numbers a 0 writes) - 1 - back) ≡ Some n
back-get a writes back n w is =
    let few = back-few a 0 writes back n w is in
    let newer : issued_by a (drop (suc n) writes) ≡ back = sym (past-one a writes n) ∙ is.newer in
    own-get a 0 writes n w is.found is.owner (length (own_numbers a 0 writes) - 1 - back) (omega (arith, few, newer))
    ∙ ap (λ (m : ℕ). Some m) (let z : 0 + n ≡ n = omega arith in z)

pub back-unique : (a : ℕ) (writes : List Issued) (back n m : ℕ) (w v : Issued) → IsBack writes a back n w → IsBack writes a back m v → n ≡ m
back-unique a writes back n m w v first second =
    let both : Some n ≡ Some m = sym (back-get a writes back n w first) ∙ back-get a writes back m v second in cc

pub nth-back : (a : ℕ) (writes : List Issued) (back number : ℕ) → IsNth (own_numbers a 0 writes) back number → (write : Issued) × IsBack writes a back number write
nth-back a writes back number is =
    let own = own-number-is a 0 writes (length (own_numbers a 0 writes) - 1 - back) number is.found in
    let within = is.within in
    let newer = own.newer in
    let one = past-one a writes own.place in
    let same : own.place ≡ number = let e = own.number_is in omega (arith, e) in
    let P : ℕ → Type 0 = λ n. IsBack writes a back n own.write in
    (own.write, subst P same (record { found = own.found; owner = own.owner; newer = omega (arith, within, newer, one) }))

-- the newest of an appliance's writes is the one that it has just issued
pub newest-push : (old new : List ℕ) (number : ℕ) → new ≡ old ++ number ∷ [] → WaitsForNewest (Some number) new
newest-push old new number is waited e =
    let same : number ≡ waited = cc in
    let count : length new ≡ length old + 1 = ap length is ∙ pushed old in
    let last : length old ≡ length new - 1 = omega (arith, count) in
    let P : ℕ → Type 0 = λ k. slice_get new k ≡ Some number in
    subst P last (ap (λ (xs : List ℕ). slice_get xs (length old)) is ∙ push-last old number) ∙ ap (λ (k : ℕ). Some k) same
  where
    pushed : (xs : List ℕ) → length (xs ++ number ∷ []) ≡ length xs + 1
    pushed [] = refl
    pushed (x ∷ xs) = let rest = pushed xs in omega (arith, rest)
