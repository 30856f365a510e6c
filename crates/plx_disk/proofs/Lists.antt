-- Elements of lists that changed, and cancelled writes among the others.
use Rattle.std.proofs.Common.{◌≡◌, ◌≢◌, ◌≤◌, ℕ, zero, suc, List, [], ◌∷◌, ◌++◌, length, Some, refl, ap, sym, arith}
use Rattle.std.specs.Prelude.{slice_get, slice_set}
use Rattle.plx_disk.specs.Writes.{Issued, cancelled_at, with_cancel}

-- an element that was changed
pub set-same : {A : Type 0} (xs : List A) (n : ℕ) (x y : A) → slice_get xs n ≡ Some y → slice_get (slice_set xs n x) n ≡ Some x
set-same [] n x y h = cc
set-same (z ∷ xs) zero x y h = refl
set-same (z ∷ xs) (suc n) x y h = set-same xs n x y h

-- every other element
pub set-other : {A : Type 0} (xs : List A) (n k : ℕ) (x : A) → k ≢ n → slice_get (slice_set xs n x) k ≡ slice_get xs k
set-other [] n k x h = refl
set-other (z ∷ xs) zero zero x h = absurd (h refl)
set-other (z ∷ xs) zero (suc k) x h = refl
set-other (z ∷ xs) (suc n) zero x h = refl
set-other (z ∷ xs) (suc n) (suc k) x h = set-other xs n k x (λ e. h (ap suc e))

-- an element that is put where it is
pub set-back : {A : Type 0} (xs : List A) (n : ℕ) (x : A) → slice_get xs n ≡ Some x → slice_set xs n x ≡ xs
set-back [] n x h = refl
set-back (z ∷ xs) zero x h = let same : z ≡ x = cc in ap (λ y. y ∷ xs) (sym same)
set-back (z ∷ xs) (suc n) x h = ap (λ rest. z ∷ rest) (set-back xs n x h)

-- of two changes of one element the last one counts
pub set-twice : {A : Type 0} (xs : List A) (n : ℕ) (x y : A) → slice_set (slice_set xs n x) n y ≡ slice_set xs n y
set-twice [] n x y = refl
set-twice (z ∷ xs) zero x y = refl
set-twice (z ∷ xs) (suc n) x y = ap (λ rest. z ∷ rest) (set-twice xs n x y)

-- an element that was added at the end
pub push-last : {A : Type 0} (xs : List A) (x : A) → slice_get (xs ++ x ∷ []) (length xs) ≡ Some x
push-last [] x = refl
push-last (y ∷ xs) x = push-last xs x

-- the elements before it
pub push-before : {A : Type 0} (xs : List A) (x y : A) (n : ℕ) → slice_get xs n ≡ Some y → slice_get (xs ++ x ∷ []) n ≡ Some y
push-before [] x y n h = cc
push-before (z ∷ xs) x y zero h = h
push-before (z ∷ xs) x y (suc n) h = push-before xs x y n h

-- a write that was never issued can't be cancelled
pub cancelled-past : (writes : List Issued) (n : ℕ) → length writes ≤ n → cancelled_at writes n ≡ writes
cancelled-past [] n h = refl
cancelled-past (v ∷ writes) zero h = absurd (omega arith)
cancelled-past (v ∷ writes) (suc n) h = ap (λ rest. v ∷ rest) (cancelled-past writes n (omega arith))

-- a cancelled write is one write changed
pub cancelled-set : (writes : List Issued) (n : ℕ) (w : Issued) → slice_get writes n ≡ Some w → cancelled_at writes n ≡ slice_set writes n (with_cancel w)
cancelled-set [] n w h = cc
cancelled-set (v ∷ writes) zero w h =
    let same : v ≡ w = cc in
    ap (λ x. with_cancel x ∷ writes) same
cancelled-set (v ∷ writes) (suc n) w h = ap (λ rest. v ∷ rest) (cancelled-set writes n w h)

-- as many writes as before
pub cancelled-length : (writes : List Issued) (n : ℕ) → length (cancelled_at writes n) ≡ length writes
cancelled-length [] n = refl
cancelled-length (v ∷ writes) zero = refl
cancelled-length (v ∷ writes) (suc n) = ap suc (cancelled-length writes n)
