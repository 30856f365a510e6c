-- What journalled writes leave in a virtual block.
use Rattle.std.proofs.Common.{◌≡◌, ◌≢◌, ℕ, ◌+◌, ◌≤◌, List, [], ◌∷◌, ◌++◌, length, zero, suc, refl, ap, sym, ◌∙◌, Some, arith, inl, inr, ◌⊎◌}
use Rattle.std.specs.Prelude.{slice_get, if◌then◌else◌, ◌==◌}
use Rattle.std.proofs.lemmas.Bool.Decides.{eqb_tells}
use Rattle.plx_rules.specs.Session.{latest}
use Rattle.plx_rules.specs.Journaled.{Journaled}

-- the place of the last write
last-write-place : (x : Journaled) (xs : List Journaled) → (k : ℕ) × (write : Journaled) × (slice_get (x ∷ xs) k ≡ Some write) × (k + 1 ≡ length (x ∷ xs))
last-write-place x [] = (0, x, refl, omega arith)
last-write-place x (y ∷ ys) = let before = last-write-place y ys in (suc before.0, before.1, before.2, (let one = before.3 in omega arith))

pub last-of : (xs : List Journaled) → (length xs ≡ 0) ⊎ ((k : ℕ) × (write : Journaled) × (slice_get xs k ≡ Some write) × (k + 1 ≡ length xs))
last-of [] = inl refl
last-of (x ∷ xs) = inr (last-write-place x xs)

-- the newest write of a virtual block, where there is one
pub record IsLast (writes : List Journaled) (vblock k : ℕ) (write : Journaled) : Type 0 where
  pub found : slice_get writes k ≡ Some write
  pub names : write.vblock ≡ vblock
  pub last : (j : ℕ) (other : Journaled) → slice_get writes j ≡ Some other → other.vblock ≡ vblock → j ≤ k

-- no write names the virtual block
abbrev pub NamesNone : List Journaled → ℕ → Type 0
NamesNone writes vblock = (j : ℕ) (other : Journaled) → slice_get writes j ≡ Some other → other.vblock ≢ vblock

-- the bytes of its newest write, or those before where there is none
abbrev pub IsLatest : List ℕ → ℕ → List Journaled → List ℕ → Type 0
IsLatest before vblock writes bytes =
    ((k : ℕ) × (write : Journaled) × IsLast writes vblock k write × (bytes ≡ write.block)) ⊎ (NamesNone writes vblock × (bytes ≡ before))

last-later : (x : Journaled) (writes : List Journaled) (vblock k : ℕ) (write : Journaled) → IsLast writes vblock k write → IsLast (x ∷ writes) vblock (suc k) write
last-later x writes vblock k write is = record { found = is.found; names = is.names; last = go }
  where
    go : (j : ℕ) (other : Journaled) → slice_get (x ∷ writes) j ≡ Some other → other.vblock ≡ vblock → j ≤ suc k
    go zero other found names = omega arith
    go (suc j) other found names = let before = is.last j other found names in omega arith

last-first : (x : Journaled) (writes : List Journaled) (vblock : ℕ) → x.vblock ≡ vblock → NamesNone writes vblock → IsLast (x ∷ writes) vblock 0 x
last-first x writes vblock names none = record { found = refl; names = names; last = go }
  where
    go : (j : ℕ) (other : Journaled) → slice_get (x ∷ writes) j ≡ Some other → other.vblock ≡ vblock → j ≤ 0
    go zero other found names' = omega arith
    go (suc j) other found names' = absurd (none j other found names')

none-more : (x : Journaled) (writes : List Journaled) (vblock : ℕ) → x.vblock ≢ vblock → NamesNone writes vblock → NamesNone (x ∷ writes) vblock
none-more x writes vblock ne none zero other found names = ne (ap (λ (w : Journaled). w.vblock) (let same : x ≡ other = cc in same) ∙ names)
none-more x writes vblock ne none (suc j) other found names = none j other found names

-- what the writes leave is the block of the newest one
pub latest-is : (before : List ℕ) (vblock : ℕ) (writes : List Journaled) → IsLatest before vblock writes (latest before vblock writes)
latest-is before vblock [] = inr (λ j other found names. (let P : ⊥ = cc in P), refl)
latest-is before vblock (x ∷ writes) = elim (eqb_tells vblock x.vblock) [
  | inl same ↦ rw same.0 (by-first (sym same.1) (latest-is x.block vblock writes))
  | inr other ↦ rw other.0 (by-rest other.1 (latest-is before vblock writes))
]
  where
    by-first : x.vblock ≡ vblock → IsLatest x.block vblock writes (latest x.block vblock writes) → IsLatest before vblock (x ∷ writes) (latest x.block vblock writes)
    by-first names (inl later) = inl (suc later.0, later.1, last-later x writes vblock later.0 later.1 later.2, later.3)
    by-first names (inr none) = inl (0, x, last-first x writes vblock names none.0, none.1)

    by-rest : vblock ≢ x.vblock → IsLatest before vblock writes (latest before vblock writes) → IsLatest before vblock (x ∷ writes) (latest before vblock writes)
    by-rest ne (inl later) = inl (suc later.0, later.1, last-later x writes vblock later.0 later.1 later.2, later.3)
    by-rest ne (inr none) = inr (none-more x writes vblock (λ e. ne (sym e)) none.0, none.1)

-- what one more write leaves in a virtual block
pub latest-push : (before : List ℕ) (vblock : ℕ) (writes : List Journaled) (write : Journaled) →
    latest before vblock (writes ++ write ∷ []) ≡ (if vblock == write.vblock then write.block else latest before vblock writes)
latest-push before vblock [] write = refl
latest-push before vblock (first ∷ writes) write = latest-push (if vblock == first.vblock then first.block else before) vblock writes write
