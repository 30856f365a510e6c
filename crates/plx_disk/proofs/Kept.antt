-- Issued writes and what the code keeps of them, one by one.
use Rattle.std.proofs.Common.{◌≡◌, ◌≤◌, ℕ, zero, suc, List, [], ◌∷◌, ◌++◌, length, Option, Some, None, true, refl, ap, subst, arith, slice_set}
use Rattle.std.specs.Prelude.{slice_get}
use Rattle.std.proofs.lemmas.Option.{slice_get_within}
use Rattle.plx_disk.specs.Writes.{Issued, no_sectors, fresh_write, cancelled_at, with_cancel}
use Rattle.plx_disk.specs.Stored.{Blocks, has_its_place, has_place, is_stored, ArePlaced}
use Rattle.plx_disk.specs.Standing.{Proceeds, StandForAll, StandsForIssued}
use Rattle.plx_base.specs.declared.numbers.Boot.{Boot}
use Rattle.plx_base.specs.declared.write_kind.WriteKind.{WriteKind}
use Rattle.plx_disk.specs.declared.write.Progress.{Progress}
use Rattle.plx_disk.specs.declared.write.Progress.TheVariants.{Open, Late, Whole, Closed}
use Rattle.plx_disk.specs.declared.write.Write.{Write}

-- as many are kept as were issued
pub kept-length : (time : ℕ) (kept : List Write) (writes : List Issued) → StandForAll time kept writes → length kept ≡ length writes
kept-length time [] [] h = refl
kept-length time [] (w ∷ writes) h = absurd h
kept-length time (k ∷ kept) [] h = absurd h
kept-length time (k ∷ kept) (w ∷ writes) h = ap suc (kept-length time kept writes h.1)

-- the issued write that a kept one stands for
pub kept-issued : {time : ℕ} → (kept : List Write) (writes : List Issued) (n : ℕ) (k : Write) → StandForAll time kept writes → slice_get kept n ≡ Some k →
    (w : Issued) × (slice_get writes n ≡ Some w) × StandsForIssued time k w
kept-issued [] [] n k h e = cc
kept-issued [] (v ∷ writes) n k h e = absurd h
kept-issued (j ∷ kept) [] n k h e = absurd h
kept-issued {time} (j ∷ kept) (v ∷ writes) zero k h e =
    let P : Write → Type 0 = λ x. StandsForIssued time x v in
    let same : j ≡ k = cc in
    (v, refl, subst P same h.0)
kept-issued (j ∷ kept) (v ∷ writes) (suc n) k h e = kept-issued kept writes n k h.1 e

-- the kept one that stands for an issued write
pub kept-of : {time : ℕ} → (kept : List Write) (writes : List Issued) (n : ℕ) (w : Issued) → StandForAll time kept writes → slice_get writes n ≡ Some w →
    (k : Write) × (slice_get kept n ≡ Some k) × StandsForIssued time k w
kept-of [] [] n w h e = cc
kept-of [] (v ∷ writes) n w h e = absurd h
kept-of (j ∷ kept) [] n w h e = absurd h
kept-of {time} (j ∷ kept) (v ∷ writes) zero w h e =
    let P : Issued → Type 0 = λ x. StandsForIssued time j x in
    let same : v ≡ w = cc in
    (j, refl, subst P same h.0)
kept-of (j ∷ kept) (v ∷ writes) (suc n) w h e = kept-of kept writes n w h.1 e

-- the issued write with the number of a kept one
pub kept-at : {time : ℕ} → (kept : List Write) (writes : List Issued) (n : ℕ) (k : Write) (w : Issued) → StandForAll time kept writes →
    slice_get kept n ≡ Some k → slice_get writes n ≡ Some w → StandsForIssued time k w
kept-at {time} kept writes n k w h ek ew =
    let found = kept-issued kept writes n k h ek in
    let P : Issued → Type 0 = λ x. StandsForIssued time k x in
    let same : found.0 ≡ w = let f : slice_get writes n ≡ Some found.0 = found.1 in cc in
    subst P same found.2

-- past the last number nothing was issued
pub kept-past : (time : ℕ) (kept : List Write) (writes : List Issued) (n : ℕ) (w : Issued) → StandForAll time kept writes → length kept ≤ n → slice_get writes n ≡ Some w → ⊥
kept-past time kept writes n w h past e = omega (arith, kept-length time kept writes h, slice_get_within writes n w e)

-- one of them changes
pub kept-set : {time : ℕ} → (kept : List Write) (writes : List Issued) (n : ℕ) (k : Write) (w : Issued) → StandForAll time kept writes → StandsForIssued time k w →
    StandForAll time (slice_set kept n k) (slice_set writes n w)
kept-set [] [] n k w h e = h
kept-set [] (v ∷ writes) n k w h e = absurd h
kept-set (j ∷ kept) [] n k w h e = absurd h
kept-set (j ∷ kept) (v ∷ writes) zero k w h e = (e, h.1)
kept-set (j ∷ kept) (v ∷ writes) (suc n) k w h e = (h.0, kept-set kept writes n k w h.1 e)

-- one of them changes, and stands for the same
pub kept-set_same : {time : ℕ} → (kept : List Write) (writes : List Issued) (n : ℕ) (k : Write) → StandForAll time kept writes →
    ((w : Issued) → slice_get writes n ≡ Some w → StandsForIssued time k w) → StandForAll time (slice_set kept n k) writes
kept-set_same [] [] n k h e = h
kept-set_same [] (v ∷ writes) n k h e = absurd h
kept-set_same (j ∷ kept) [] n k h e = absurd h
kept-set_same (j ∷ kept) (v ∷ writes) zero k h e = (e v refl, h.1)
kept-set_same (j ∷ kept) (v ∷ writes) (suc n) k h e = (h.0, kept-set_same kept writes n k h.1 e)

-- a write that has just been issued, with these bytes kept
abbrev pub fresh_kept : Boot → WriteKind → ℕ → List ℕ → ℕ → Write
fresh_kept owner kind block bytes guard =
    record { owner = owner; progress = Open (record { kind = kind; block = block; bytes = bytes; guard = guard; landed = no_sectors }) }

pub kept-fresh : {time : ℕ} → (owner : Boot) (kind : WriteKind) (block : ℕ) (given bytes : List ℕ) (guard : ℕ) → given ≡ bytes →
    StandsForIssued time (fresh_kept owner kind block given guard) (fresh_write owner.0 kind block bytes guard)
kept-fresh owner kind block given bytes guard same = record {
  owner = refl;
  progress = record { kind = refl; block = refl; bytes = same; guard = refl; landed = refl; open_yet = refl; not_whole = λ e. cc };
}

-- one more is issued
pub kept-push : {time : ℕ} → (kept : List Write) (writes : List Issued) (k : Write) (w : Issued) → StandForAll time kept writes → StandsForIssued time k w →
    StandForAll time (kept ++ k ∷ []) (writes ++ w ∷ [])
kept-push [] [] k w h e = (e, tt)
kept-push [] (v ∷ writes) k w h e = absurd h
kept-push (j ∷ kept) [] k w h e = absurd h
kept-push (j ∷ kept) (v ∷ writes) k w h e = (h.0, kept-push kept writes k w h.1 e)

-- one of them is cancelled
pub kept-cancelled : {time : ℕ} → (kept : List Write) (writes : List Issued) (n : ℕ) (k : Write) → StandForAll time kept writes →
    ((w : Issued) → slice_get writes n ≡ Some w → StandsForIssued time k (with_cancel w)) → StandForAll time (slice_set kept n k) (cancelled_at writes n)
kept-cancelled [] [] n k h e = h
kept-cancelled [] (v ∷ writes) n k h e = absurd h
kept-cancelled (j ∷ kept) [] n k h e = absurd h
kept-cancelled (j ∷ kept) (v ∷ writes) zero k h e = (e v refl, h.1)
kept-cancelled (j ∷ kept) (v ∷ writes) (suc n) k h e = (h.0, kept-cancelled kept writes n k h.1 e)

-- later they stand for the same
later : {time after : ℕ} → time ≤ after → (p : Progress) (w : Issued) → Proceeds time p w → Proceeds after p w
later past (Open pending) w h = h
later past (Late landed) w h = record { landed = h.landed; open_yet = h.open_yet; not_whole = h.not_whole; late = let late = h.late in omega (arith, late, past) }
later past Whole w h = h
later past Closed w h = h

pub kept-later : {time after : ℕ} → time ≤ after → (kept : List Write) (writes : List Issued) → StandForAll time kept writes → StandForAll after kept writes
kept-later past [] [] h = h
kept-later past [] (v ∷ writes) h = absurd h
kept-later past (j ∷ kept) [] h = absurd h
kept-later past (j ∷ kept) (v ∷ writes) h = (record { owner = h.0.owner; progress = later past j.progress v h.0.progress }, kept-later past kept writes h.1)

-- every place stays where one more block may be stored
pub placed-more : (old new : Blocks) → ((b : ℕ) → is_stored old b ≡ true → is_stored new b ≡ true) →
    (p : Progress) → has_place old p ≡ true → has_place new p ≡ true
placed-more old new more (Open pending) h = more pending.block h
placed-more old new more (Late landed) h = refl
placed-more old new more Whole h = refl
placed-more old new more Closed h = refl

pub all-placed-more : (old new : Blocks) (writes : List Write) → ((b : ℕ) → is_stored old b ≡ true → is_stored new b ≡ true) →
    ArePlaced old writes → ArePlaced new writes
all-placed-more old new writes more h = λ n. go (slice_get writes n) (h n)
  where
    go : (o : Option Write) → has_its_place old o ≡ true → has_its_place new o ≡ true
    go None e = refl
    go (Some write) e = placed-more old new more write.progress e

-- the place of one write
pub placed-at : (blocks : Blocks) (writes : List Write) (n : ℕ) (k : Write) → ArePlaced blocks writes → slice_get writes n ≡ Some k → has_place blocks k.progress ≡ true
placed-at blocks writes n k all e =
    let P : Option Write → Type 0 = λ o. has_its_place blocks o ≡ true in
    subst P e (all n)

-- one of them changes
pub placed-set : (blocks : Blocks) (writes : List Write) (n : ℕ) (k : Write) →
    ArePlaced blocks writes → has_place blocks k.progress ≡ true → ArePlaced blocks (slice_set writes n k)
placed-set blocks [] n k all h = all
placed-set blocks (j ∷ writes) zero k all h = λ i. go i
  where
    go : (i : ℕ) → has_its_place blocks (slice_get (k ∷ writes) i) ≡ true
    go zero = h
    go (suc i) = all (suc i)
placed-set blocks (j ∷ writes) (suc n) k all h = λ i. go (placed-set blocks writes n k (λ i. all (suc i)) h) i
  where
    go : ArePlaced blocks (slice_set writes n k) → (i : ℕ) → has_its_place blocks (slice_get (j ∷ slice_set writes n k) i) ≡ true
    go rest zero = all 0
    go rest (suc i) = rest i

-- one more is issued
pub placed-push : (blocks : Blocks) (writes : List Write) (k : Write) →
    ArePlaced blocks writes → has_place blocks k.progress ≡ true → ArePlaced blocks (writes ++ k ∷ [])
placed-push blocks [] k all h = λ i. go i
  where
    go : (i : ℕ) → has_its_place blocks (slice_get (k ∷ []) i) ≡ true
    go zero = h
    go (suc i) = refl
placed-push blocks (j ∷ writes) k all h = λ i. go (placed-push blocks writes k (λ i. all (suc i)) h) i
  where
    go : ArePlaced blocks (writes ++ k ∷ []) → (i : ℕ) → has_its_place blocks (slice_get (j ∷ (writes ++ k ∷ [])) i) ≡ true
    go rest zero = all 0
    go rest (suc i) = rest i
