-- The writes of a journal that stand in its first slots, as an attach finds them slot by slot.
use Rattle.std.proofs.Common.{◌≡◌, ◌≢◌, ℕ, zero, suc, ◌+◌, ◌≤◌, ◌<◌, List, [], ◌∷◌, Bool, Some, refl, ap, sym, ◌∙◌, arith, inl, inr}
use Rattle.std.specs.Prelude.{slice_get, nat_lt, if◌then◌else◌}
use Rattle.plx_base.proofs.Tests.{lt-cases, nat_lt-false, nat_lt-true}
use Rattle.plx_geom.specs.Geometry.{Geometry}
use Rattle.plx_rules.specs.Journaled.{Journaled}
use Rattle.plx_rules.specs.Session.{with_write_by_number}
use Rattle.law_run.proofs.Inserted.{Ascending, above-all}
use Rattle.law_headline.proofs.Journals.{slot_of}

-- writes that are numbered without a gap ascend
pub ascending-numbered : (before : ℕ) (writes : List Journaled) → ((k : ℕ) (write : Journaled) → slice_get writes k ≡ Some write → write.number ≡ before + (k + 1)) → Ascending before writes
ascending-numbered before [] numbers = tt
ascending-numbered before (write ∷ writes) numbers =
    let first = numbers 0 write refl in (omega (arith, first), ascending-numbered write.number writes (λ k w at. let n = numbers (suc k) w at in omega (arith, n, first)))

-- those that ascend from one number on do so from a lower one
ascending-lower : (low high : ℕ) (writes : List Journaled) → low ≤ high → Ascending high writes → Ascending low writes
ascending-lower low high [] le ascending = tt
ascending-lower low high (write ∷ writes) le ascending = (let above = ascending.0 in omega (arith, le, above), ascending.1)

-- a write with a lower number than all is the first one
inserted-first : (new : Journaled) (writes : List Journaled) → Ascending new.number writes → with_write_by_number new writes ≡ new ∷ writes
inserted-first new [] ascending = refl
inserted-first new (write ∷ writes) ascending =
    ap (λ (t : Bool). if t then new ∷ write ∷ writes else write ∷ with_write_by_number new writes) (nat_lt-true new.number write.number ascending.0)

-- the writes that stand in a slot below this one
abbrev pub standing_below : Geometry → (place : ℕ) → List Journaled → List Journaled
standing_below g place [] = []
standing_below g place (write ∷ writes) = if nat_lt (slot_of g write) place then write ∷ standing_below g place writes else standing_below g place writes

-- none stand below the first slot
pub below-none : (g : Geometry) (writes : List Journaled) → standing_below g 0 writes ≡ []
below-none g [] = refl
below-none g (write ∷ writes) =
    ap (λ (t : Bool). if t then write ∷ standing_below g 0 writes else standing_below g 0 writes) (nat_lt-false (slot_of g write) 0 (omega arith)) ∙ below-none g writes

module _ (g : Geometry) (place : ℕ) where
  -- they ascend
  below-ascending : (before : ℕ) (writes : List Journaled) → Ascending before writes → Ascending before (standing_below g place writes)
  below-ascending before [] ascending = tt
  below-ascending before (write ∷ writes) ascending = elim (lt-cases (slot_of g write) place) [
    | inl below ↦ rw below.0 (ascending.0, below-ascending write.number writes ascending.1)
    | inr past ↦ rw past.0 (ascending-lower before write.number (standing_below g place writes) (let above = ascending.0 in omega (arith, above)) (below-ascending write.number writes ascending.1))
  ]

  -- they are all, past all slots
  pub below-all : (writes : List Journaled) → ((k : ℕ) (write : Journaled) → slice_get writes k ≡ Some write → slot_of g write < place) → standing_below g place writes ≡ writes
  below-all [] within = refl
  below-all (write ∷ writes) within =
      ap (λ (t : Bool). if t then write ∷ standing_below g place writes else standing_below g place writes) (nat_lt-true (slot_of g write) place (within 0 write refl))
      ∙ ap (λ (ws : List Journaled). write ∷ ws) (below-all writes (λ k w at. within (suc k) w at))

  -- no more where none stands in the next slot
  pub below-same : (writes : List Journaled) → ((k : ℕ) (write : Journaled) → slice_get writes k ≡ Some write → slot_of g write ≢ place) →
      standing_below g (place + 1) writes ≡ standing_below g place writes
  below-same [] none = refl
  below-same (write ∷ writes) none =
      let others = below-same writes (λ k w at. none (suc k) w at) in
      elim (lt-cases (slot_of g write) place) [
        | inl below ↦ rw (below.0, nat_lt-true (slot_of g write) (place + 1) (let b = below.1 in omega (arith, b))) (ap (λ (ws : List Journaled). write ∷ ws) others)
        | inr past ↦ rw (past.0, nat_lt-false (slot_of g write) (place + 1) (let p = past.1 in let other = none 0 write refl in omega (arith, p, other))) others
      ]

  -- and one more where one does
  pub below-more : (before : ℕ) (writes : List Journaled) → Ascending before writes → (k : ℕ) (write : Journaled) → slice_get writes k ≡ Some write → slot_of g write ≡ place →
      ((j : ℕ) (other : Journaled) → slice_get writes j ≡ Some other → slot_of g other ≡ place → j ≡ k) →
      with_write_by_number write (standing_below g place writes) ≡ standing_below g (place + 1) writes
  below-more before [] ascending k write at here one = absurd (let P : ⊥ = cc in P)
  below-more before (first ∷ writes) ascending zero write at here one =
      let same : first ≡ write = cc in
      let own : slot_of g first ≡ place = ap (slot_of g) same ∙ here in
      let others = below-same writes (λ j w found there. (let e = one (suc j) w found there in absurd (omega (arith, e)))) in
      rw (nat_lt-false (slot_of g first) place (omega (arith, own)), nat_lt-true (slot_of g first) (place + 1) (omega (arith, own)), others)
      (ap (λ (w : Journaled). with_write_by_number w (standing_below g place writes)) (sym same)
      ∙ inserted-first first (standing_below g place writes) (below-ascending first.number writes ascending.1))
  below-more before (first ∷ writes) ascending (suc k) write at here one =
      let ih = below-more first.number writes ascending.1 k write at here (λ j w found there. (let e = one (suc j) w found there in omega (arith, e))) in
      let above = above-all first.number writes ascending.1 write (k, at) in
      elim (lt-cases (slot_of g first) place) [
        | inl below ↦ rw (below.0, nat_lt-true (slot_of g first) (place + 1) (let b = below.1 in omega (arith, b)))
            (ap (λ (t : Bool). if t then write ∷ first ∷ standing_below g place writes else first ∷ with_write_by_number write (standing_below g place writes))
            (nat_lt-false write.number first.number (omega (arith, above)))
            ∙ ap (λ (ws : List Journaled). first ∷ ws) ih)
        | inr past ↦ rw (past.0, nat_lt-false (slot_of g first) (place + 1) (let p = past.1 in let other : slot_of g first ≢ place = (λ e. (let z = one 0 first refl e in omega (arith, z))) in omega (arith, p, other))) ih
      ]
