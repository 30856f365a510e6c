-- The leases on which a write rests, and the blocks by which they are found.
use Rattle.std.proofs.Common.{◌≡◌, ℕ, ◌+◌, ◌-◌, ◌*◌, ◌/◌, ◌≤◌, ◌<◌, ◌⊎◌, inl, inr, List, [], ◌∷◌, Bool, true, false, Some, length, refl, ap, sym, subst, ◌∙◌, arith}
use Rattle.std.specs.Prelude.{◌||◌, slice_get}
use Rattle.std.proofs.lemmas.Option.{slice_get_within}
use Rattle.plx_commands.proofs.Places.{at-same, at-other}
use Rattle.plx_commands.specs.Places.{at}
use Rattle.plx_disk.specs.Writes.{Issued}
use Rattle.std.proofs.lemmas.Bool.Decides.{eqb_tells}
use Rattle.std.proofs.lemmas.Nat.{div-mul-add}
use Rattle.plx_commands.specs.Replies.{is_in}
use Rattle.plx_geom.specs.Geometry.{Geometry, lease_at, record_at, journal_start, descriptor_at, data_at, map_at}
use Rattle.plx_rules.specs.Rests.{IsUnder, home_of, lease_in, image_of_record, image_of_journal, extent_of}

-- a write rests on a lease, or doesn't
pub rests-or : (lease : ℕ) (rests : List ℕ) → (is_in lease rests ≡ true) ⊎ (is_in lease rests ≡ true → ⊥)
rests-or lease rests = by_test (is_in lease rests)
  where
    by_test : (found : Bool) → (found ≡ true) ⊎ (found ≡ true → ⊥)
    by_test true = inl refl
    by_test false = inr (λ e. let P : ⊥ = cc in P)

-- one that rests on one lease rests on that
pub in-one : (lease home : ℕ) → lease ≡ home → is_in lease (home ∷ []) ≡ true
in-one lease home same = elim (eqb_tells lease home) [ inl is ↦ rw is.0 refl | inr away ↦ absurd (away.1 same) ]

-- and on no other
pub one-in : (lease home : ℕ) → is_in lease (home ∷ []) ≡ true → lease ≡ home
one-in lease home is = elim (eqb_tells lease home) [
  | inl same ↦ same.1
  | inr away ↦ absurd (let P : Bool → Type 0 = λ b. (b || false) ≡ true in let e : false ≡ true = subst P away.0 is in let Q : ⊥ = cc in Q)
]

-- the same, of the list that a write has
pub rests-alone : (lease home : ℕ) (leases : List ℕ) → leases ≡ home ∷ [] → lease ≡ home → is_in lease leases ≡ true
rests-alone lease home leases all same = subst (λ (l : List ℕ). is_in lease l ≡ true) (sym all) (in-one lease home same)

pub rests-home : (lease home : ℕ) (leases : List ℕ) → leases ≡ home ∷ [] → is_in lease leases ≡ true → lease ≡ home
rests-home lease home leases all is = one-in lease home (subst (λ (l : List ℕ). is_in lease l ≡ true) all is)

-- one that rests on two leases rests on these
pub in-either : (lease home other : ℕ) → (lease ≡ home) ⊎ (lease ≡ other) → is_in lease (home ∷ other ∷ []) ≡ true
in-either lease home other (inl same) = elim (eqb_tells lease home) [ inl is ↦ rw is.0 refl | inr away ↦ absurd (away.1 same) ]
in-either lease home other (inr same) = elim (eqb_tells lease home) [ inl is ↦ rw is.0 refl | inr away ↦ rw away.0 (in-one lease other same) ]

pub either-in : (lease home other : ℕ) → is_in lease (home ∷ other ∷ []) ≡ true → (lease ≡ home) ⊎ (lease ≡ other)
either-in lease home other is = elim (eqb_tells lease home) [
  | inl same ↦ inl same.1
  | inr away ↦ inr (one-in lease other (subst (λ (b : Bool). (b || is_in lease (other ∷ [])) ≡ true) away.0 is))
]

-- a write rests on its home
pub home-in : (home : ℕ) (leases : List ℕ) → home_of leases ≡ Some home → is_in home leases ≡ true
home-in home [] is = absurd (let P : ⊥ = cc in P)
home-in home (lease ∷ others) is = elim (eqb_tells home lease) [
  | inl same ↦ rw same.0 refl
  | inr away ↦ absurd (away.1 (let e : Some lease ≡ Some home = is in cc))
]

-- what an older write needs, once one more is issued
pub needs-before : (rests : ℕ → List ℕ) (writes : List Issued) (leases : List ℕ) (n : ℕ) (x : Issued) (lease : ℕ) → slice_get writes n ≡ Some x →
    IsUnder (at rests (length writes) leases) n lease → IsUnder rests n lease
needs-before rests writes leases n x lease there needs =
    let below = slice_get_within writes n x there in
    subst (λ (l : List ℕ). is_in lease l ≡ true) (at-other rests (length writes) n leases (λ e. omega (arith, below, e))) needs

-- and what that one needs
pub needs-last : (rests : ℕ → List ℕ) (writes : List Issued) (leases : List ℕ) (n lease : ℕ) → n ≡ length writes →
    IsUnder (at rests (length writes) leases) n lease → is_in lease leases ≡ true
needs-last rests writes leases n lease last needs =
    subst (λ (l : List ℕ). is_in lease l ≡ true) (ap (at rests (length writes) leases) last ∙ at-same rests (length writes) leases) needs

-- the block of a lease is that lease's
pub lease-place-found : (lease : ℕ) → lease_in (lease_at lease) ≡ lease
lease-place-found lease = omega arith

-- the record of an image is that image's
pub record-found : (g : Geometry) (image : ℕ) → image_of_record g (record_at g image) ≡ image
record-found g image = omega arith

-- and so is a descriptor of its journal
pub descriptor-place-found : (g : Geometry) (image slot : ℕ) → slot < g.slots → image_of_journal g (descriptor_at g image slot) ≡ image
descriptor-place-found g image slot below =
    let row = image * g.slots + slot in
    let e : (descriptor_at g image slot - journal_start g) / 2 ≡ row = omega arith in
    ap (λ n. n / g.slots) e ∙ div-mul-add image g.slots slot below

-- and its data
pub data-found : (g : Geometry) (image slot : ℕ) → slot < g.slots → image_of_journal g (data_at g image slot) ≡ image
data-found g image slot below =
    let row = image * g.slots + slot in
    let e : (data_at g image slot - journal_start g) / 2 ≡ row = omega arith in
    ap (λ n. n / g.slots) e ∙ div-mul-add image g.slots slot below

-- the map of an extent lies in that extent
pub map-found : (g : Geometry) (extent : ℕ) → 1 ≤ g.extent_blocks → extent_of g (map_at g extent) ≡ extent
map-found g extent some = div-of (extent * g.extent_blocks) _ (omega arith) ∙ div-mul-add extent g.extent_blocks 0 some
  where
    div-of : (a b : ℕ) → b ≡ a + 0 → b / g.extent_blocks ≡ (a + 0) / g.extent_blocks
    div-of a b e = ap (λ n. n / g.extent_blocks) e
