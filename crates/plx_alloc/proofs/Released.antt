-- Blocks were given back, or a lease was released: what is left of the hand, and of the retire.
use Rattle.std.proofs.Common.{◌≡◌, ◌≢◌, ◌≤◌, ◌+◌, ◌-◌, ◌∙◌, ap, sym, refl, subst, ℕ, List, [], ◌∷◌, length, Bool, true, false, Option, arith}
use Rattle.std.specs.Prelude.{◌==◌, filter, not, if◌then◌else◌}
use Rattle.std.proofs.lemmas.Bool.Decides.{eqb_tells}
use Rattle.std.proofs.Common.{inl, inr}
use Rattle.plx_commands.proofs.Places.{at-other}
use Rattle.plx_commands.specs.Places.{at as with_hold}
use Rattle.plx_commands.specs.Replies.{is_in}
use Rattle.plx_base.specs.declared.numbers.ExtentNo.{ExtentNo}
use Rattle.plx_base.specs.declared.write_kind.WriteKind.TheVariants as kind
use Rattle.plx_geom.specs.Geometry.{Geometry}
use Rattle.plx_lease.specs.Uses.{uses_of}
use Rattle.plx_rules.specs.InUse.{InUse}
use Rattle.plx_rules.specs.Hands.{hand_from, is_held, blocks_without}
use Rattle.plx_rules.specs.Holds.{Hold, Nothing}
use Rattle.plx_rules.specs.Rests.{extent_of}
use Rattle.plx_rules.specs.Session.{Known}
use Rattle.plx_rules.specs.Space.{in_extent, release_then, retire_extents}
use Rattle.plx_alloc.specs.Gives.{Around, around_known, give_extents, give_from, retire_use}
use Rattle.plx_alloc.specs.Moving.{KeepsExtent, TellsGiven, tells_given_at}
use Rattle.plx_alloc.specs.Retires.{release_next, retire_extents_from}
use Rattle.plx_alloc.specs.Tables.{HoldsHand, IsSame, allocator_setting, hand_numbers, held_hand, holds_of, extent_leases, numbers}
use Rattle.plx_alloc.specs.declared.allocator.Allocator.{Allocator}
use Rattle.plx_alloc.specs.declared.giving.Giving.{Giving}
use Rattle.plx_alloc.specs.declared.giving.GivingAt.TheVariants as at
use Rattle.plx_alloc.proofs.Gives.{due_of, give-same}
use Rattle.plx_alloc.proofs.Retiring.{retire-same}
use Rattle.plx_alloc.proofs.Hands.{few-filter}
use Rattle.plx_alloc.proofs.Passes.{extent_hold_at}
use Rattle.plx_alloc.proofs.Suited.{tail_of}
use Rattle.plx_alloc.proofs.Taking.{given-same, hold-here}

-- a filter leaves its own list as it is
filter-again : (p : ℕ → Bool) (xs : List ℕ) → filter p (filter p xs) ≡ filter p xs
filter-again p [] = refl
filter-again p (x ∷ xs) = go (filter-again p xs) (p x) refl
  where
    go : filter p (filter p xs) ≡ filter p xs → (b : Bool) → p x ≡ b → filter p (if b then x ∷ filter p xs else filter p xs) ≡ (if b then x ∷ filter p xs else filter p xs)
    go later true so = ap (λ b. if b then x ∷ filter p (filter p xs) else filter p (filter p xs)) so ∙ ap (λ ys. x ∷ ys) later
    go later false other = later

-- a filter that keeps what another asks for changes nothing for that one
filter-kept : (was p q : ℕ → Bool) (xs : List ℕ) → ((x : ℕ) → was x ≡ true → q x ≡ true → p x ≡ true) → filter was xs ≡ xs → filter q (filter p xs) ≡ filter q xs
filter-kept was p q [] keeps all = refl
filter-kept was p q (x ∷ xs) keeps all = first (filter-kept was p q xs keeps) (was x) refl all
  where
    by-both : (b c : Bool) → p x ≡ b → q x ≡ c → was x ≡ true → filter q (filter p xs) ≡ filter q xs →
        filter q (if b then x ∷ filter p xs else filter p xs) ≡ (if c then x ∷ filter q xs else filter q xs)
    by-both true true kept asked so later = ap (λ b. if b then x ∷ filter q (filter p xs) else filter q (filter p xs)) asked ∙ ap (λ ys. x ∷ ys) later
    by-both true false kept asked so later = ap (λ b. if b then x ∷ filter q (filter p xs) else filter q (filter p xs)) asked ∙ later
    by-both false true kept asked so later = absurd (let e : false ≡ true = sym kept ∙ keeps x so asked in let P : ⊥ = cc in P)
    by-both false false kept asked so later = later

    first : (filter was xs ≡ xs → filter q (filter p xs) ≡ filter q xs) → (b : Bool) → was x ≡ b → (if b then x ∷ filter was xs else filter was xs) ≡ x ∷ xs →
        filter q (filter p (x ∷ xs)) ≡ filter q (x ∷ xs)
    first later true so all = by-both (p x) (q x) refl refl so (later (ap tail_of all))
    first later false other all =
        let few = few-filter was xs in
        let long : length (filter was xs) ≡ length (x ∷ xs) = ap length all in
        absurd (omega (arith, few, long))

-- the blocks that are left are in hand under leases that are held
pub released-hand : (a b : Allocator) → IsSame a b → hand_numbers b ≡ held_hand a.geometry (extent_leases b) (hand_numbers a) → HoldsHand b
released-hand a b same hand =
    ap (λ g. held_hand g (extent_leases b) (hand_numbers b)) same.geometry
    ∙ (ap (held_hand a.geometry (extent_leases b)) hand
    ∙ (filter-again (λ block. is_held (extent_leases b (extent_of a.geometry block))) (hand_numbers a) ∙ sym hand))

abbrev known_around : Around → ℕ → Known
known_around o claims = record { sessions = o.sessions; claims = claims }

-- what is asked of the extents past the released one stays as it was
pub released-next : (o : Around) (a b : Allocator) (uses : List InUse) (extent : ℕ) → IsSame a b → b.claims ≡ a.claims → extent_leases b ≡ with_hold (extent_leases a) extent Nothing →
    hand_numbers b ≡ held_hand a.geometry (extent_leases b) (hand_numbers a) → HoldsHand a → retire_extents_from o b uses (extent + 1) ≡ retire_extents_from o a uses (extent + 1)
released-next o a b uses extent same claims leases hand held =
    let s = allocator_setting o.appliance a in
    let known = around_known o a in
    ap (λ s. retire_extents s (around_known o b) uses (holds_of b) (hand_numbers b) (b.geometry.extents - (extent + 1)) (extent + 1) o.rest) (given-same o.appliance a b same)
    ∙ (ap (λ n. retire_extents s (known_around o n) uses (holds_of b) (hand_numbers b) (b.geometry.extents - (extent + 1)) (extent + 1) o.rest) claims
    ∙ (ap (λ g. retire_extents s known uses (holds_of b) (hand_numbers b) (g.extents - (extent + 1)) (extent + 1) o.rest) same.geometry
    ∙ retire-same s known uses (holds_of b) (holds_of a) (hand_numbers b) (hand_numbers a) (a.geometry.extents - (extent + 1)) (extent + 1) o.rest there mine))
  where
    lease : (other : ℕ) → extent + 1 ≤ other → extent_leases b other ≡ extent_leases a other
    lease other less = ap (λ (table : ℕ → Hold). table other) leases ∙ at-other (extent_leases a) extent other Nothing (λ e. absurd (omega (arith, e, less)))

    there : (other : ℕ) → extent + 1 ≤ other → extent_hold_at a.geometry (holds_of b) other ≡ extent_hold_at a.geometry (holds_of a) other
    there other less =
        ap (λ g. extent_hold_at g (holds_of b) other) (sym same.geometry) ∙ (hold-here b other ∙ (lease other less ∙ sym (hold-here a other)))

    kept : (other : ℕ) → extent + 1 ≤ other → (block : ℕ) → is_held (extent_leases a (extent_of a.geometry block)) ≡ true → (extent_of a.geometry block == other) ≡ true →
        is_held (extent_leases b (extent_of a.geometry block)) ≡ true
    kept other less block held is = elim (eqb_tells (extent_of a.geometry block) other) [
      | inl e ↦ let e' = e.1 in ap is_held (lease (extent_of a.geometry block) (omega (arith, e', less))) ∙ held
      | inr apart ↦ absurd (let f : false ≡ true = sym apart.0 ∙ is in let P : ⊥ = cc in P)
    ]

    mine : (other : ℕ) → extent + 1 ≤ other → in_extent a.geometry other (hand_numbers b) ≡ in_extent a.geometry other (hand_numbers a)
    mine other less =
        ap (in_extent a.geometry other) hand
        ∙ filter-kept (λ block. is_held (extent_leases a (extent_of a.geometry block))) (λ block. is_held (extent_leases b (extent_of a.geometry block)))
        (λ block. extent_of a.geometry block == other) (hand_numbers a) (kept other less) held

-- a filter that keeps all keeps what another leaves
filter-under : (p q : ℕ → Bool) (xs : List ℕ) → filter p xs ≡ xs → filter p (filter q xs) ≡ filter q xs
filter-under p q [] all = refl
filter-under p q (x ∷ xs) all = first (filter-under p q xs) (p x) refl all
  where
    left : (b : Bool) → p x ≡ true → filter p (filter q xs) ≡ filter q xs → filter p (if b then x ∷ filter q xs else filter q xs) ≡ (if b then x ∷ filter q xs else filter q xs)
    left true so later = ap (λ b. if b then x ∷ filter p (filter q xs) else filter p (filter q xs)) so ∙ ap (λ ys. x ∷ ys) later
    left false so later = later

    first : (filter p xs ≡ xs → filter p (filter q xs) ≡ filter q xs) → (b : Bool) → p x ≡ b → (if b then x ∷ filter p xs else filter p xs) ≡ x ∷ xs →
        filter p (filter q (x ∷ xs)) ≡ filter q (x ∷ xs)
    first later true so all = left (q x) so (later (ap tail_of all))
    first later false other all =
        let few = few-filter p xs in
        let long : length (filter p xs) ≡ length (x ∷ xs) = ap length all in
        absurd (omega (arith, few, long))

-- the blocks that weren't given back are in hand under leases that are held
pub given-hand : (a b : Allocator) (blocks : List ℕ) → IsSame a b → extent_leases b ≡ extent_leases a → hand_numbers b ≡ blocks_without blocks (hand_numbers a) → HoldsHand a → HoldsHand b
given-hand a b blocks same leases hand held =
    ap (λ g. held_hand g (extent_leases b) (hand_numbers b)) same.geometry
    ∙ (ap (λ table. held_hand a.geometry table (hand_numbers b)) leases
    ∙ (ap (held_hand a.geometry (extent_leases a)) hand
    ∙ (filter-under (λ block. is_held (extent_leases a (extent_of a.geometry block))) (λ block. not (is_in block blocks)) (hand_numbers a) held ∙ sym hand)))

filter-true : (xs : List ℕ) → filter (λ x. true) xs ≡ xs
filter-true [] = refl
filter-true (x ∷ xs) = ap (λ ys. x ∷ ys) (filter-true xs)

-- the blocks of other extents stay in hand
pub given-others : (g : Geometry) (extent : ℕ) (blocks hand : List ℕ) → ((block : ℕ) → is_in block blocks ≡ true → extent_of g block ≡ extent) →
    (other : ℕ) → other ≢ extent → in_extent g other (blocks_without blocks hand) ≡ in_extent g other hand
given-others g extent blocks hand own other ne =
    filter-kept (λ block. true) (λ block. not (is_in block blocks)) (λ block. extent_of g block == other) hand (λ block so. kept block (is_in block blocks) refl) (filter-true hand)
  where
    kept : (block : ℕ) → (among : Bool) → is_in block blocks ≡ among → (extent_of g block == other) ≡ true → not (is_in block blocks) ≡ true
    kept block false among is = ap not among
    kept block true among is = elim (eqb_tells (extent_of g block) other) [
      | inl e ↦ absurd (ne (sym e.1 ∙ own block among))
      | inr apart ↦ absurd (let f : false ≡ true = sym apart.0 ∙ is in let P : ⊥ = cc in P)
    ]

-- what was written tells what is in hand
pub given-tells : (g : Geometry) (m : Giving) (found : Option (ℕ × List ℕ)) (bytes before after : List ℕ) → m.at ≡ at.Write → TellsGiven g m found → bytes ≡ m.out →
    after ≡ blocks_without (numbers m.given.value.items) before → after ≡ hand_from g found kind.Give m.map.0 bytes before
given-tells g m found bytes before after here tells out hand =
    let tells' : tells_given_at at.Write g m found = subst (λ place. tells_given_at place g m found) here tells in
    hand ∙ (sym (tells' before) ∙ ap (λ bytes. hand_from g found kind.Give m.map.0 bytes before) (sym out))

-- ---- the blocks of an extent were given back

holds-past : (a b : Allocator) → IsSame a b → extent_leases b ≡ extent_leases a → (other : ℕ) → extent_hold_at a.geometry (holds_of b) other ≡ extent_hold_at a.geometry (holds_of a) other
holds-past a b same leases other =
    ap (λ g. extent_hold_at g (holds_of b) other) (sym same.geometry)
    ∙ (hold-here b other ∙ (ap (λ (table : ℕ → Hold). table other) leases ∙ sym (hold-here a other)))

-- what is asked of the extents past it stays as it was
pub gives-past : (o : Around) (a b : Allocator) (uses : List InUse) (extent : ℕ) → IsSame a b → b.claims ≡ a.claims → extent_leases b ≡ extent_leases a →
    ((other : ℕ) → other ≢ extent → in_extent a.geometry other (hand_numbers b) ≡ in_extent a.geometry other (hand_numbers a)) →
    give_from o b uses (extent + 1) ≡ give_from o a uses (extent + 1)
gives-past o a b uses extent same claims leases others =
    let s = allocator_setting o.appliance a in
    let known = around_known o a in
    ap (λ s. give_extents s (around_known o b) uses (holds_of b) (hand_numbers b) (b.geometry.extents - (extent + 1)) (extent + 1) o.rest) (given-same o.appliance a b same)
    ∙ (ap (λ n. give_extents s (known_around o n) uses (holds_of b) (hand_numbers b) (b.geometry.extents - (extent + 1)) (extent + 1) o.rest) claims
    ∙ (ap (λ g. give_extents s known uses (holds_of b) (hand_numbers b) (g.extents - (extent + 1)) (extent + 1) o.rest) same.geometry
    ∙ give-same s known uses (holds_of b) (holds_of a) (hand_numbers b) (hand_numbers a) (a.geometry.extents - (extent + 1)) (extent + 1) o.rest
    (λ other less. holds-past a b same leases other) (λ other less. others other (λ e. absurd (omega (arith, e, less))))))

retires-past : (o : Around) (a b : Allocator) (uses : List InUse) (extent : ℕ) → IsSame a b → b.claims ≡ a.claims → extent_leases b ≡ extent_leases a →
    ((other : ℕ) → other ≢ extent → in_extent a.geometry other (hand_numbers b) ≡ in_extent a.geometry other (hand_numbers a)) →
    retire_extents_from o b uses (extent + 1) ≡ retire_extents_from o a uses (extent + 1)
retires-past o a b uses extent same claims leases others =
    let s = allocator_setting o.appliance a in
    let known = around_known o a in
    ap (λ s. retire_extents s (around_known o b) uses (holds_of b) (hand_numbers b) (b.geometry.extents - (extent + 1)) (extent + 1) o.rest) (given-same o.appliance a b same)
    ∙ (ap (λ n. retire_extents s (known_around o n) uses (holds_of b) (hand_numbers b) (b.geometry.extents - (extent + 1)) (extent + 1) o.rest) claims
    ∙ (ap (λ g. retire_extents s known uses (holds_of b) (hand_numbers b) (g.extents - (extent + 1)) (extent + 1) o.rest) same.geometry
    ∙ retire-same s known uses (holds_of b) (holds_of a) (hand_numbers b) (hand_numbers a) (a.geometry.extents - (extent + 1)) (extent + 1) o.rest
    (λ other less. holds-past a b same leases other) (λ other less. others other (λ e. absurd (omega (arith, e, less))))))

-- so is its release, and what follows that
pub release-past : (o : Around) (a b : Allocator) (m new : Giving) → KeepsExtent m new → IsSame a b → b.claims ≡ a.claims → extent_leases b ≡ extent_leases a →
    ((other : ℕ) → other ≢ m.extent.0 → in_extent a.geometry other (hand_numbers b) ≡ in_extent a.geometry other (hand_numbers a)) →
    release_next o b new ≡ release_next o a m
release-past o a b m new keeps same claims leases others =
    let s = allocator_setting o.appliance a in
    let known = around_known o a in
    ap (λ s. release_then s (around_known o b) (retire_use new) (retire_extents_from o b (uses_of new.uses) (new.extent.0 + 1))) (given-same o.appliance a b same)
    ∙ (ap (λ n. release_then s (known_around o n) (retire_use new) (retire_extents_from o b (uses_of new.uses) (new.extent.0 + 1))) claims
    ∙ (ap (λ n. release_then s known (due_of n new.until) (retire_extents_from o b (uses_of new.uses) (new.extent.0 + 1))) keeps.lease
    ∙ (ap (λ n. release_then s known (due_of m.lease n) (retire_extents_from o b (uses_of new.uses) (new.extent.0 + 1))) keeps.until
    ∙ (ap (λ beside. release_then s known (retire_use m) (retire_extents_from o b (uses_of beside) (new.extent.0 + 1))) keeps.uses
    ∙ (ap (λ (x : ExtentNo). release_then s known (retire_use m) (retire_extents_from o b (uses_of m.uses) (x.0 + 1))) keeps.extent
    ∙ ap (λ next. release_then s known (retire_use m) next) (retires-past o a b (uses_of m.uses) m.extent.0 same claims leases others))))))
