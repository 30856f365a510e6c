-- How blocks in hand are given back, extent by extent.
use Rattle.std.proofs.Common.{◌≡◌, ◌≤◌, ◌+◌, ◌-◌, ◌∙◌, ap, sym, refl, ℕ, zero, suc, List, [], ◌∷◌, Bool, true, false, Option, Some, None, arith}
use Rattle.std.specs.Prelude.{if◌then◌else◌}
use Rattle.plx_geom.specs.Geometry.{Geometry, extent_lease, map_at}
use Rattle.plx_base.specs.declared.numbers.ExtentNo.{ExtentNo}
use Rattle.plx_lease.specs.Uses.{uses_of}
use Rattle.plx_rules.specs.Ends.{End, read_then}
use Rattle.plx_rules.specs.InUse.{InUse}
use Rattle.plx_rules.specs.Holds.{Hold, Nothing, Seen, Wrote, Waited, Held}
use Rattle.plx_rules.specs.Process.{Process}
use Rattle.plx_rules.specs.Session.{Known}
use Rattle.plx_rules.specs.Settings.{Setting}
use Rattle.plx_rules.specs.Space.{extent_use, give_found, give_process, in_extent, read_map}
use Rattle.plx_alloc.specs.Gives.{Around, around_known, give_extent, give_extents, give_from, giving_at, giving_rest, retire_use}
use Rattle.plx_alloc.specs.Suiting.{IsHeldUntil, SuitsGiving}
use Rattle.plx_alloc.specs.Tables.{first_extent, allocator_setting, hand_numbers, has_any, holds_of, extent_leases}
use Rattle.plx_alloc.specs.declared.allocator.Allocator.{Allocator}
use Rattle.plx_alloc.specs.declared.giving.Giving.{Giving}
use Rattle.plx_alloc.specs.declared.giving.GivingAt.TheVariants as at
use Rattle.plx_alloc.proofs.Taking.{hold-here}
use Rattle.plx_alloc.proofs.Passes.{extent_hold_at}

-- blocks of the extent are in hand
pub give-some : (s : Setting) (known : Known) (uses : List InUse) (extent until : ℕ) (blocks : List ℕ) (rest : Process End) → has_any blocks ≡ true →
    give_process s known uses extent until blocks rest
    ≡ read_then (map_at s.geometry extent) known (λ bytes. give_found s known uses extent until blocks (read_map s.geometry.extent_blocks bytes) rest)
give-some s known uses extent until [] rest z = let P : ⊥ = cc in absurd P
give-some s known uses extent until (block ∷ blocks) rest some = refl

-- or none
pub give-none : (s : Setting) (known : Known) (uses : List InUse) (extent until : ℕ) (blocks : List ℕ) (rest : Process End) → has_any blocks ≡ false →
    give_process s known uses extent until blocks rest ≡ rest
give-none s known uses extent until [] rest none' = refl
give-none s known uses extent until (block ∷ blocks) rest z = let P : ⊥ = cc in absurd P

-- ---- the blocks of one extent

-- a lease in use, by its number
abbrev pub due_of : ℕ → ℕ → InUse
due_of n until = record { lease = n; until = until }

pub kept-use : (g : Geometry) (m : Giving) → m.lease ≡ extent_lease g m.extent.0 → retire_use m ≡ extent_use g m.extent.0 m.until
kept-use g m lease = ap (λ n. due_of n m.until) lease

-- blocks of the extent are in hand
pub giving-first : (o : Around) (a : Allocator) (m : Giving) → m.at ≡ at.Map → m.map.0 ≡ map_at a.geometry m.extent.0 →
    has_any (in_extent a.geometry m.extent.0 (hand_numbers a)) ≡ true →
    giving_rest o a m ≡ give_process (allocator_setting o.appliance a) (around_known o a) (uses_of m.uses) m.extent.0 m.until (in_extent a.geometry m.extent.0 (hand_numbers a)) o.rest
giving-first o a m here map some =
    let s = allocator_setting o.appliance a in
    let known = around_known o a in
    let e = m.extent.0 in
    let mine = in_extent a.geometry e (hand_numbers a) in
    let uses = uses_of m.uses in
    ap (λ place. giving_at place o a m) here
    ∙ (ap (λ block. read_then block known (λ bytes. give_found s known uses e m.until mine (read_map a.geometry.extent_blocks bytes) o.rest)) map
    ∙ sym (give-some s known uses e m.until mine o.rest some))

-- ---- all of them

-- what is asked at the first extent of which blocks are in hand
abbrev pub give_first : Setting → Known → (uses : List InUse) → (holds : ℕ → Hold) → (hand : List ℕ) → Option ℕ → (rest : Process End) → Process End
give_first s known uses holds hand None rest = rest
give_first s known uses holds hand (Some extent) rest =
    give_extent s known uses hand extent (extent_hold_at s.geometry holds extent) (give_extents s known uses holds hand (s.geometry.extents - (extent + 1)) (extent + 1) rest)

none-of-map : (s : Setting) (known : Known) (uses : List InUse) (hand : List ℕ) (extent : ℕ) (hold : Hold) (rest : Process End) → has_any (in_extent s.geometry extent hand) ≡ false →
    give_extent s known uses hand extent hold rest ≡ rest
none-of-map s known uses hand extent Nothing rest none' = refl
none-of-map s known uses hand extent (Seen sample) rest none' = refl
none-of-map s known uses hand extent (Wrote claim until) rest none' = refl
none-of-map s known uses hand extent (Waited claim until) rest none' = refl
none-of-map s known uses hand extent (Held claim until) rest none' = give-none s known uses extent until (in_extent s.geometry extent hand) rest none'

pub give-first : (s : Setting) (known : Known) (uses : List InUse) (holds : ℕ → Hold) (hand : List ℕ) (left from : ℕ) (rest : Process End) → from + left ≡ s.geometry.extents →
    give_extents s known uses holds hand left from rest ≡ give_first s known uses holds hand (first_extent (λ extent. has_any (in_extent s.geometry extent hand)) left from) rest
give-first s known uses holds hand zero from rest sum = refl
give-first s known uses holds hand (suc left) from rest sum =
    go (give-first s known uses holds hand left (from + 1) rest (omega (arith, sum))) (has_any (in_extent s.geometry from hand)) refl
  where
    next : Process End
    next = give_extents s known uses holds hand left (from + 1) rest

    go : next ≡ give_first s known uses holds hand (first_extent (λ extent. has_any (in_extent s.geometry extent hand)) left (from + 1)) rest →
        (b : Bool) → has_any (in_extent s.geometry from hand) ≡ b → give_extent s known uses hand from (extent_hold_at s.geometry holds from) next
        ≡ give_first s known uses holds hand (if b then Some from else first_extent (λ extent. has_any (in_extent s.geometry extent hand)) left (from + 1)) rest
    go later true some =
        let e : left ≡ s.geometry.extents - (from + 1) = omega (arith, sum) in
        ap (λ k. give_extent s known uses hand from (extent_hold_at s.geometry holds from) (give_extents s known uses holds hand k (from + 1) rest)) e
    go later false none' = none-of-map s known uses hand from (extent_hold_at s.geometry holds from) next none' ∙ later

-- from an extent on
pub give-next : (o : Around) (a : Allocator) (uses : List InUse) (from : ℕ) (found : Option ℕ) → from ≤ a.geometry.extents →
    found ≡ first_extent (λ extent. has_any (in_extent a.geometry extent (hand_numbers a))) (a.geometry.extents - from) from →
    give_from o a uses from ≡ give_first (allocator_setting o.appliance a) (around_known o a) uses (holds_of a) (hand_numbers a) found o.rest
give-next o a uses from found low is =
    give-first (allocator_setting o.appliance a) (around_known o a) uses (holds_of a) (hand_numbers a) (a.geometry.extents - from) from o.rest (omega (arith, low))
    ∙ ap (λ found. give_first (allocator_setting o.appliance a) (around_known o a) uses (holds_of a) (hand_numbers a) found o.rest) (sym is)

-- at that extent
pub give-here : (o : Around) (a : Allocator) (m : Giving) (extent : ExtentNo) → m.at ≡ at.Map → m.extent ≡ extent → SuitsGiving a m → IsHeldUntil a extent.0 m.until →
    has_any (in_extent a.geometry extent.0 (hand_numbers a)) ≡ true →
    giving_rest (record o { rest = give_from o a (uses_of m.uses) (m.extent.0 + 1) }) a m
    ≡ give_first (allocator_setting o.appliance a) (around_known o a) (uses_of m.uses) (holds_of a) (hand_numbers a) (Some extent.0) o.rest
give-here o a m extent here is suits held some =
    let s = allocator_setting o.appliance a in
    let known = around_known o a in
    let e = m.extent.0 in
    let uses = uses_of m.uses in
    let next = give_from o a uses (e + 1) in
    let mine : has_any (in_extent a.geometry e (hand_numbers a)) ≡ true = ap (λ (x : ExtentNo). has_any (in_extent a.geometry x.0 (hand_numbers a))) is ∙ some in
    let hold : extent_leases a e ≡ Held held.claim m.until = ap (λ (x : ExtentNo). extent_leases a x.0) is ∙ held.is in
    giving-first (record o { rest = next }) a m here suits.map mine
    ∙ (ap (λ hold. give_extent s known uses (hand_numbers a) e hold next) (sym (hold-here a e ∙ hold))
    ∙ ap (λ (x : ExtentNo). give_first s known uses (holds_of a) (hand_numbers a) (Some x.0) o.rest) is)

-- it goes by what is held and in hand of the extents from there on
pub give-same : (s : Setting) (known : Known) (uses : List InUse) (holds others : ℕ → Hold) (hand blocks : List ℕ) (left from : ℕ) (rest : Process End) →
    ((extent : ℕ) → from ≤ extent → extent_hold_at s.geometry holds extent ≡ extent_hold_at s.geometry others extent) →
    ((extent : ℕ) → from ≤ extent → in_extent s.geometry extent hand ≡ in_extent s.geometry extent blocks) →
    give_extents s known uses holds hand left from rest ≡ give_extents s known uses others blocks left from rest
give-same s known uses holds others hand blocks zero from rest held same = refl
give-same s known uses holds others hand blocks (suc left) from rest held same =
    ap (give_extent s known uses hand from (extent_hold_at s.geometry holds from))
    (give-same s known uses holds others hand blocks left (from + 1) rest (λ extent less. held extent (omega (arith, less))) (λ extent less. same extent (omega (arith, less))))
    ∙ (ap (λ hold. give_extent s known uses hand from hold (give_extents s known uses others blocks left (from + 1) rest)) (held from (omega arith))
    ∙ by-hand (extent_hold_at s.geometry others from))
  where
    by-hand : (hold : Hold) → give_extent s known uses hand from hold (give_extents s known uses others blocks left (from + 1) rest)
        ≡ give_extent s known uses blocks from hold (give_extents s known uses others blocks left (from + 1) rest)
    by-hand Nothing = refl
    by-hand (Seen sample) = refl
    by-hand (Wrote claim until) = refl
    by-hand (Waited claim until) = refl
    by-hand (Held claim until) = ap (λ mine. give_process s known uses from until mine (give_extents s known uses others blocks left (from + 1) rest)) (same from (omega arith))
