-- How a take goes on, by where its machine stands.
use Rattle.std.proofs.Common.{◌≡◌, ◌≢◌, ◌<◌, ◌≤◌, ◌+◌, ◌-◌, ◌∙◌, ap, sym, refl, subst, ℕ, suc, List, [], ◌∷◌, ◌++◌, length, Bool, true, false, Option, Some, None, arith}
use Rattle.std.specs.Prelude.{nat_le, nat_lt, not, if◌then◌else◌}
use Rattle.plx_base.specs.declared.lease.Claim.{Claim}
use Rattle.plx_base.specs.declared.lease.LeaseRecord.{LeaseRecord}
use Rattle.plx_base.specs.declared.numbers.BlockNo.{BlockNo}
use Rattle.plx_base.specs.declared.numbers.Boot.{Boot}
use Rattle.plx_base.specs.declared.numbers.ExtentNo.{ExtentNo}
use Rattle.plx_base.specs.declared.write_kind.WriteKind.TheVariants as kind
use Rattle.plx_commands.proofs.Places.{at-other}
use Rattle.plx_commands.specs.Limits.{last_claim}
use Rattle.plx_commands.specs.Places.{at as with_hold}
use Rattle.plx_extent.specs.Maps.{map_bytes}
use Rattle.plx_geom.specs.Geometry.{Geometry, extent_lease, lease_at, map_at}
use Rattle.plx_lease.specs.Uses.{use_if, use_of, uses_of}
use Rattle.plx_lease.specs.declared.in_use.InUse.{InUse as Use}
use Rattle.plx_lease.specs.Claiming.{claim_rest}
use Rattle.plx_rules.specs.Claims.{ClaimHeld, claim_process}
use Rattle.plx_rules.specs.Processes.{followed_by}
use Rattle.plx_rules.proofs.InUse.{reached-earlier}
use Rattle.plx_rules.specs.InUse.{InUse, earlier, first_reached}
use Rattle.plx_rules.specs.Ends.{End, read_then, write_then}
use Rattle.plx_rules.specs.Hands.{is_held}
use Rattle.plx_rules.specs.Holds.{Hold, Nothing, Seen, Wrote, Waited, Held}
use Rattle.plx_rules.specs.Process.{Process}
use Rattle.plx_rules.specs.Session.{Known}
use Rattle.plx_rules.specs.Settings.{Setting}
use Rattle.plx_rules.specs.Space.{Taking, after_extent_claim, claim_extent, claim_if_free, extent_use, other_found, read_map, shortage_process, set_process, take_found, take_held, take_here, take_if_held, take_if_other, take_others, taken_process, with_claim_begun, with_set, with_taken}
use Rattle.plx_token.specs.declared.held.Held.{Held as Token}
use Rattle.plx_token.specs.declared.kind.Extent.{Extent}
use Rattle.plx_alloc.specs.Tables.{IsSame, first_extent, allocator_setting, hand_numbers, has_any, extent_holds_at, extent_hold, holds_of, is_as, extent_leases, numbers}
use Rattle.plx_alloc.specs.Suiting.{SuitsClaim, SuitsMap, SuitsOther, SuitsWrite, suits_at}
use Rattle.plx_alloc.specs.Takes.{AreReachedAs, GoesByReached, Outer, busy_of, next_rest, outer_known, pass_rest, reserve_at, reserve_rest, taking_of}
use Rattle.plx_alloc.specs.declared.allocator.Allocator.{Allocator}
use Rattle.plx_alloc.specs.declared.reserve.Pass.{Pass}
use Rattle.plx_alloc.specs.declared.reserve.Pass.TheVariants as pass
use Rattle.plx_alloc.specs.declared.reserve.Reserve.{Reserve}
use Rattle.plx_alloc.specs.declared.reserve.ReserveAt.TheVariants as at
use Rattle.plx_alloc.proofs.Passes.{held-enough, held-first, held_first, extent_hold_at, others-enough, others-first, others-same, others_first}
use Rattle.plx_alloc.proofs.Reached.{take_here-goes, take_held-goes, take_others-goes, taken_process-goes}
use Rattle.plx_base.proofs.Tests.{nat_le-true}

-- ---- what is held of an extent's lease

extent-back : (g : Geometry) (extent : ℕ) → lease_at (extent_lease g extent) - (2 + g.images) ≡ extent
extent-back g extent = omega arith

pub hold-here : (a : Allocator) (extent : ℕ) → extent_hold_at a.geometry (holds_of a) extent ≡ extent_leases a extent
hold-here a extent = ap (extent_leases a) (extent-back a.geometry extent)

-- ---- tests

pub not-held-none : (o : Option (Token Extent)) → is_held (extent_hold o) ≡ false → o ≡ None
not-held-none None e = refl
not-held-none (Some held) e = let P : ⊥ = cc in absurd P

-- ---- enough is in hand

pub pass-enough : (p : Pass) (s : Setting) (holds : ℕ → Hold) (count from : ℕ) (rest : Taking → Process End) (t : Taking) →
    nat_le count (length t.hand) ≡ true → pass_rest p s holds count from rest t ≡ rest t
pass-enough pass.Held s holds count from rest t enough =
    held-enough s count holds (s.geometry.extents - from) from (take_others s count holds s.geometry.extents 0 (taken_process s count rest)) t enough
    ∙ (others-enough s count holds s.geometry.extents 0 (taken_process s count rest) t enough ∙ ap (λ b. if b then rest t else shortage_process s t.known t.busy) enough)
pass-enough pass.Others s holds count from rest t enough =
    others-enough s count holds (s.geometry.extents - from) from (taken_process s count rest) t enough ∙ ap (λ b. if b then rest t else shortage_process s t.known t.busy) enough

-- ---- more are needed

-- of the extents whose leases are held
pub pass-held : (o : Outer) (a : Allocator) (count from : ℕ) (t : Taking) (found : Option ℕ) → from ≤ a.geometry.extents → nat_le count (length t.hand) ≡ false →
    found ≡ first_extent (λ extent. is_as true (extent_leases a extent)) (a.geometry.extents - from) from →
    pass_rest pass.Held (allocator_setting o.appliance a) (holds_of a) count from o.rest t
    ≡ held_first (allocator_setting o.appliance a) count (holds_of a) found (pass_rest pass.Others (allocator_setting o.appliance a) (holds_of a) count 0 o.rest) t
pass-held o a count from t found low few is =
    let s = allocator_setting o.appliance a in
    let next : Taking → Process End = take_others s count (holds_of a) a.geometry.extents 0 (taken_process s count o.rest) in
    let zero-less : a.geometry.extents ≡ a.geometry.extents - 0 = omega arith in
    held-first s count (holds_of a) (λ extent. is_as true (extent_leases a extent)) (λ extent. ap is_held (sym (hold-here a extent))) (a.geometry.extents - from) from
    next t (omega (arith, low)) few
    ∙ (ap (λ found. held_first s count (holds_of a) found next t) (sym is)
    ∙ ap (λ left. held_first s count (holds_of a) found (take_others s count (holds_of a) left 0 (taken_process s count o.rest)) t) zero-less)

-- of the others
pub pass-others : (o : Outer) (a : Allocator) (count from : ℕ) (t : Taking) (found : Option ℕ) → from ≤ a.geometry.extents → nat_le count (length t.hand) ≡ false →
    found ≡ first_extent (λ extent. is_as false (extent_leases a extent)) (a.geometry.extents - from) from →
    pass_rest pass.Others (allocator_setting o.appliance a) (holds_of a) count from o.rest t
    ≡ others_first (allocator_setting o.appliance a) count (holds_of a) found (taken_process (allocator_setting o.appliance a) count o.rest) t
pass-others o a count from t found low few is =
    let s = allocator_setting o.appliance a in
    others-first s count (holds_of a) (λ extent. is_as false (extent_leases a extent)) (λ extent. ap (λ hold. not (is_held hold)) (sym (hold-here a extent)))
    (a.geometry.extents - from) from (taken_process s count o.rest) t (omega (arith, low)) few
    ∙ ap (λ found. others_first s count (holds_of a) found (taken_process s count o.rest) t) (sym is)

-- too few are in hand
pub taken-few : (s : Setting) (count : ℕ) (rest : Taking → Process End) (t : Taking) → nat_le count (length t.hand) ≡ false →
    taken_process s count rest t ≡ shortage_process s t.known t.busy
taken-few s count rest t few = ap (λ b. if b then rest t else shortage_process s t.known t.busy) few

-- a take that stands at an extent whose lease is held
held-in-table : (s : Setting) (count extent until : ℕ) (hold : Hold) (rest : Taking → Process End) (t : Taking) → (claim : _) → hold ≡ Held claim until →
    take_if_held s count extent hold rest t ≡ take_here s count extent until rest t
held-in-table s count extent until hold rest t claim is = ap (λ hold. take_if_held s count extent hold rest t) is

other-there : (s : Setting) (count extent : ℕ) (hold : Hold) (rest : Taking → Process End) (t : Taking) → is_held hold ≡ false →
    take_if_other s count extent hold rest t
    ≡ read_then (map_at s.geometry extent) t.known (λ bytes. other_found s count extent (read_map s.geometry.extent_blocks bytes) rest t)
other-there s count extent Nothing rest t other = refl
other-there s count extent (Seen sample) rest t other = refl
other-there s count extent (Wrote claim until) rest t other = refl
other-there s count extent (Waited claim until) rest t other = refl
other-there s count extent (Held claim until) rest t z = let P : ⊥ = cc in absurd P

-- the rest at the read of a map, by its parts
pub map-rest : (o : Outer) (a : Allocator) (m : Reserve) → m.at ≡ at.Map → m.map.0 ≡ map_at a.geometry m.extent.0 →
    reserve_rest o a m ≡ take_here (allocator_setting o.appliance a) m.count m.extent.0 m.until (next_rest o a m) (taking_of o a m)
map-rest o a m here map =
    ap (λ place. reserve_at place o a m) here
    ∙ ap (λ block. read_then block (outer_known o a) (λ bytes. take_found (allocator_setting o.appliance a) m.count m.extent.0 m.until
    (read_map a.geometry.extent_blocks bytes) (next_rest o a m) (taking_of o a m))) map

pub look-rest : (o : Outer) (a : Allocator) (m : Reserve) → m.at ≡ at.Look → m.map.0 ≡ map_at a.geometry m.extent.0 →
    reserve_rest o a m ≡ read_then (map_at a.geometry m.extent.0) (outer_known o a) (λ bytes. other_found (allocator_setting o.appliance a) m.count m.extent.0
    (read_map a.geometry.extent_blocks bytes) (next_rest o a m) (taking_of o a m))
look-rest o a m here map =
    ap (λ place. reserve_at place o a m) here
    ∙ ap (λ block. read_then block (outer_known o a) (λ bytes. other_found (allocator_setting o.appliance a) m.count m.extent.0
    (read_map a.geometry.extent_blocks bytes) (next_rest o a m) (taking_of o a m))) map

-- it stands at the first of them
pub looks-first : (o : Outer) (a : Allocator) (m : Reserve) → m.at ≡ at.Look → m.map.0 ≡ map_at a.geometry m.extent.0 → m.pass ≡ pass.Others →
    is_held (extent_leases a m.extent.0) ≡ false →
    reserve_rest o a m ≡ others_first (allocator_setting o.appliance a) m.count (holds_of a) (Some m.extent.0) (taken_process (allocator_setting o.appliance a) m.count o.rest) (taking_of o a m)
looks-first o a m here map others free =
    let s = allocator_setting o.appliance a in
    look-rest o a m here map
    ∙ (ap (λ p. read_then (map_at a.geometry m.extent.0) (outer_known o a) (λ bytes. other_found s m.count m.extent.0
    (read_map a.geometry.extent_blocks bytes) (pass_rest p s (holds_of a) m.count (m.extent.0 + 1) o.rest) (taking_of o a m))) others
    ∙ sym (other-there s m.count m.extent.0 (extent_hold_at a.geometry (holds_of a) m.extent.0) (pass_rest pass.Others s (holds_of a) m.count (m.extent.0 + 1) o.rest) (taking_of o a m)
    (ap is_held (hold-here a m.extent.0) ∙ free)))

pub maps-first : (o : Outer) (a : Allocator) (m : Reserve) (claim : _) → m.at ≡ at.Map → m.map.0 ≡ map_at a.geometry m.extent.0 → m.pass ≡ pass.Held →
    extent_leases a m.extent.0 ≡ Held claim m.until →
    reserve_rest o a m ≡ held_first (allocator_setting o.appliance a) m.count (holds_of a) (Some m.extent.0) (pass_rest pass.Others (allocator_setting o.appliance a) (holds_of a) m.count 0 o.rest) (taking_of o a m)
maps-first o a m claim here map first hold =
    let s = allocator_setting o.appliance a in
    let zero-less : a.geometry.extents ≡ a.geometry.extents - 0 = omega arith in
    map-rest o a m here map
    ∙ (ap (λ p. take_here s m.count m.extent.0 m.until (pass_rest p s (holds_of a) m.count (m.extent.0 + 1) o.rest) (taking_of o a m)) first
    ∙ (ap (λ left. take_here s m.count m.extent.0 m.until (take_held s m.count (holds_of a) (a.geometry.extents - (m.extent.0 + 1)) (m.extent.0 + 1)
    (take_others s m.count (holds_of a) left 0 (taken_process s m.count o.rest))) (taking_of o a m)) zero-less
    ∙ sym (held-in-table s m.count m.extent.0 m.until (extent_hold_at a.geometry (holds_of a) m.extent.0)
    (take_held s m.count (holds_of a) (a.geometry.extents - (m.extent.0 + 1)) (m.extent.0 + 1) (pass_rest pass.Others s (holds_of a) m.count 0 o.rest))
    (taking_of o a m) claim (hold-here a m.extent.0 ∙ hold))))

-- ---- the map of a held extent was read

pub set_process-some : (s : Setting) (extent until : ℕ) (bits : List Bool) (blocks : List ℕ) (rest : Taking → Process End) (t : Taking) → has_any blocks ≡ true →
    set_process s extent until bits blocks rest t
    ≡ write_then s t.known (extent_use s.geometry extent until) kind.Take (map_at s.geometry extent) (map_bytes (with_set blocks (map_at s.geometry extent) bits)) (rest (with_taken t blocks))
set_process-some s extent until bits [] rest t z = let P : ⊥ = cc in absurd P
set_process-some s extent until bits (block ∷ blocks) rest t some = refl

pub set_process-none : (s : Setting) (extent until : ℕ) (bits : List Bool) (blocks : List ℕ) (rest : Taking → Process End) (t : Taking) → has_any blocks ≡ false →
    set_process s extent until bits blocks rest t ≡ rest t
set_process-none s extent until bits [] rest t none' = refl
set_process-none s extent until bits (block ∷ blocks) rest t z = let P : ⊥ = cc in absurd P

-- ---- what follows goes by the leases in use as readings reach them

pub pass-goes : (o : Outer) (a : Allocator) (p : Pass) (count from : ℕ) → GoesByReached (pass_rest p (allocator_setting o.appliance a) (holds_of a) count from o.rest)
pass-goes o a pass.Held count from t others same =
    let s = allocator_setting o.appliance a in
    take_held-goes s count (holds_of a) (a.geometry.extents - from) from (take_others s count (holds_of a) a.geometry.extents 0 (taken_process s count o.rest))
    (take_others-goes s count (holds_of a) a.geometry.extents 0 (taken_process s count o.rest) (taken_process-goes s count o.rest o.goes)) t others same
pass-goes o a pass.Others count from t others same =
    let s = allocator_setting o.appliance a in
    take_others-goes s count (holds_of a) (a.geometry.extents - from) from (taken_process s count o.rest) (taken_process-goes s count o.rest o.goes) t others same

-- ---- another allocator of the same boot

abbrev taking_with : Known → List InUse → List ℕ → Option (ℕ × LeaseRecord) → Taking
taking_with known uses' hand busy = record { known = known; uses = uses'; hand = hand; busy = busy }

abbrev pub known_outside : Outer → ℕ → Known
known_outside o claims = record { sessions = o.sessions; claims = claims }

abbrev setting : Geometry → (appliance boot : ℕ) → Setting
setting g appliance boot = record { geometry = g; appliance = appliance; boot = boot }

pub given-same : (appliance : ℕ) (a b : Allocator) → IsSame a b → allocator_setting appliance b ≡ allocator_setting appliance a
given-same appliance a b same =
    ap (λ g. setting g appliance b.boot.0) same.geometry
    ∙ ap (λ (boot : Boot). setting a.geometry appliance boot.0) same.boot

pub holds-same : (a b : Allocator) → IsSame a b → extent_leases b ≡ extent_leases a → holds_of b ≡ holds_of a
holds-same a b same leases = ap (λ g. extent_holds_at g (extent_leases b)) same.geometry ∙ ap (extent_holds_at a.geometry) leases

pub pass-same : (o : Outer) (a b : Allocator) (p : Pass) (count from : ℕ) → IsSame a b → extent_leases b ≡ extent_leases a →
    pass_rest p (allocator_setting o.appliance b) (holds_of b) count from o.rest ≡ pass_rest p (allocator_setting o.appliance a) (holds_of a) count from o.rest
pass-same o a b p count from same leases =
    ap (λ s. pass_rest p s (holds_of b) count from o.rest) (given-same o.appliance a b same)
    ∙ ap (λ holds. pass_rest p (allocator_setting o.appliance a) holds count from o.rest) (holds-same a b same leases)

-- the blocks that were taken came into hand
pub written-rest : (o : Outer) (a b : Allocator) (m : Reserve) → IsSame a b → extent_leases b ≡ extent_leases a → b.claims ≡ a.claims →
    hand_numbers b ≡ hand_numbers a ++ numbers m.taken.value.items →
    pass_rest m.pass (allocator_setting o.appliance b) (holds_of b) m.count (m.extent.0 + 1) o.rest (taking_of o b m)
    ≡ next_rest o a m (with_taken (taking_of o a m) (numbers m.taken.value.items))
written-rest o a b m same leases claims hand =
    ap (λ (next : Taking → Process End). next (taking_of o b m)) (pass-same o a b m.pass m.count (m.extent.0 + 1) same leases)
    ∙ (ap (λ n. next_rest o a m (taking_with (known_outside o n) (uses_of m.uses) (hand_numbers b) (busy_of m.busy))) claims
    ∙ ap (λ blocks. next_rest o a m (taking_with (outer_known o a) (uses_of m.uses) blocks (busy_of m.busy))) hand)

pub earlier-reached : (one : InUse) (claimed : Option Use) (new : Use) → use_of new ≡ earlier one (use_if claimed) →
    AreReachedAs (one ∷ uses_of claimed) (uses_of (Some new))
earlier-reached one None new is reading = ap (λ use'. first_reached (use' ∷ []) reading) (sym is)
earlier-reached one (Some other) new is reading =
    reached-earlier one (use_of other) reading ∙ ap (λ use'. first_reached (use' ∷ []) reading) (sym is)

-- the lease of the extent was claimed: what follows goes by what is held of the extents past it
pub claimed-next : (o : Outer) (a b : Allocator) (count extent : ℕ) (hold : Hold) → IsSame a b → extent_leases b ≡ with_hold (extent_leases a) extent hold →
    pass_rest pass.Others (allocator_setting o.appliance b) (holds_of b) count (extent + 1) o.rest
    ≡ pass_rest pass.Others (allocator_setting o.appliance a) (holds_of a) count (extent + 1) o.rest
claimed-next o a b count extent hold same leases =
    ap (λ s. pass_rest pass.Others s (holds_of b) count (extent + 1) o.rest) (given-same o.appliance a b same)
    ∙ others-same (allocator_setting o.appliance a) count (holds_of b) (holds_of a) (a.geometry.extents - (extent + 1)) (extent + 1) (taken_process (allocator_setting o.appliance a) count o.rest)
    (λ other less. there other less)
  where
    there : (other : ℕ) → extent + 1 ≤ other → extent_hold_at a.geometry (holds_of b) other ≡ extent_hold_at a.geometry (holds_of a) other
    there other less =
        ap (λ g. extent_hold_at g (holds_of b) other) (sym same.geometry)
        ∙ (hold-here b other
        ∙ (ap (λ (table : ℕ → Hold). table other) leases
        ∙ (at-other (extent_leases a) extent other hold (λ e. absurd (omega (arith, e, less)))
        ∙ sym (hold-here a other))))

pub claimed-rest : (o : Outer) (a b : Allocator) (old new : Reserve) (claim : Claim) → IsSame a b → b.claims ≡ a.claims → hand_numbers b ≡ hand_numbers a →
    extent_leases b ≡ with_hold (extent_leases a) old.extent.0 (Held claim new.until) →
    old.pass ≡ pass.Others → new.pass ≡ old.pass → new.at ≡ at.Map → new.extent ≡ old.extent → new.count ≡ old.count → new.map.0 ≡ map_at b.geometry new.extent.0 →
    new.busy ≡ old.busy → AreReachedAs (extent_use a.geometry old.extent.0 new.until ∷ uses_of old.uses) (uses_of new.uses) →
    reserve_rest o b new ≡ after_extent_claim (allocator_setting o.appliance a) old.count old.extent.0 (next_rest o a old) (taking_of o a old) (ClaimHeld claim new.until)
claimed-rest o a b old new claim same claims hand leases others pass' here extent count map busy reached =
    let s = allocator_setting o.appliance a in
    let sb = allocator_setting o.appliance b in
    let own = extent_use a.geometry old.extent.0 new.until in
    let next : Taking → Process End = next_rest o a old in
    let is-next : next_rest o b new ≡ next =
    ap (λ p. pass_rest p sb (holds_of b) new.count (new.extent.0 + 1) o.rest) (pass' ∙ others)
    ∙ (ap (λ n. pass_rest pass.Others sb (holds_of b) n (new.extent.0 + 1) o.rest) count
    ∙ (ap (λ (e : ExtentNo). pass_rest pass.Others sb (holds_of b) old.count (e.0 + 1) o.rest) extent
    ∙ (claimed-next o a b old.count old.extent.0 (Held claim new.until) same leases
    ∙ ap (λ p. pass_rest p s (holds_of a) old.count (old.extent.0 + 1) o.rest) (sym others)))) in
    let is-taking : taking_of o b new ≡ taking_with (outer_known o a) (uses_of new.uses) (hand_numbers a) (busy_of old.busy) =
    ap (λ n. taking_with (known_outside o n) (uses_of new.uses) (hand_numbers b) (busy_of new.busy)) claims
    ∙ (ap (λ blocks. taking_with (outer_known o a) (uses_of new.uses) blocks (busy_of new.busy)) hand
    ∙ ap (λ met. taking_with (outer_known o a) (uses_of new.uses) (hand_numbers a) (busy_of met)) busy) in
    map-rest o b new here map
    ∙ (ap (λ n. take_here sb n new.extent.0 new.until (next_rest o b new) (taking_of o b new)) count
    ∙ (ap (λ (e : ExtentNo). take_here sb old.count e.0 new.until (next_rest o b new) (taking_of o b new)) extent
    ∙ (ap (λ s. take_here s old.count old.extent.0 new.until (next_rest o b new) (taking_of o b new)) (given-same o.appliance a b same)
    ∙ (ap (λ (n : Taking → Process End). take_here s old.count old.extent.0 new.until n (taking_of o b new)) is-next
    ∙ (ap (take_here s old.count old.extent.0 new.until next) is-taking
    ∙ sym (take_here-goes s old.count old.extent.0 new.until next (pass-goes o a old.pass old.count (old.extent.0 + 1))
    (taking_with (outer_known o a) (own ∷ uses_of old.uses) (hand_numbers a) (busy_of old.busy)) (uses_of new.uses) reached))))))

-- ---- the map of an extent whose lease isn't held was read

pub claims-nothing-free : (s : Setting) (count extent : ℕ) (free : List ℕ) (rest : Taking → Process End) (t : Taking) → has_any free ≡ false →
    claim_if_free s count extent free rest t ≡ rest t
claims-nothing-free s count extent [] rest t e = refl
claims-nothing-free s count extent (block ∷ blocks) rest t e = let P : ⊥ = cc in absurd P

pub free-some : (s : Setting) (count extent : ℕ) (free : List ℕ) (rest : Taking → Process End) (t : Taking) → has_any free ≡ true →
    claim_if_free s count extent free rest t ≡ claim_extent (nat_lt t.known.claims last_claim) s count extent rest t
free-some s count extent [] rest t e = let P : ⊥ = cc in absurd P
free-some s count extent (block ∷ blocks) rest t e = refl

-- the claim begins
pub looked-rest : (o : Outer) (a b : Allocator) (old new : Reserve) → IsSame a b → extent_leases b ≡ extent_leases a → hand_numbers b ≡ hand_numbers a →
    b.claims ≡ a.claims + 1 → a.claims < last_claim →
    new.at ≡ at.Claim → new.pass ≡ old.pass → new.extent ≡ old.extent → new.count ≡ old.count → new.uses ≡ old.uses → new.busy ≡ old.busy →
    claim_rest new.claim ≡ claim_process a.boot.0 (uses_of old.uses) (extent_lease a.geometry old.extent.0) a.claims →
    reserve_rest o b new ≡ claim_extent (nat_lt a.claims last_claim) (allocator_setting o.appliance a) old.count old.extent.0 (next_rest o a old) (taking_of o a old)
looked-rest o a b old new same leases hand claims less here pass' extent count uses' busy claim =
    let s = allocator_setting o.appliance a in
    let sb = allocator_setting o.appliance b in
    let process = claim_process a.boot.0 (uses_of old.uses) (extent_lease a.geometry old.extent.0) a.claims in
    let is-next : next_rest o b new ≡ next_rest o a old =
    ap (λ p. pass_rest p sb (holds_of b) new.count (new.extent.0 + 1) o.rest) pass'
    ∙ (ap (λ n. pass_rest old.pass sb (holds_of b) n (new.extent.0 + 1) o.rest) count
    ∙ (ap (λ (e : ExtentNo). pass_rest old.pass sb (holds_of b) old.count (e.0 + 1) o.rest) extent
    ∙ pass-same o a b old.pass old.count (old.extent.0 + 1) same leases)) in
    let is-taking : taking_of o b new ≡ with_claim_begun (taking_of o a old) =
    ap (λ n. taking_with (known_outside o n) (uses_of new.uses) (hand_numbers b) (busy_of new.busy)) claims
    ∙ (ap (λ due. taking_with (known_outside o (a.claims + 1)) (uses_of due) (hand_numbers b) (busy_of new.busy)) uses'
    ∙ (ap (λ blocks. taking_with (known_outside o (a.claims + 1)) (uses_of old.uses) blocks (busy_of new.busy)) hand
    ∙ ap (λ met. taking_with (known_outside o (a.claims + 1)) (uses_of old.uses) (hand_numbers a) (busy_of met)) busy)) in
    ap (λ place. reserve_at place o b new) here
    ∙ (ap (λ process. followed_by process (after_extent_claim sb new.count new.extent.0 (next_rest o b new) (taking_of o b new))) claim
    ∙ (ap (λ s. followed_by process (after_extent_claim s new.count new.extent.0 (next_rest o b new) (taking_of o b new))) (given-same o.appliance a b same)
    ∙ (ap (λ n. followed_by process (after_extent_claim s n new.extent.0 (next_rest o b new) (taking_of o b new))) count
    ∙ (ap (λ (e : ExtentNo). followed_by process (after_extent_claim s old.count e.0 (next_rest o b new) (taking_of o b new))) extent
    ∙ (ap (λ (n : Taking → Process End). followed_by process (after_extent_claim s old.count old.extent.0 n (taking_of o b new))) is-next
    ∙ (ap (λ t. followed_by process (after_extent_claim s old.count old.extent.0 (next_rest o a old) t)) is-taking
    ∙ ap (λ b. claim_extent b s old.count old.extent.0 (next_rest o a old) (taking_of o a old)) (sym (nat_le-true (suc a.claims) last_claim (omega (arith, less))))))))))

-- whether blocks were taken
pub any-none : (blocks : List BlockNo) → length blocks ≡ 0 → has_any (numbers blocks) ≡ false
any-none [] e = refl
any-none (block ∷ blocks) e = absurd (omega (arith, e))

pub any-some : (blocks : List BlockNo) → length blocks ≢ 0 → has_any (numbers blocks) ≡ true
any-some [] ne = absurd (ne refl)
any-some (block ∷ blocks) ne = refl

-- what suits a take by where it stands
pub look-stands : (a : Allocator) (m : Reserve) → m.at ≡ at.Look → suits_at m.at a m → SuitsOther a m
look-stands a m here stands = subst (λ place. suits_at place a m) here stands

pub claim-stands : (a : Allocator) (m : Reserve) → m.at ≡ at.Claim → suits_at m.at a m → SuitsClaim a m
claim-stands a m here stands = subst (λ place. suits_at place a m) here stands

pub write-stands : (a : Allocator) (m : Reserve) → m.at ≡ at.Write → suits_at m.at a m → SuitsWrite a m
write-stands a m here stands = subst (λ place. suits_at place a m) here stands

pub map-stands : (a : Allocator) (m : Reserve) → m.at ≡ at.Map → suits_at m.at a m → SuitsMap a m
map-stands a m here stands = subst (λ place. suits_at place a m) here stands
