-- How the extents' part of a retire goes on.
use Rattle.std.proofs.Common.{◌≡◌, ◌≤◌, ◌+◌, ◌-◌, ◌∙◌, ap, sym, refl, ℕ, zero, suc, List, Bool, true, false, Option, Some, None, arith}
use Rattle.std.specs.Prelude.{if◌then◌else◌}
use Rattle.plx_base.specs.declared.numbers.ExtentNo.{ExtentNo}
use Rattle.plx_lease.specs.Uses.{uses_of}
use Rattle.plx_rules.specs.InUse.{InUse}
use Rattle.plx_rules.specs.Ends.{End}
use Rattle.plx_rules.specs.Hands.{is_held}
use Rattle.plx_rules.specs.Holds.{Hold, Nothing, Seen, Wrote, Waited, Held}
use Rattle.plx_rules.specs.Process.{Process}
use Rattle.plx_rules.specs.Session.{Known}
use Rattle.plx_rules.specs.Settings.{Setting}
use Rattle.plx_rules.specs.Space.{extent_use, give_process, in_extent, release_then, retire_extent, retire_extents}
use Rattle.plx_alloc.specs.Gives.{Around, around_known}
use Rattle.plx_alloc.specs.Retires.{release_next, retire_at, retire_extents_from}
use Rattle.plx_alloc.specs.Suiting.{IsHeldUntil, SuitsGiving}
use Rattle.plx_alloc.specs.Tables.{first_extent, allocator_setting, hand_numbers, has_any, holds_of, is_as, extent_leases}
use Rattle.plx_alloc.specs.declared.allocator.Allocator.{Allocator}
use Rattle.plx_alloc.specs.declared.giving.Giving.{Giving}
use Rattle.plx_alloc.specs.declared.giving.GivingAt.TheVariants as giving
use Rattle.plx_alloc.specs.declared.retire.RetireAt.TheVariants as at
use Rattle.plx_alloc.proofs.Gives.{give-none, giving-first, kept-use}
use Rattle.plx_alloc.proofs.Taking.{hold-here}
use Rattle.plx_alloc.proofs.Passes.{extent_hold_at}

-- what is asked at the first extent whose lease is held
abbrev pub retire_first : Setting → Known → (uses : List InUse) → (holds : ℕ → Hold) → (hand : List ℕ) → Option ℕ → (rest : Process End) → Process End
retire_first s known uses holds hand None rest = rest
retire_first s known uses holds hand (Some extent) rest =
    retire_extent s known uses hand extent (extent_hold_at s.geometry holds extent) (retire_extents s known uses holds hand (s.geometry.extents - (extent + 1)) (extent + 1) rest)

not-held : (s : Setting) (known : Known) (uses : List InUse) (hand : List ℕ) (extent : ℕ) (hold : Hold) (rest : Process End) → is_held hold ≡ false → retire_extent s known uses hand extent hold rest ≡ rest
not-held s known uses hand extent Nothing rest other = refl
not-held s known uses hand extent (Seen sample) rest other = refl
not-held s known uses hand extent (Wrote claim until) rest other = refl
not-held s known uses hand extent (Waited claim until) rest other = refl
not-held s known uses hand extent (Held claim until) rest z = let P : ⊥ = cc in absurd P

pub retire-first : (s : Setting) (known : Known) (uses : List InUse) (holds : ℕ → Hold) (hand : List ℕ) (is : ℕ → Bool) → ((extent : ℕ) → is extent ≡ is_held (extent_hold_at s.geometry holds extent)) →
    (left from : ℕ) (rest : Process End) → from + left ≡ s.geometry.extents →
    retire_extents s known uses holds hand left from rest ≡ retire_first s known uses holds hand (first_extent is left from) rest
retire-first s known uses holds hand is tells zero from rest sum = refl
retire-first s known uses holds hand is tells (suc left) from rest sum = go (retire-first s known uses holds hand is tells left (from + 1) rest (omega (arith, sum))) (is from) refl
  where
    next : Process End
    next = retire_extents s known uses holds hand left (from + 1) rest

    go : next ≡ retire_first s known uses holds hand (first_extent is left (from + 1)) rest → (b : Bool) → is from ≡ b → retire_extent s known uses hand from (extent_hold_at s.geometry holds from) next
        ≡ retire_first s known uses holds hand (if b then Some from else first_extent is left (from + 1)) rest
    go later true so =
        let e : left ≡ s.geometry.extents - (from + 1) = omega (arith, sum) in
        ap (λ k. retire_extent s known uses hand from (extent_hold_at s.geometry holds from) (retire_extents s known uses holds hand k (from + 1) rest)) e
    go later false other =
        not-held s known uses hand from (extent_hold_at s.geometry holds from) next (sym (tells from) ∙ other)
        ∙ later

-- a retire goes by what is held and in hand of the extents from there on
pub retire-same : (s : Setting) (known : Known) (uses : List InUse) (holds others : ℕ → Hold) (hand blocks : List ℕ) (left from : ℕ) (rest : Process End) →
    ((extent : ℕ) → from ≤ extent → extent_hold_at s.geometry holds extent ≡ extent_hold_at s.geometry others extent) →
    ((extent : ℕ) → from ≤ extent → in_extent s.geometry extent hand ≡ in_extent s.geometry extent blocks) →
    retire_extents s known uses holds hand left from rest ≡ retire_extents s known uses others blocks left from rest
retire-same s known uses holds others hand blocks zero from rest held same = refl
retire-same s known uses holds others hand blocks (suc left) from rest held same =
    ap (retire_extent s known uses hand from (extent_hold_at s.geometry holds from))
    (retire-same s known uses holds others hand blocks left (from + 1) rest (λ extent less. held extent (omega (arith, less))) (λ extent less. same extent (omega (arith, less))))
    ∙ (ap (λ hold. retire_extent s known uses hand from hold (retire_extents s known uses others blocks left (from + 1) rest)) (held from (omega arith))
    ∙ by-hand (extent_hold_at s.geometry others from))
  where
    by-hand : (hold : Hold) → retire_extent s known uses hand from hold (retire_extents s known uses others blocks left (from + 1) rest)
        ≡ retire_extent s known uses blocks from hold (retire_extents s known uses others blocks left (from + 1) rest)
    by-hand Nothing = refl
    by-hand (Seen sample) = refl
    by-hand (Wrote claim until) = refl
    by-hand (Waited claim until) = refl
    by-hand (Held claim until) =
        ap (λ mine. give_process s known uses from until mine (release_then s known (extent_use s.geometry from until) (retire_extents s known uses others blocks left (from + 1) rest)))
        (same from (omega arith))

-- ---- the machine of a retire

-- from an extent on
pub retire-extent-next : (o : Around) (a : Allocator) (uses : List InUse) (from : ℕ) (found : Option ℕ) → from ≤ a.geometry.extents →
    found ≡ first_extent (λ extent. is_as true (extent_leases a extent)) (a.geometry.extents - from) from →
    retire_extents_from o a uses from ≡ retire_first (allocator_setting o.appliance a) (around_known o a) uses (holds_of a) (hand_numbers a) found o.rest
retire-extent-next o a uses from found low is =
    retire-first (allocator_setting o.appliance a) (around_known o a) uses (holds_of a) (hand_numbers a) (λ extent. is_as true (extent_leases a extent)) (λ extent. ap is_held (sym (hold-here a extent)))
    (a.geometry.extents - from) from o.rest (omega (arith, low))
    ∙ ap (λ found. retire_first (allocator_setting o.appliance a) (around_known o a) uses (holds_of a) (hand_numbers a) found o.rest) (sym is)

-- the extent is given up
abbrev pub gives_up : Around → Allocator → (uses : List InUse) → (extent : ℕ) → Process End
gives_up o a uses extent = retire_first (allocator_setting o.appliance a) (around_known o a) uses (holds_of a) (hand_numbers a) (Some extent) o.rest

held-up : (o : Around) (a : Allocator) (m : Giving) → SuitsGiving a m → IsHeldUntil a m.extent.0 m.until →
    give_process (allocator_setting o.appliance a) (around_known o a) (uses_of m.uses) m.extent.0 m.until (in_extent a.geometry m.extent.0 (hand_numbers a)) (release_next o a m) ≡ gives_up o a (uses_of m.uses) m.extent.0
held-up o a m suits held =
    let s = allocator_setting o.appliance a in
    let known = around_known o a in
    let e = m.extent.0 in
    let uses = uses_of m.uses in
    let next = retire_extents_from o a uses (e + 1) in
    ap (λ due. give_process s known uses e m.until (in_extent a.geometry e (hand_numbers a)) (release_then s known due next)) (kept-use a.geometry m suits.lease)
    ∙ ap (λ hold. retire_extent s known uses (hand_numbers a) e hold next) (sym (hold-here a e ∙ held.is))

-- its blocks in hand are given back first
pub gives-first : (o : Around) (a : Allocator) (m : Giving) (extent : ExtentNo) → m.at ≡ giving.Map → m.extent ≡ extent → SuitsGiving a m → IsHeldUntil a extent.0 m.until →
    has_any (in_extent a.geometry extent.0 (hand_numbers a)) ≡ true → retire_at at.Give o a m ≡ gives_up o a (uses_of m.uses) extent.0
gives-first o a m extent here is suits held some =
    giving-first (record o { rest = release_next o a m }) a m here suits.map (ap (λ (x : ExtentNo). has_any (in_extent a.geometry x.0 (hand_numbers a))) is ∙ some)
    ∙ (held-up o a m suits (record { claim = held.claim; is = ap (λ (x : ExtentNo). extent_leases a x.0) is ∙ held.is })
    ∙ ap (λ (x : ExtentNo). gives_up o a (uses_of m.uses) x.0) is)

-- or its lease is released at once
pub releases-first : (o : Around) (a : Allocator) (m : Giving) (extent : ExtentNo) → m.extent ≡ extent → SuitsGiving a m → IsHeldUntil a extent.0 m.until →
    has_any (in_extent a.geometry extent.0 (hand_numbers a)) ≡ false → retire_at at.Release o a m ≡ gives_up o a (uses_of m.uses) extent.0
releases-first o a m extent is suits held none' =
    sym (give-none (allocator_setting o.appliance a) (around_known o a) (uses_of m.uses) m.extent.0 m.until (in_extent a.geometry m.extent.0 (hand_numbers a)) (release_next o a m)
    (ap (λ (x : ExtentNo). has_any (in_extent a.geometry x.0 (hand_numbers a))) is ∙ none'))
    ∙ (held-up o a m suits (record { claim = held.claim; is = ap (λ (x : ExtentNo). extent_leases a x.0) is ∙ held.is })
    ∙ ap (λ (x : ExtentNo). gives_up o a (uses_of m.uses) x.0) is)
