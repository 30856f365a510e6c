-- What a take still asks, by where its machine stands and by what is lent to it.
use Rattle.std.specs.Prelude.{◌≡◌, ◌+◌, ◌-◌, ℕ, List, Option, Some, None}
use Rattle.plx_base.specs.declared.lease.LeaseRecord.{LeaseRecord}
use Rattle.plx_base.specs.declared.write_kind.WriteKind.TheVariants as kind
use Rattle.plx_lease.specs.Claiming.{claim_rest}
use Rattle.plx_lease.specs.Uses.{uses_of}
use Rattle.plx_rules.specs.Ends.{End, damaged_process, read_then, write_then}
use Rattle.plx_rules.specs.Holds.{Hold}
use Rattle.plx_rules.specs.InUse.{InUse, first_reached}
use Rattle.plx_rules.specs.Process.{Process}
use Rattle.plx_rules.specs.Processes.{followed_by}
use Rattle.plx_rules.specs.Session.{Session, Known}
use Rattle.plx_rules.specs.Settings.{Setting}
use Rattle.plx_rules.specs.Space.{Taking, after_extent_claim, extent_use, other_found, read_map, take_found, take_held, take_others, taken_process, with_taken}
use Rattle.plx_alloc.specs.Tables.{allocator_setting, hand_numbers, holds_of, known_beside, numbers}
use Rattle.plx_alloc.specs.declared.allocator.Allocator.{Allocator}
use Rattle.plx_alloc.specs.declared.reserve.Met.{Met}
use Rattle.plx_alloc.specs.declared.reserve.Pass.{Pass}
use Rattle.plx_alloc.specs.declared.reserve.Pass.TheVariants as pass
use Rattle.plx_alloc.specs.declared.reserve.Reserve.{Reserve}
use Rattle.plx_alloc.specs.declared.reserve.ReserveAt.{ReserveAt}
use Rattle.plx_alloc.specs.declared.reserve.ReserveAt.TheVariants as at

-- each reading reaches the same first one of these leases and of those
abbrev pub AreReachedAs : (uses others : List InUse) → Type 0
AreReachedAs uses others = (reading : ℕ) → first_reached uses reading ≡ first_reached others reading

-- what is asked after a take goes by the leases in use only as far as readings reach them
abbrev pub GoesByReached : (Taking → Process End) → Type 0
GoesByReached rest = (t : Taking) (others : List InUse) → AreReachedAs t.uses others →
    rest t ≡ rest (record t { uses = others })

-- what a take is a part of: a command of this appliance, with these sessions, which goes on so once enough blocks are in hand
pub record Outer : Type 0 where
  pub appliance : ℕ
  pub sessions : ℕ → Option Session
  pub rest : Taking → Process End
  pub goes : GoesByReached rest

-- what is known
abbrev pub outer_known : Outer → Allocator → Known
outer_known o a = known_beside o.sessions a

-- the first lease that was busy, with the record that stood there
abbrev pub busy_of : Option Met → Option (ℕ × LeaseRecord)
busy_of None = None
busy_of (Some met) = Some (met.lease, met.seen)

-- how far a take has come
abbrev pub taking_of : Outer → Allocator → Reserve → Taking
taking_of o a m = record {
  known = outer_known o a;
  uses = uses_of m.uses;
  hand = hand_numbers a;
  busy = busy_of m.busy;
}

-- what is asked of the extents from one on, in this pass and those after it
abbrev pub pass_rest : Pass → Setting → (holds : ℕ → Hold) → (count from : ℕ) → (rest : Taking → Process End) → Taking → Process End
pass_rest pass.Held s holds count from rest =
    take_held s count holds (s.geometry.extents - from) from (take_others s count holds s.geometry.extents 0 (taken_process s count rest))
pass_rest pass.Others s holds count from rest = take_others s count holds (s.geometry.extents - from) from (taken_process s count rest)

-- what is asked past the extent at which a take stands
abbrev pub next_rest : Outer → Allocator → Reserve → Taking → Process End
next_rest o a m = pass_rest m.pass (allocator_setting o.appliance a) (holds_of a) m.count (m.extent.0 + 1) o.rest

-- what a take still asks
abbrev pub reserve_at : ReserveAt → Outer → Allocator → Reserve → Process End
reserve_at at.Map o a m =
    read_then m.map.0 (outer_known o a) (λ bytes. take_found (allocator_setting o.appliance a) m.count m.extent.0 m.until
    (read_map a.geometry.extent_blocks bytes) (next_rest o a m) (taking_of o a m))
reserve_at at.Write o a m =
    write_then (allocator_setting o.appliance a) (outer_known o a) (extent_use a.geometry m.extent.0 m.until) kind.Take m.map.0 m.out
    (next_rest o a m (with_taken (taking_of o a m) (numbers m.taken.value.items)))
reserve_at at.Look o a m =
    read_then m.map.0 (outer_known o a) (λ bytes. other_found (allocator_setting o.appliance a) m.count m.extent.0
    (read_map a.geometry.extent_blocks bytes) (next_rest o a m) (taking_of o a m))
reserve_at at.Claim o a m =
    followed_by (claim_rest m.claim) (after_extent_claim (allocator_setting o.appliance a) m.count m.extent.0 (next_rest o a m) (taking_of o a m))
reserve_at at.Damaged o a m = damaged_process (allocator_setting o.appliance a) (outer_known o a)
    (uses_of m.uses) m.map.0

-- in the claim what is known counts it already
abbrev pub reserve_rest : Outer → Allocator → Reserve → Process End
reserve_rest o a m = reserve_at m.at o a m

-- what follows once enough blocks are in hand
abbrev pub reserve_follows : Outer → Allocator → Reserve → Process End
reserve_follows o a m = o.rest (taking_of o a m)
