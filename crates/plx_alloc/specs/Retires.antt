-- What the extents' part of a retire still asks, by where its machine stands and by what is lent to it.
use Rattle.std.specs.Prelude.{◌+◌, ◌-◌, ℕ, List, Option}
use Rattle.plx_lease.specs.Uses.{uses_of}
use Rattle.plx_rules.specs.InUse.{InUse}
use Rattle.plx_rules.specs.Ends.{End}
use Rattle.plx_rules.specs.Process.{Process}
use Rattle.plx_rules.specs.Space.{release_then, retire_extents}
use Rattle.plx_alloc.specs.Ending.{after_space}
use Rattle.plx_alloc.specs.Gives.{Around, around_known, giving_rest, retire_use}
use Rattle.plx_alloc.specs.Tables.{allocator_setting, hand_numbers, holds_of}
use Rattle.plx_alloc.specs.declared.allocator.Allocator.{Allocator}
use Rattle.plx_alloc.specs.declared.giving.Giving.{Giving}
use Rattle.plx_alloc.specs.declared.retire.Retire.{Retire}
use Rattle.plx_alloc.specs.declared.retire.RetireAt.{RetireAt}
use Rattle.plx_alloc.specs.declared.retire.RetireAt.TheVariants as at
use Rattle.plx_alloc.specs.declared.space_end.SpaceEnd.{SpaceEnd}

-- what is asked of the extents from one on
abbrev pub retire_extents_from : Around → Allocator → (uses : List InUse) → (from : ℕ) → Process End
retire_extents_from o a uses from =
    retire_extents (allocator_setting o.appliance a) (around_known o a) uses (holds_of a)
    (hand_numbers a) (a.geometry.extents - from) from o.rest

-- the lease of the extent is released, and the retire goes on past it
abbrev pub release_next : Around → Allocator → Giving → Process End
release_next o a m = release_then (allocator_setting o.appliance a) (around_known o a)
    (retire_use m) (retire_extents_from o a (uses_of m.uses) (m.extent.0 + 1))

-- what a retire still asks
abbrev pub retire_at : RetireAt → Around → Allocator → Giving → Process End
retire_at at.Give o a m = giving_rest (record o { rest = release_next o a m }) a m
retire_at at.Release o a m = release_next o a m

-- what is left of giving up the extents
abbrev pub retire_extents_rest : Around → Allocator → Retire → Process End
retire_extents_rest o a m = retire_at m.at o a m.giving

-- and once it was answered
abbrev pub retire_after : Around → Allocator → Retire → Option SpaceEnd → Process End
retire_after o a m result = after_space (retire_extents_rest o a m) o.rest (around_known o a) result
