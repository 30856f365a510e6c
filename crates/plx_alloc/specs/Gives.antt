-- What is still asked where blocks in hand are given back, by where the machine stands and by what is lent to it.
use Rattle.std.specs.Prelude.{◌+◌, ◌-◌, ℕ, zero, suc, List, ◌∷◌, Option}
use Rattle.plx_base.specs.declared.write_kind.WriteKind.TheVariants as kind
use Rattle.plx_geom.specs.Geometry.{extent_lease, lease_at}
use Rattle.plx_lease.specs.Uses.{uses_of}
use Rattle.plx_rules.specs.Ends.{End, damaged_process, read_then, write_then}
use Rattle.plx_rules.specs.Holds.{Hold, Held}
use Rattle.plx_rules.specs.InUse.{InUse}
use Rattle.plx_rules.specs.Process.{Process}
use Rattle.plx_rules.specs.Session.{Session, Known}
use Rattle.plx_rules.specs.Settings.{Setting}
use Rattle.plx_rules.specs.Space.{give_found, give_process, in_extent, read_map}
use Rattle.plx_alloc.specs.Ending.{after_space}
use Rattle.plx_alloc.specs.Tables.{allocator_setting, hand_numbers, holds_of, known_beside}
use Rattle.plx_alloc.specs.declared.allocator.Allocator.{Allocator}
use Rattle.plx_alloc.specs.declared.give_back.GiveBack.{GiveBack}
use Rattle.plx_alloc.specs.declared.giving.Giving.{Giving}
use Rattle.plx_alloc.specs.declared.giving.GivingAt.{GivingAt}
use Rattle.plx_alloc.specs.declared.giving.GivingAt.TheVariants as at
use Rattle.plx_alloc.specs.declared.space_end.SpaceEnd.{SpaceEnd}

-- what the work is a part of: a command of this appliance, with these sessions, which goes on so
pub record Around : Type 0 where
  pub appliance : ℕ
  pub sessions : ℕ → Option Session
  pub rest : Process End

-- what is known
abbrev pub around_known : Around → Allocator → Known
around_known o a = known_beside o.sessions a

-- ---- the blocks of one extent

-- its lease, which is in use beside those of the command
abbrev pub retire_use : Giving → InUse
retire_use m = record { lease = m.lease; until = m.until }

-- what is asked until they are given back
abbrev pub giving_at : GivingAt → Around → Allocator → Giving → Process End
giving_at at.Map o a m =
    read_then m.map.0 (around_known o a) (λ bytes. give_found (allocator_setting o.appliance a)
    (around_known o a) (uses_of m.uses) m.extent.0 m.until
    (in_extent a.geometry m.extent.0 (hand_numbers a)) (read_map a.geometry.extent_blocks bytes) o.rest)
giving_at at.Write o a m = write_then (allocator_setting o.appliance a) (around_known o a) (retire_use m) kind.Give m.map.0 m.out o.rest
giving_at at.Damaged o a m = damaged_process (allocator_setting o.appliance a) (around_known o a)
    (retire_use m ∷ uses_of m.uses) m.map.0

-- what is left of giving back the blocks of an extent
abbrev pub giving_rest : Around → Allocator → Giving → Process End
giving_rest o a m = giving_at m.at o a m

-- ---- all blocks in hand

-- the blocks in hand of an extent are given back, where its lease is held
abbrev pub give_extent : Setting → Known → (uses : List InUse) → (hand : List ℕ) → (extent : ℕ) →
    Hold → (rest : Process End) → Process End
give_extent s known uses hand extent (Held claim until) rest =
    give_process s known uses extent until (in_extent s.geometry extent hand) rest
give_extent s known uses hand extent other rest = rest

-- those of all extents, ascending: of `left` extents from this one on
abbrev pub give_extents : Setting → Known → (uses : List InUse) → (holds : ℕ → Hold) →
    (hand : List ℕ) → (left extent : ℕ) → (rest : Process End) → Process End
give_extents s known uses holds hand zero extent rest = rest
give_extents s known uses holds hand (suc left) extent rest =
    give_extent s known uses hand extent (holds (lease_at (extent_lease s.geometry extent)))
    (give_extents s known uses holds hand left (extent + 1) rest)

-- what is asked of the extents from one on
abbrev pub give_from : Around → Allocator → (uses : List InUse) → (from : ℕ) → Process End
give_from o a uses from = give_extents (allocator_setting o.appliance a) (around_known o a) uses
    (holds_of a) (hand_numbers a) (a.geometry.extents - from) from o.rest

-- what is still asked until all blocks are given back
abbrev pub give_back_rest : Around → Allocator → GiveBack → Process End
give_back_rest o a m = giving_rest (record o
    { rest = give_from o a (uses_of m.giving.uses) (m.giving.extent.0 + 1) }) a m.giving

-- and once it was answered
abbrev pub give_back_after : Around → Allocator → GiveBack → Option SpaceEnd → Process End
give_back_after o a m result = after_space (give_back_rest o a m) o.rest (around_known o a) result
