-- How a take begins, goes on and ends by its rules.
use Rattle.std.specs.Prelude.{◌≡◌, ℕ, [], Option, Result}
use Rattle.plx_disk.specs.declared.ask.Answer.{Answer}
use Rattle.plx_lease.specs.Uses.{uses_of}
use Rattle.plx_lease.specs.declared.in_use.InUse.{InUse as Use}
use Rattle.plx_rules.specs.Ends.{End}
use Rattle.plx_rules.specs.Process.{Process, Ends}
use Rattle.law_run.specs.Machines.{HasCome, MovesOn}
use Rattle.law_run.specs.Takes.{IsTakeEnd}
use Rattle.plx_rules.specs.Space.{first_taking, take_process}
use Rattle.plx_alloc.specs.Ending.{after_space, space_process}
use Rattle.plx_alloc.specs.Tables.{allocator_setting, hand_numbers, holds_of}
use Rattle.plx_alloc.specs.Takes.{Outer, outer_known, reserve_follows, reserve_rest}
use Rattle.plx_alloc.specs.declared.allocator.Allocator.{Allocator}
use Rattle.plx_alloc.specs.declared.reserve.Reserve.{Reserve}
use Rattle.plx_alloc.specs.declared.space_end.SpaceEnd.{SpaceEnd}

-- the take of so many blocks that is asked of an allocator, beside these leases in use
abbrev pub take_asked : Outer → Allocator → (uses : Option Use) → (count : ℕ) → Process End
take_asked o a uses count =
    take_process (allocator_setting o.appliance a) (holds_of a) count o.rest
    (first_taking (uses_of uses) (outer_known o a) (hand_numbers a))

-- what is left to ask of a take that was begun: its rest, or what is asked once it has ended
abbrev pub reserve_begun : Outer → Allocator → (uses : Option Use) → Result Reserve SpaceEnd →
    Process End
reserve_begun o a uses begun =
    space_process (reserve_rest o a) (o.rest
    (first_taking (uses_of uses) (outer_known o a) (hand_numbers a))) (outer_known o a) begun

-- what is left to ask of a take that was answered: its rest, or what is asked once it has ended
abbrev pub reserve_after : Outer → Allocator → Reserve → Option SpaceEnd → Process End
reserve_after o a m end = after_space (reserve_rest o a m) (reserve_follows o a m) (outer_known o a) end

-- a take has come to this rest by no exchange; where nothing is left to ask, the end keeps the rules of a whole take
pub record BeginsRightly (start rest : Process End) : Type 0 where
  pub log : HasCome start [] rest
  pub end : (end : End) → rest ≡ Ends end → IsTakeEnd rest end

-- an answer that fits moves a take on from what was left to ask before; where nothing is left to ask, the end keeps the rules of a whole take
pub record MovesOnRightly (old : Process End) (x : Answer) (new : Process End) : Type 0 where
  pub log : MovesOn old x new
  pub end : (end : End) → new ≡ Ends end → IsTakeEnd new end
