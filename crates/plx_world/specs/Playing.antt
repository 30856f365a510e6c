-- What the events of a schedule make of the program's world, and the laws that hold of it.
use Rattle.std.specs.Prelude.{List, Bool, MatchBool}
use Rattle.plx_commands.specs.declared.event.Event.{Event}
use Rattle.plx_commands.specs.declared.event.Event.TheVariants as event
use Rattle.law_headline.specs.Crashes.{CrashLeaves, CrashesLeaveFreshBoots}
use Rattle.law_run.specs.Worlds.{AllKeepRules, BootsKeepRules}
use Rattle.plx_rules.specs.Boots.{AreRuns, BootsHaveNumbers, BootsRun, HaveOwnNumbers}
use Rattle.plx_rules.specs.Headline.{AreUndamaged, Headline, HeadlineOfAll, NeverDamaged}
use Rattle.plx_rules.specs.Owners.{Exclusion, Guarding, HasOneOwner, IsGuarded}
use Rattle.plx_rules.specs.Pools.{AreAllocated, AreApart, GivesClear, HandsAllocated, HandsApart, IsClearedByGives, IsSetByTakes, TakesSet}
use Rattle.plx_rules.specs.Reachable.{AreReachedAllocated, HaveOneLevel, HaveOnePath, OneLevel, OnePath, ReachableAllocated}
use Rattle.plx_rules.specs.Sequences.{Makes, MakesPartly, Plays, PlaysPartly}
use Rattle.plx_rules.specs.World as rules
use Rattle.plx_rules.specs.World.{Reached}
use Rattle.plx_world.specs.Standing.{WorldStands}
use Rattle.plx_world.specs.declared.world.World.{World}

-- the laws hold of a world that events lead to: its replies and images are the model's, and no
-- reply is Damaged; leases exclude and guard; blocks in hand are allocated, in one hand each, and
-- taken and given back under their extents' leases; blocks that trees reach are allocated, have one
-- level, and are on one path where it is marked; each boot's log is a run and keeps the rules, and
-- has its own number
pub record IsLawful (w : rules.World) : Type 0 where
  pub reached : Reached w
  pub headline : Headline w
  pub undamaged : AreUndamaged w.trace
  pub exclusion : HasOneOwner w
  pub guarding : IsGuarded w
  pub allocated : AreAllocated w
  pub apart : AreApart w
  pub takes : IsSetByTakes w
  pub gives : IsClearedByGives w
  pub reachable : AreReachedAllocated w
  pub levels : HaveOneLevel w
  pub paths : HaveOnePath w
  pub logs : AreRuns w
  pub rules : AllKeepRules w
  pub numbers : HaveOwnNumbers w

-- what the laws say of all worlds that events lead to
pub record LawsHold : Type 0 where
  pub headline : HeadlineOfAll
  pub undamaged : NeverDamaged
  pub exclusion : Exclusion
  pub guarding : Guarding
  pub allocated : HandsAllocated
  pub apart : HandsApart
  pub takes : TakesSet
  pub gives : GivesClear
  pub reachable : ReachableAllocated
  pub levels : OneLevel
  pub paths : OnePath
  pub logs : BootsRun
  pub rules : BootsKeepRules
  pub numbers : BootsHaveNumbers
  pub crash : CrashesLeaveFreshBoots

-- a call has led from one world to another: the new value stands for that, and the laws hold of it,
-- where events lead to the first
pub record LeadsTo (new : World) (w v : rules.World) : Type 0 where
  pub stands : WorldStands new v
  pub lawful : Reached w → IsLawful v

-- a crash leaves the fresh appliance of the next boot, where events lead to the world before; of
-- another event no more is said here
abbrev pub LeavesFreshBoot : Event → (w v : rules.World) → Type 0
LeavesFreshBoot (event.Crash appliance) w v = Reached w → CrashLeaves w v appliance.0
LeavesFreshBoot other w v = Unit {0}

-- each world that the old one stands for leads by an event to one that the new one stands for,
-- where the event is possible; else it isn't possible in any
abbrev pub Leads : World → World → Event → Bool → Type 0
Leads old new event possible =
    (w : rules.World) → WorldStands old w → MatchBool possible
    ((v : rules.World) × Makes w event v × LeavesFreshBoot event w v × LeadsTo new w v)
    (((v : rules.World) → ¬ Makes w event v) × LeadsTo new w w)

-- some plain events of an event were made
abbrev pub LeadsPartly : World → World → Event → Type 0
LeadsPartly old new event =
    (w : rules.World) → WorldStands old w →
    (v : rules.World) × MakesPartly w event v × LeadsTo new w v

-- all events of a schedule were played
abbrev pub PlaysAll : World → World → List Event → Type 0
PlaysAll old new events =
    (w : rules.World) → WorldStands old w →
    (v : rules.World) × Plays w events v × LeadsTo new w v

-- some plain events of a schedule were made, from the first one on
abbrev pub PlaysSome : World → World → List Event → Type 0
PlaysSome old new events =
    (w : rules.World) → WorldStands old w →
    (v : rules.World) × PlaysPartly w events v × LeadsTo new w v
