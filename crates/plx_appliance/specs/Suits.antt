-- What is kept of space suits a machine in one way at most.
use Rattle.std.proofs.Props.{props}
use Rattle.plx_alloc.specs.Suiting.{SuitsReserve, gives_at, suits_at}
use Rattle.plx_alloc.specs.declared.allocator.Allocator.{Allocator}
use Rattle.plx_alloc.specs.declared.giving.Giving.{Giving}
use Rattle.plx_alloc.specs.declared.giving.GivingAt.{GivingAt}
use Rattle.plx_alloc.specs.declared.giving.GivingAt.TheVariants as giving
use Rattle.plx_alloc.specs.declared.reserve.Reserve.{Reserve as Take}
use Rattle.plx_alloc.specs.declared.reserve.ReserveAt.{ReserveAt}
use Rattle.plx_alloc.specs.declared.reserve.ReserveAt.TheVariants as at
use Rattle.plx_appliance.specs.Retires.{retire_suits}
use Rattle.plx_appliance.specs.declared.retire.RetireStage.{RetireStage}
use Rattle.plx_appliance.specs.declared.retire.RetireStage.TheVariants as retire_stage
use Rattle.plx_session.specs.declared.setting.Setting.{Setting}

-- a take
pub take_at-prop : (place : ReserveAt) (a : Allocator) (m : Take) → IsProp (suits_at place a m)
take_at-prop at.Map a m = Prim.hlevel props
take_at-prop at.Write a m = Prim.hlevel props
take_at-prop at.Look a m = Prim.hlevel props
take_at-prop at.Claim a m = Prim.hlevel props
take_at-prop at.Damaged a m = Prim.hlevel props

-- so of a reserve, wherever it stands
pub take-prop : (a : Allocator) (m : Take) → IsProp (SuitsReserve a m)
take-prop a m = Prim.hlevel (props, take_at-prop)

-- a retire
pub gives_at-prop : (place : GivingAt) (a : Allocator) (m : Giving) → IsProp (gives_at place a m)
gives_at-prop giving.Map a m = Prim.hlevel props
gives_at-prop giving.Write a m = Prim.hlevel props
gives_at-prop giving.Damaged a m = Prim.hlevel props

-- so of a retire, at each stage
pub retire-prop : (a : Allocator) (setting : Setting) (place : RetireStage) → IsProp (retire_suits a setting place)
retire-prop a setting (retire_stage.Extents m) = Prim.hlevel (props, gives_at-prop)
retire-prop a setting (retire_stage.Image image) = Prim.hlevel props
