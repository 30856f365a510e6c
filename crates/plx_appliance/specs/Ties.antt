-- Of which setting the command is that runs, and what of space suits it.
use Rattle.std.specs.Prelude.{ℕ}
use Rattle.std.proofs.Props.{props}
use Rattle.plx_alloc.specs.declared.allocator.Allocator.{Allocator}
use Rattle.plx_appliance.specs.Begins.{begun_leases, begun_slots}
use Rattle.plx_appliance.specs.Machines.{machine_of}
use Rattle.plx_appliance.specs.Works.{work_setting, work_slots, work_suits}
use Rattle.plx_appliance.specs.declared.appliance.Stage.{Stage}
use Rattle.plx_appliance.specs.declared.appliance.Stage.TheVariants as stage
use Rattle.plx_session.specs.declared.setting.Setting.{Setting}

-- what it is given
abbrev pub stage_setting : Setting → Stage → Setting
stage_setting setting stage.Idle = setting
stage_setting setting (stage.Begun begun) = setting
stage_setting setting (stage.In w) = work_setting w

-- for how many journal slots it has memory
abbrev pub stage_slots : ℕ → Stage → ℕ
stage_slots slots stage.Idle = slots
stage_slots slots (stage.Begun begun) = begun_slots slots begun
stage_slots slots (stage.In w) = work_slots w

-- for how many leases it has memory
abbrev pub stage_leases : ℕ → Stage → ℕ
stage_leases leases (stage.Begun begun) = begun_leases leases begun
stage_leases leases other = leases

-- it suits what is kept of space
abbrev pub stage_suits : Allocator → Stage → Type 0
stage_suits space stage.Idle = Unit {0}
stage_suits space (stage.Begun begun) = Unit {0}
stage_suits space (stage.In w) = work_suits space w

-- in one way at most
pub suits-prop : (space : Allocator) (place : Stage) → IsProp (stage_suits space place)
suits-prop space stage.Idle = Prim.hlevel props
suits-prop space (stage.Begun begun) = Prim.hlevel props
suits-prop space (stage.In w) = (machine_of w).one space
