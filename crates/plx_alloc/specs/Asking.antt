-- What is asked of the device, and whether it concerns a lease or the hand.
use Rattle.std.specs.Prelude.{◌<◌, ◌^◌}
use Rattle.plx_base.specs.declared.write_kind.WriteKind.{WriteKind}
use Rattle.plx_base.specs.declared.write_kind.WriteKind.TheVariants as kind
use Rattle.plx_disk.specs.declared.ask.Ask.{Ask}
use Rattle.plx_disk.specs.declared.ask.Ask.TheVariants as ask
use Rattle.plx_geom.specs.Geometry.{Geometry, block_count, lease_at, lease_count}
use Rattle.plx_rules.specs.Machines.{AsksOnly}
use Rattle.plx_alloc.specs.declared.reserve.Reserve.{Reserve}
use Rattle.plx_alloc.specs.declared.reserve.ReserveAt.{ReserveAt}
use Rattle.plx_alloc.specs.declared.reserve.ReserveAt.TheVariants as at
use Rattle.plx_alloc.specs.declared.retire.Retire.{Retire}
use Rattle.plx_alloc.specs.declared.retire.RetireAt.{RetireAt}
use Rattle.plx_alloc.specs.declared.retire.RetireAt.TheVariants as retire

-- what is asked is on the device, and no guard is too late for its clock
abbrev pub IsOnDevice : Geometry → Ask → Type 0
IsOnDevice g (ask.Read block) = block.0 < block_count g
IsOnDevice g (ask.Write kind block guard) = (block.0 < block_count g) × (guard < 2 ^ 49)
IsOnDevice g ask.Clock = Unit {0}
IsOnDevice g (ask.Until from) = Unit {0}

-- a write of this kind claims, renews and releases no lease
abbrev pub KeepsLeases : WriteKind → Type 0
KeepsLeases kind.Claim = ⊥
KeepsLeases kind.Renew = ⊥
KeepsLeases kind.Release = ⊥
KeepsLeases other = Unit {0}

-- an ask that concerns no lease: none is read or written
abbrev pub SparesLeases : Geometry → Ask → Type 0
SparesLeases g (ask.Read block) = lease_count g < block.0
SparesLeases g (ask.Write kind block guard) = KeepsLeases kind
SparesLeases g ask.Clock = Unit {0}
SparesLeases g (ask.Until from) = Unit {0}

-- an ask that leaves the hand: no block is taken or given back, filled or linked to a node
abbrev pub SparesHand : Ask → Type 0
SparesHand (ask.Write kind.Take block guard) = ⊥
SparesHand (ask.Write kind.Give block guard) = ⊥
SparesHand (ask.Write kind.Fresh block guard) = ⊥
SparesHand (ask.Write kind.Link block guard) = ⊥
SparesHand other = Unit {0}

-- what the claim of a take asks concerns its lease alone, and every other ask of a take no lease
abbrev pub reserve_spares : ReserveAt → Geometry → Reserve → Ask → Type 0
reserve_spares at.Claim g m ask = AsksOnly (lease_at m.claim.number) ask
reserve_spares other g m ask = SparesLeases g ask

-- what a release asks concerns its lease alone, and every other ask of a retire no lease
abbrev pub retire_spares : RetireAt → Geometry → Retire → Ask → Type 0
retire_spares retire.Release g m ask = AsksOnly (lease_at m.giving.lease) ask
retire_spares other g m ask = SparesLeases g ask
