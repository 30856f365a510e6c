use Rattle.std.proofs.Common.{◌≡◌, ◌+◌, ◌*◌, ◌≤◌}
use Rattle.std.specs.Prelude.{◌-◌, ◌^◌}
use Rattle.plx_disk.specs.Standing.{Stands}
use Rattle.plx_disk.specs.Writes.{Surface}
use Rattle.plx_rules.specs.Pools.{HasMaps, allocated_from}
use Rattle.plx_format.proofs.count.allocated.Given as goal

abbrev pub invariant-loop-extent : goal.invariant-loop-extent
invariant-loop-extent l = record {
  counted : (s : Surface) → Stands l.disk s → HasMaps l.geometry s.device →
      l.total + allocated_from l.geometry s.device (l.geometry.extents - l.extent) l.extent ≡ allocated_from l.geometry s.device l.geometry.extents 0;
  small : l.total ≤ l.extent * 2 ^ 32;
}
