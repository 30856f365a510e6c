use Rattle.std.proofs.Common.{◌≡◌}
use Rattle.plx_disk.specs.Standing.{Turns, device_size, issued_count}
use Rattle.plx_format.specs.Formatting.{with_blocks}
use Rattle.plx_format.proofs.format.fill.Given as goal

abbrev pub invariant-loop-i : goal.invariant-loop-i
invariant-loop-i l = record {
  filled : Turns l.fn.disk l.disk (λ s. with_blocks s l.first.0 l.stride l.i l.bytes);
  unissued : issued_count l.disk ≡ 0;
  size : device_size l.disk ≡ device_size l.fn.disk;
}
