use Rattle.std.proofs.Common.{◌≡◌, ◌-◌}
use Rattle.plx_alloc.specs.Tables.{first_extent, is_as, extent_leases}
use Rattle.plx_alloc.proofs.allocator.Allocator.next_extent.Given as goal

abbrev pub invariant-loop-index : goal.invariant-loop-index
invariant-loop-index l =
    first_extent (λ extent. is_as l.held (extent_leases l.self extent)) (l.self.geometry.extents - l.from) l.from
    ≡ first_extent (λ extent. is_as l.held (extent_leases l.self extent)) (l.self.geometry.extents - l.index) l.index
