use Rattle.std.proofs.Common.{◌≡◌, ◌+◌, ◌∙◌, ap, arith}
use Rattle.plx_extent.proofs.Counts.{set_count-all, set_count-map}
use Rattle.plx_extent.specs.Maps.{allocated_count, bits_of}
use Rattle.plx_extent.proofs.map.ExtentMap.count.Goals as goal

-- the map's own bit is the one more
all : (c : goal.After-count_set) → c.count_set.result ≡ 1 + allocated_count c.args.self.now
all c =
    let m = c.self.inside in
    c.count_set.ensures
    ∙ (set_count-all m.blocks m.bytes c.self.invariant
    ∙ (set_count-map m.blocks (bits_of m.blocks m.bytes) c.self.invariant.is ∙ ap (λ bits. 1 + allocated_count bits) c.self.view_is))

pub overflow_sub-result : goal.overflow_sub-result
overflow_sub-result c = let e = all c in omega arith

pub returns : goal.returns
returns c = let e = all c in omega arith
