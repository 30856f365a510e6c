use Rattle.std.proofs.Common.{◌≤◌, ◌∙◌, ap, length, arith}
use Rattle.plx_extent.proofs.Counts.{allocated_count-kept_map}
use Rattle.plx_extent.proofs.Maps.{length-bits_from}
use Rattle.plx_extent.proofs.Changes.{SpellsMap, kept-spells, length-kept_bits}
use Rattle.plx_extent.specs.Maps.{allocated_count, bits_of, kept_map}
use Rattle.plx_extent.proofs.map.ExtentMap.keep_only.Given as given
use Rattle.plx_extent.proofs.map.ExtentMap.keep_only.Goals as goal

bytes-spell-kept : (g : given.Over) (c : goal.After-keep_marked g) →
    SpellsMap c.self.inside.blocks c.keep_marked.new.bytes (kept_map (g.M.MarkSet.is_marked c.args.marks.now) (bits_of c.self.inside.blocks c.self.inside.bytes))
bytes-spell-kept g c =
    let m = c.self.inside in
    let long = length-bits_from m.blocks 0 m.bytes in
    let most = c.self.invariant.most in
    kept-spells m.blocks m.bytes c.keep_marked.new.bytes (g.M.MarkSet.is_marked c.args.marks.now) c.self.invariant
    (c.keep_marked.ensures (bits_of m.blocks m.bytes) (omega (arith, long, most)) c.self.invariant.spelled)

pub invariant_of-self : goal.invariant_of-self
invariant_of-self g c = (bytes-spell-kept g c).holds

pub returns-clause-kept : goal.returns-clause-kept
returns-clause-kept g c = (bytes-spell-kept g c.before).has ∙ ap (λ bits. kept_map (g.M.MarkSet.is_marked c.args.marks.now) bits) c.self.view_is

pub returns-clause-len : goal.returns-clause-len
returns-clause-len g c = ap (λ bits. length bits) (returns-clause-kept g c) ∙ length-kept_bits (g.M.MarkSet.is_marked c.args.marks.now) 0 c.args.self.now

-- no more are set than were
fewer : (g : given.Over) (c : goal.After-count g) → c.count.result ≤ c.count-before.result
fewer g c =
    let marked = g.M.MarkSet.is_marked c.args.marks.now in
    let less = allocated_count-kept_map marked c.args.self.now in
    let now = c.count.ensures ∙ ap allocated_count (returns-clause-kept g c) in
    omega (arith, less, now, c.count-before.ensures)

pub overflow_sub-result : goal.overflow_sub-result
overflow_sub-result g c = fewer g c

pub returns-clause-cleared : goal.returns-clause-cleared
returns-clause-cleared g c =
    let less = fewer g c in
    omega (arith, less, c.count.ensures, c.count-before.ensures)
