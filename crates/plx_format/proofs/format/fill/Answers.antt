use Rattle.std.proofs.Common.{◌+◌, ◌*◌, ◌∙◌, arith, subst, add-one, sym}
use Rattle.plx_disk.specs.Standing.{Stands}
use Rattle.plx_format.specs.Formatting.{with_blocks}
use Rattle.plx_format.proofs.Filled.{unissued-set, size-set}
use Rattle.plx_format.proofs.format.fill.Goals as goal

pub overflow_mul-i : goal.overflow_mul-i
overflow_mul-i c = let w = c.requires.within c.loop-i.i c.loop-i-test.true in let z = c.requires.high in omega (arith, w, z)

pub overflow_add-first : goal.overflow_add-first
overflow_add-first c = let w = c.requires.within c.loop-i.i c.loop-i-test.true in let z = c.requires.high in omega (arith, w, z)

pub loop-i-preserved : goal.loop-i-preserved
loop-i-preserved c =
    let block = c.args.first.0 + c.loop-i.i * c.args.stride in
    let turns = c.in_ok-set.ensures.ok in
    record {
      filled = λ s stands.
          subst (λ n. Stands c.set.new.self (with_blocks s c.args.first.0 c.args.stride n c.args.bytes.now)) (sym (add-one c.loop-i.i))
          (turns (with_blocks s c.args.first.0 c.args.stride c.loop-i.i c.args.bytes.now) (c.loop-i.invariant.filled s stands));
      unissued = unissued-set c.loop-i.disk c.set.new.self block c.args.bytes.now c.loop-i.invariant.unissued turns;
      size = size-set c.loop-i.disk c.set.new.self block c.args.bytes.now c.loop-i.invariant.unissued turns ∙ c.loop-i.invariant.size;
    }
