use Rattle.std.proofs.Common.{◌≡◌, Bool, true, false, subst, arith}
use Rattle.plx_world.specs.Running.{RunGoesOn}
use Rattle.plx_world.proofs.Sequences.{has-first, has-more, has-over}
use Rattle.plx_world.proofs.world.World.finish.Goals as goal

pub loop-init : goal.loop-init
loop-init c = has-first c.args.appliance c.args.stop c.args.self.now 18446744073709551615 c.blocks-blocks.ensures.limits (omega arith)

pub returns-then-not-branch-clause-ok : goal.returns-then-not-branch-clause-ok
returns-then-not-branch-clause-ok c =
    let over : c.in_ok-advance.field-0 ≡ false = let is = c.if-not-branch.true in cc in
    let P : Bool → Type 0 = λ made. RunGoesOn c.args.appliance c.args.stop c.loop.self c.advance.new.self made in
    has-over c.args.appliance c.args.stop c.args.self.now c.loop.self c.advance.new.self c.loop.counter 18446744073709551615 c.loop.invariant (subst P over c.in_ok-advance.ensures.ok)

pub loop-preserved : goal.loop-preserved
loop-preserved c =
    let made : c.in_ok-advance.field-0 ≡ true = let is = c.if-not-branch.false in cc in
    let P : Bool → Type 0 = λ made. RunGoesOn c.args.appliance c.args.stop c.loop.self c.advance.new.self made in
    has-more c.args.appliance c.args.stop c.args.self.now c.loop.self c.advance.new.self c.loop.counter 18446744073709551615 c.loop.invariant (subst P made c.in_ok-advance.ensures.ok)
