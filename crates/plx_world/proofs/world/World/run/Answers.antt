use Rattle.std.proofs.Common.{◌≡◌, Bool, true, subst}
use Rattle.plx_world.specs.Running.{RunGoesOn}
use Rattle.plx_world.proofs.Answered.{on-err}
use Rattle.plx_world.proofs.Sequences.{run-none, run-some, run-whole}
use Rattle.plx_world.proofs.world.World.run.Goals as goal

pub returns-in_err-advance-clause-err : goal.returns-in_err-advance-clause-err
returns-in_err-advance-clause-err c = on-err _ _ (run-none c.args.appliance c.args.stop c.args.self.now c.advance.new.self c.in_err-advance.ensures.err)

pub returns-in_err-finish-clause-err : goal.returns-in_err-finish-clause-err
returns-in_err-finish-clause-err c =
    let made : c.in_ok-advance.field-0 ≡ true = let is = c.if-not-branch.false in cc in
    let P : Bool → Type 0 = λ made. RunGoesOn c.args.appliance c.args.stop c.args.self.now c.advance.new.self made in
    on-err _ _
    (run-some c.args.appliance c.args.stop c.args.self.now c.advance.new.self c.finish.new.self (subst P made c.in_ok-advance.ensures.ok) c.in_err-finish.ensures.err)

pub returns-clause-ok : goal.returns-clause-ok
returns-clause-ok c =
    let made : c.in_ok-advance.field-0 ≡ true = let is = c.if-not-branch.false in cc in
    let P : Bool → Type 0 = λ made. RunGoesOn c.args.appliance c.args.stop c.args.self.now c.advance.new.self made in
    run-whole c.args.appliance c.args.stop c.args.self.now c.advance.new.self c.finish.new.self (subst P made c.in_ok-advance.ensures.ok) c.in_ok-finish.ensures.ok
