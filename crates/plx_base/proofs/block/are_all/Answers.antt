use Rattle.std.proofs.Common.{◌≡◌, ◌↔◌, All, IsTrue, subst}
use Rattle.std.proofs.lemmas.List.{take_all}
use Rattle.plx_base.proofs.Uniform.{none-differs-more}
use Rattle.plx_base.proofs.block.are_all.Goals as goal

pub loop-other-preserved : goal.loop-other-preserved
loop-other-preserved c = none-differs-more c.args.byte c.args.bytes.now c.loop-other.other-index c.loop-other.same c.loop-other-test.true c.loop-other.invariant

pub returns : goal.returns
returns c =
    let whole = take_all c.loop-other.other-index c.args.bytes.now c.loop-other-test.false in
    subst (λ bytes. IsTrue c.loop-other.same ↔ All (λ b. b ≡ c.args.byte) bytes) whole c.loop-other.invariant
