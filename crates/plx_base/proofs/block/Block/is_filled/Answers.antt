use Rattle.std.proofs.Common.{◌≡◌, ◌∙◌, sym, ap, length}
use Rattle.plx_base.proofs.Uniform.{All-filled, filled-All}
use Rattle.plx_base.proofs.block.Block.is_filled.Goals as goal

pub returns : goal.returns
returns c =
    let same = c.as_slice.ensures.same in
    let long : length c.as_slice.result.now ≡ 4096 = ap length same ∙ c.as_slice.ensures.len in (
      (λ h. sym same ∙ filled-All c.args.byte c.as_slice.result.now long (c.are_all.ensures.0 h)),
      λ h. c.are_all.ensures.1 (All-filled c.args.byte c.as_slice.result.now (same ∙ h)),
    )
