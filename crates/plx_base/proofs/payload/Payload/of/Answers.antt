use Rattle.std.proofs.Common.{false, IsTrue}
use Rattle.plx_base.proofs.Uniform.{IsUniform-first}
use Rattle.plx_base.proofs.payload.Payload.of.Goals as goal

pub returns-clause-all : goal.returns-clause-all
returns-clause-all c = (
  (λ none. absurd none),
  λ uniform.
      let e = c.as_slice.ensures.same in
      let first = IsUniform-first c.args.block.now c.as_slice.ensures.len uniform in
      let same : IsTrue false = c.if-is_filled.ensures.1 (rw e first) in
      cc,
)
