use Rattle.std.proofs.Common.{refl}
use Rattle.plx_geom.specs.Geometry.{image_lease}
use Rattle.plx_appliance.proofs.attach.Attach.claim.Goals as goal

pub returns-clause-rest : goal.returns-clause-rest
returns-clause-rest c = λ known.
    let claimed = c.begin-claim.ensures.rest (image_lease c.args.slot.0) c.block-block.ensures.block in
    rw claimed refl

pub returns-clause-starts : goal.returns-clause-starts
returns-clause-starts c = λ leases none. record {
  number = c.begin-claim.ensures.number (image_lease c.args.slot.0) c.block-block.ensures.block;
  none = none;
  fresh = c.begin-claim.ensures.hold;
  sampled = c.begin-claim.ensures.sampled;
}
