use Rattle.plx_rules.proofs.Nested.{bytes-followed, standing-followed}
use Rattle.plx_lease.specs.Claiming.{claim_rest}
use Rattle.plx_lease.proofs.Asking.{claim-asks}
use Rattle.plx_appliance.proofs.attach.Attach.out.Goals as goal

pub returns-in-Claim-clause-bytes : goal.returns-in-Claim-clause-bytes
returns-in-Claim-clause-bytes c = λ known.
    let m = c.in-Claim.claim.claim in
    rw (c.in-Claim.is, bytes-followed (claim_rest m) _ (claim-asks m)) c.out.ensures.bytes

pub returns-in-Claim-clause-whole : goal.returns-in-Claim-clause-whole
returns-in-Claim-clause-whole c = λ known.
    let m = c.in-Claim.claim.claim in
    rw (c.in-Claim.is, standing-followed (claim_rest m) _ (claim-asks m)) c.out.ensures.whole
