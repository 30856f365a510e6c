use Rattle.plx_rules.proofs.Nested.{standing-followed}
use Rattle.plx_lease.specs.Claiming.{claim_rest}
use Rattle.plx_lease.proofs.Asking.{claim-asks}
use Rattle.plx_appliance.proofs.Places.{claim-within}
use Rattle.plx_appliance.proofs.attach.Attach.ask.Goals as goal

pub returns-in-Claim-clause-ask : goal.returns-in-Claim-clause-ask
returns-in-Claim-clause-ask c = λ known.
    let m = c.in-Claim.claim.claim in
    rw (c.in-Claim.is, standing-followed (claim_rest m) _ (claim-asks m)) c.ask.ensures.ask

pub returns-in-Claim-clause-within : goal.returns-in-Claim-clause-within
returns-in-Claim-clause-within c = rw c.in-Claim.is (λ holds sample inside. claim-within c.in-Claim.claim c.ask.result c.ask.ensures.own inside.number)
