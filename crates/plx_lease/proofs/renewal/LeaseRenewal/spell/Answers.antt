use Rattle.std.proofs.Common.{ap, length, ◌∙◌}
use Rattle.plx_base.specs.declared.lease.LeaseRecord.TheVariants.{Claimed}
use Rattle.plx_gate.proofs.Leases.{length-lease}
use Rattle.plx_lease.proofs.renewal.LeaseRenewal.spell.Goals as goal

pub returns-clause-whole : goal.returns-clause-whole
returns-clause-whole c = ap length c.spell_lease.ensures ∙ length-lease (Claimed c.args.self.now.claim c.args.self.now.later)
