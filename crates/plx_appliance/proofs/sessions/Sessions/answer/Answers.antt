use Rattle.std.proofs.Common.{ap, arith}
use Rattle.plx_base.specs.declared.numbers.SlotNo.{SlotNo}
use Rattle.plx_rules.specs.Process.{answered}
use Rattle.plx_session.specs.Works.{image_leased, image_rest}
use Rattle.plx_appliance.proofs.Sharing.{answered-lent}
use Rattle.plx_appliance.proofs.sessions.Sessions.answer.Goals as goal

pub returns-clause-rest : goal.returns-clause-rest
returns-clause-rest c = λ claims.
    let table = c.args.self.now in
    let old = c.args.work.now in
    answered-lent table.images.items claims table.count c.slot.result.0 (image_leased old).slot.0 c.index_mut.result.now c.answer.new.session c.answer.new.self c.answer.result
    (λ known. answered (image_rest known old) c.args.answer.now)
    (ap (λ (slot : SlotNo). slot.0) c.slot.ensures) c.requires.within (omega (arith, table.long, table.images.ok.0)) c.index_mut.ensures.value c.answer.ensures.session c.answer.ensures.rest
