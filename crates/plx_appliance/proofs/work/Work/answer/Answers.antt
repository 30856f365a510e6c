use Rattle.std.proofs.Common.{refl}
use Rattle.plx_appliance.specs.Kept.{sessions_of}
use Rattle.plx_appliance.specs.Tokens.{image_leases}
use Rattle.plx_appliance.proofs.work.Work.answer.Goals as goal

pub returns-in-Attach-clause-rest : goal.returns-in-Attach-clause-rest
returns-in-Attach-clause-rest c = rw c.in-Attach.is (c.answer.ensures.rest c.args.holdings.now.space.claims)

pub returns-in-Attach-clause-moves : goal.returns-in-Attach-clause-moves
returns-in-Attach-clause-moves c = rw c.in-Attach.is (record { now = _; is = refl; moves = c.answer.ensures.moves }, refl)

pub returns-in-Detach-clause-rest : goal.returns-in-Detach-clause-rest
returns-in-Detach-clause-rest c = rw c.in-Detach.is (c.answer-in-Detach.ensures.rest c.args.holdings.now.space.claims)

pub returns-in-Detach-clause-moves : goal.returns-in-Detach-clause-moves
returns-in-Detach-clause-moves c = rw c.in-Detach.is (record { now = _; is = refl; moves = c.answer-in-Detach.ensures.leases }, refl)

pub returns-in-Image-clause-rest : goal.returns-in-Image-clause-rest
returns-in-Image-clause-rest c = rw c.in-Image.is (c.answer-in-Image.ensures.rest c.args.holdings.now.space.claims)

pub returns-in-Image-clause-moves : goal.returns-in-Image-clause-moves
returns-in-Image-clause-moves c = rw c.in-Image.is (record { now = _; is = refl; moves = refl }, refl)

pub returns-in-Renew-clause-rest : goal.returns-in-Renew-clause-rest
returns-in-Renew-clause-rest c = rw c.in-Renew.is c.answer-in-Renew.ensures.rest

pub returns-in-Renew-clause-moves : goal.returns-in-Renew-clause-moves
returns-in-Renew-clause-moves c = rw c.in-Renew.is (record { now = _; is = refl; moves = c.answer-in-Renew.ensures.moves })

pub returns-in-Reserve-clause-rest : goal.returns-in-Reserve-clause-rest
returns-in-Reserve-clause-rest c = rw c.in-Reserve.is (c.answer-in-Reserve.ensures.rest (sessions_of c.args.holdings.now.sessions.images.items) (image_leases c.args.holdings.now.leases.leases.items))

pub returns-in-Reserve-clause-moves : goal.returns-in-Reserve-clause-moves
returns-in-Reserve-clause-moves c = rw c.in-Reserve.is (record { now = _; is = refl; moves = c.answer-in-Reserve.ensures.moves (sessions_of c.args.holdings.now.sessions.images.items) (image_leases c.args.holdings.now.leases.leases.items) })

pub returns-in-Retire-clause-rest : goal.returns-in-Retire-clause-rest
returns-in-Retire-clause-rest c = rw c.in-Retire.is c.answer-in-Retire.ensures.rest

pub returns-in-Retire-clause-moves : goal.returns-in-Retire-clause-moves
returns-in-Retire-clause-moves c = rw c.in-Retire.is (record { now = _; is = refl; moves = c.answer-in-Retire.ensures.moves })
